use Rattle.std.proofs.Common.{rules}
use Rattle.judy_command.proofs.values.map_on_pair.Goals as goal

pub returns-in_ok-word-in-Put : goal.returns-in_ok-word-in-Put
returns-in_ok-word-in-Put g c = search rules
