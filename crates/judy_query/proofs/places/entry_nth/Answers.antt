use Rattle.std.proofs.Common.{rules}
use Rattle.judy_query.proofs.places.entry_nth.Goals as goal

pub returns-clause-entry : goal.returns-clause-entry
returns-clause-entry g c = search rules
