use Rattle.std.proofs.Common.{ap, is_ok}
use Rattle.judy_model.specs.Commands as model
use Rattle.judy_command.specs.CommandsOf.{key_command_of}
use Rattle.judy_command.proofs.NamedArrays.{Follows-at_name}
use Rattle.judy_command.proofs.arrays.on_key_at.Goals as goal

pub returns : goal.returns
returns c =
    Follows-at_name c.args.shelf.now c.args.name.now (model.on_key (key_command_of c.args.command) c.args.token.now) c.in_ok-array_at.field-0.now c.on_key.new.array
    (c.array_at.follows.lender c.on_key.new.array) _ c.in_ok-array_at.ensures.value (c.array_at.follows.holds c.on_key.new.array (ap is_ok c.in_ok-array_at.was)) c.on_key.ensures
