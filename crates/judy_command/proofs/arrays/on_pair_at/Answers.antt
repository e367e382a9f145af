use Rattle.std.proofs.Common.{ap, is_ok}
use Rattle.judy_model.specs.Commands as model
use Rattle.judy_command.specs.CommandsOf.{pair_command_of}
use Rattle.judy_command.proofs.NamedArrays.{Follows-at_name}
use Rattle.judy_command.proofs.arrays.on_pair_at.Goals as goal

pub returns : goal.returns
returns c =
    Follows-at_name c.args.shelf.now c.args.name.now (model.on_pair (pair_command_of c.args.command) c.args.first.now c.args.second.now) c.in_ok-array_at.field-0.now c.on_pair.new.array
    (c.array_at.follows.lender c.on_pair.new.array) _ c.in_ok-array_at.ensures.value (c.array_at.follows.holds c.on_pair.new.array (ap is_ok c.in_ok-array_at.was)) c.on_pair.ensures
