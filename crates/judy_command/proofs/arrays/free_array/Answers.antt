use Rattle.std.proofs.Common.{ap, is_ok}
use Rattle.judy_model.specs.Replies.{freed}
use Rattle.judy_model.specs.Commands as model
use Rattle.judy_command.proofs.NamedArrays.{Follows-at_name}
use Rattle.judy_command.proofs.arrays.free_array.Goals as goal

pub returns : goal.returns
returns c =
    Follows-at_name c.args.shelf.now c.args.name.now model.freed_whole c.in_ok-array_at.field-0.now c.free.new.self
    (c.array_at.follows.lender c.free.new.self) _ c.in_ok-array_at.ensures.value (c.array_at.follows.holds c.free.new.self (ap is_ok c.in_ok-array_at.was))
    (ap freed c.free.ensures.freed, c.free.ensures.emptied)
