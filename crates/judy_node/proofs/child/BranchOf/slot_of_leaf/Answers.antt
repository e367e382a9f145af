use Rattle.std.specs.Option.{ghost_name_of}
use borrow.Follows.Closed.{read_of}
use Rattle.judy_node.proofs.Loans.{written, back}
use Rattle.judy_node.proofs.child.BranchOf.slot_of_leaf.Goals as goal

pub returns : goal.returns
returns g c = (
  λ t. read_of (ghost_name_of c.slot_of_byte.result) (λ w. written c.args.self.now c.args.seat.at c.child_at.result.now c.child_at.ensures.value c.args.seat.rest w t)
      (back c.args.self.now c.args.seat.at c.child_at.result.now c.child_at.ensures.value t),
  record { changes = tt; value = rw (← c.child_at.ensures.value) c.slot_of_byte.ensures.value },
)
