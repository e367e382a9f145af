use Rattle.std.proofs.Common.{refl, ◌∙◌}
use Rattle.judy_node.proofs.child.KindOf.slot_at.Goals as goal

pub returns-in-Branch : goal.returns-in-Branch
returns-in-Branch g c = (
  rw (c.deref_mut.ensures.value, c.in-Branch.is) refl,
  record { changes = tt; value = c.slot_at.ensures.value ∙ (rw (c.deref_mut.ensures.value, c.in-Branch.is) refl) },
)
