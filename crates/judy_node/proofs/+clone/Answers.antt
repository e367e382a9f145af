use Rattle.std.proofs.Common.{length, ap, arith}
use Rattle.judy_node.specs.Trees.{forms_in}
use Rattle.judy_node.proofs.ShapeFacts.{forms-within}
use Rattle.judy_node.proofs.+clone.Goals as goal

pub clone::clone_branch-try_clone-requires : goal.clone::clone_branch-try_clone-requires
clone::clone_branch-try_clone-requires g t c κs within =
    let kids = c.deref-child-items.result.now in
    let same = ap (λ k. length (forms_in k)) c.deref-child-items.ensures.value in
    let parts = forms-within kids c.loop-child.child-index c.child-item.result c.loop-child-test.true c.child-item.is in
    let falls = c.decreases in
    (omega arith, (within, omega arith))
