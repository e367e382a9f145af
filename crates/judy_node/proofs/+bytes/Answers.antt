use Rattle.std.proofs.Common.{length, ap, arith}
use Rattle.judy_node.specs.Trees.{forms_in}
use Rattle.judy_node.proofs.ShapeFacts.{forms-within}
use Rattle.judy_node.proofs.+bytes.Goals as goal

pub memory::bytes_of_branch-bytes-total-requires : goal.memory::bytes_of_branch-bytes-total-requires
memory::bytes_of_branch-bytes-total-requires g t c κs within =
    let kids = c.deref-child-items.result.now in
    let same = ap (λ k. length (forms_in k)) c.deref-child-items.ensures.value in
    let parts = forms-within kids c.loop-child.child-index c.child-item.result c.loop-child-test.true c.child-item.is in
    let falls = c.decreases in
    (omega arith, (within, omega arith))
