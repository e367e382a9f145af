use Rattle.std.proofs.Common.{ap, arith}
use Rattle.judy_node.specs.Populations.{population}
use Rattle.judy_node.proofs.child.BranchOf.sums_of_children.Goals as goal

pub of-requires : goal.of-requires
of-requires g c =
    let keys = c.keys.ensures in
    let fits = c.keys.type_inv in
    let same = ap population c.deref.ensures.value in
    omega arith
