use Rattle.std.proofs.Common.{subst, arith}
use Rattle.judy_node.specs.Roots.{IsRoot}
use Rattle.judy_change.proofs.GivenValues.{no_fewer}
use Rattle.judy_change.proofs.way_down.put_in_root.Goals as goal

pub returns-in-Many-clause-root : goal.returns-in-Many-clause-root
returns-in-Many-clause-root g c =
    let root = subst (IsRoot g.V.Words.WORDS) c.in-Many.is c.requires.root in
    let many = root.1 in
    let kept = no_fewer g.P.Present.REPLACES c.args.pair.key c.args.pair.value c.in-Many.child c.put_in_many.new.child c.put_in_many.result c.put_in_many.ensures.put in
    (c.put_in_many.ensures.child, omega arith)
