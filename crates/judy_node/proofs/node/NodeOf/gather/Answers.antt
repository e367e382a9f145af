use Rattle.std.proofs.Common.{length, drop, ap, refl, sym, ◌∙◌, arith}
use Rattle.std.proofs.lemmas.List.{take-append-le, take_all}
use Rattle.judy_node.specs.Roots.{root_tree}
use Rattle.judy_node.proofs.Maps.{length-shift, shift-zero}
use Rattle.judy_node.proofs.node.NodeOf.gather.Goals as goal

pub returns-in_ok-pairs-in-Many : goal.returns-in_ok-pairs-in-Many
returns-in_ok-pairs-in-Many g c =
    let many = ap length c.fill.ensures ∙ length-shift 0 c.in-Many.child.pairs in
    let long = c.in_ok-pairs-in-Many.ensures.len in
    let pop = c.pop.ensures in
    let n = c.in_ok-pairs-in-Many.pairs.len in
    take-append-le n c.fill.new.out (drop (length c.fill.new.out) c.in_ok-pairs-in-Many.pairs.items) (omega arith)
    ∙ take_all n c.fill.new.out (omega arith)
    ∙ c.fill.ensures ∙ shift-zero 0 c.in-Many.child.pairs refl
    ∙ ap (λ tree. tree.pairs) (ap root_tree (sym c.in-Many.is) ∙ c.self.view_is)
