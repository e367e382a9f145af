use Rattle.std.proofs.Common.{rules, sym, ap, subst, ◌∙◌}
use Rattle.judy_node.specs.Kinds.{tree_of, IsLevel}
use Rattle.judy_node.proofs.ViewFacts.{bit_view}
use Rattle.judy_node.proofs.child.ChildOf.enter.Goals as goal

pub returns-in-Bit-clause-view : goal.returns-in-Bit-clause-view
returns-in-Bit-clause-view g c =
    let words = g.V.Words.WORDS in
    bit_view words c.args.width c.in-Bit.head c.in-Bit.block c.args.self.now c.new-in-Bit.result c.number-in-Bit.result
    (subst (λ kind. IsLevel words kind) c.in-Bit.is c.kind.ensures.level)
    (ap (tree_of words) (sym c.in-Bit.is) ∙ c.kind.ensures.tree)
    c.requires.child
    c.new-in-Bit.ensures
    c.number-in-Bit.ensures.value

pub returns-in-Imm-clause-visits : goal.returns-in-Imm-clause-visits
returns-in-Imm-clause-visits g c = search rules

pub returns-in-Leaf-clause-visits : goal.returns-in-Leaf-clause-visits
returns-in-Leaf-clause-visits g c = search rules

pub returns-in-Bit-clause-visits : goal.returns-in-Bit-clause-visits
returns-in-Bit-clause-visits g c = search rules

pub returns-in-Branch-clause-visits : goal.returns-in-Branch-clause-visits
returns-in-Branch-clause-visits g c = search rules
