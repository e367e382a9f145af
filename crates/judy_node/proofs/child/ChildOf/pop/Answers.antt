use Rattle.std.proofs.Common.{length, sym, ap, ◌∙◌, subst}
use Rattle.judy_node.specs.Kinds.{tree_of, IsLevel}
use Rattle.judy_node.proofs.Leaves.{leaf_long}
use Rattle.judy_node.proofs.Counted.{imm_count, bit_count}
use Rattle.judy_node.proofs.child.ChildOf.pop.Goals as goal

pub returns-in-Imm : goal.returns-in-Imm
returns-in-Imm g c =
    let words = g.V.Words.WORDS in
    c.imm_len.ensures ∙ imm_count words c.in-Imm.head c.in-Imm.field-1 (subst (λ kind. IsLevel words kind) c.in-Imm.is c.kind.ensures.level)
    ∙ ap (λ tree. length tree.pairs) (ap (tree_of words) (sym c.in-Imm.is) ∙ c.kind.ensures.tree)

pub returns-in-Leaf : goal.returns-in-Leaf
returns-in-Leaf g c =
    let words = g.V.Words.WORDS in
    let level = subst (λ kind. IsLevel words kind) c.in-Leaf.is c.kind.ensures.level in
    c.from.ensures ∙ sym (leaf_long words c.in-Leaf.count c.in-Leaf.field-1 level.parts)
    ∙ ap (λ tree. length tree.pairs) (ap (tree_of words) (sym c.in-Leaf.is) ∙ c.kind.ensures.tree)

pub returns-in-Bit : goal.returns-in-Bit
returns-in-Bit g c =
    let words = g.V.Words.WORDS in
    c.from-in-Bit.ensures ∙ c.bit_count.ensures
    ∙ bit_count words c.in-Bit.field-0 c.in-Bit.block (subst (λ kind. IsLevel words kind) c.in-Bit.is c.kind.ensures.level)
    ∙ ap (λ tree. length tree.pairs) (ap (tree_of words) (sym c.in-Bit.is) ∙ c.kind.ensures.tree)
