use Rattle.std.proofs.Common.{sym, ap, ◌∙◌, subst}
use Rattle.judy_leaf.specs.KeyLists.{keys_of}
use Rattle.judy_node.specs.Trees.{IsChild}
use Rattle.judy_node.specs.Kinds.{tree_of, IsLevel}
use Rattle.judy_node.proofs.BitFacts.{bit_keys_of}
use Rattle.judy_node.proofs.child.ChildOf.bits.Goals as goal

pub returns-in-Bit : goal.returns-in-Bit
returns-in-Bit g c =
    let words = g.V.Words.WORDS in
    let same = ap (tree_of words) (sym c.in-Bit.is) ∙ c.kind.ensures.tree in
    let level = subst (λ kind. IsLevel words kind) c.in-Bit.is c.kind.ensures.level in
    c.to_bits.ensures ∙ ap (λ list. keys_of list.pairs) c.new-in-Bit.ensures
    ∙ sym (bit_keys_of words c.in-Bit.field-0 c.in-Bit.block level (subst (IsChild words 1) (sym same) c.requires)) ∙ ap (λ tree. keys_of tree.pairs) same
