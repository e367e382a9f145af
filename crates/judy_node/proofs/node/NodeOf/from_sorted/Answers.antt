use Rattle.std.proofs.Common.{◌^◌, length, sym, ap, ◌∙◌, subst, arith}
use Rattle.std.proofs.lemmas.Bool.{eqb-false}
use Rattle.judy_node.specs.Trees.{IsMap, IsChild}
use Rattle.judy_node.proofs.Groups.{length-low_pairs}
use Rattle.judy_node.proofs.MadeFacts.{low_pairs_same}
use Rattle.judy_node.proofs.node.NodeOf.from_sorted.Goals as goal

pub kind_of_sorted-requires-clause-map : goal.kind_of_sorted-requires-clause-map
kind_of_sorted-requires-clause-map g c = subst (IsMap g.V.Words.WORDS 0 (256 ^ 8)) (sym (low_pairs_same g.V.Words.WORDS 0 (256 ^ 8) c.args.pairs.now c.requires.map)) c.requires.map

pub close-requires-3 : goal.close-requires-3
close-requires-3 g c =
    let words = g.V.Words.WORDS in
    let built = c.in_ok-kind.ensures.built in
    let long = ap (λ tree. length tree.pairs) c.close-2.ensures ∙ ap length built.same ∙ length-low_pairs (256 ^ 8) c.args.pairs.now in
    let some = eqb-false (length c.args.pairs.now) 0 (sym c.is_empty.ensures ∙ c.if-is_empty.false) in
    (omega arith, (omega arith, (subst (IsChild words 8) (sym c.close-2.ensures) built.child, omega arith)))

pub returns-clause-pairs : goal.returns-clause-pairs
returns-clause-pairs g c =
    ap (λ tree. tree.pairs) c.close-3.ensures ∙ ap (λ tree. tree.pairs) c.close-2.ensures ∙ c.in_ok-kind.ensures.built.same ∙ low_pairs_same g.V.Words.WORDS 0 (256 ^ 8) c.args.pairs.now c.requires.map
