use Rattle.std.proofs.Common.{◌+◌, ◌^◌, ◌∷◌, get_or, refl, ap, ◌∙◌, subst, arith}
use Rattle.std.proofs.lemmas.List.{drop_all}
use Rattle.judy_leaf.specs.KeyLists.{shift, values_of}
use Rattle.judy_node.specs.Views.{view_pairs}
use Rattle.judy_query.specs.Parts.{IsShown, width_of}
use Rattle.judy_query.proofs.RankFacts.{pair_at, at_below}
use Rattle.judy_query.proofs.WalkFacts.{stretch_step}
use Rattle.judy_query.proofs.ends.only_pair.Goals as goal

pub overflow_add-result : goal.overflow_add-result
overflow_add-result g c =
    let words = g.V.Words.WORDS in
    let pairs = c.in-Imm.list.pairs in
    let shown = subst (IsShown words) c.in-Imm.is c.requires.shown in
    let there = pair_at pairs 0 c.key_at.result (get_or (values_of pairs) 0 0) (omega arith) c.key_at.ensures refl in
    let below = at_below words 0 (256 ^ c.in-Imm.list.width) pairs 0 c.key_at.result (get_or (values_of pairs) 0 0) shown.map there in
    let fits = c.requires.fits in
    let wide = ap (λ v. 256 ^ width_of v) c.in-Imm.is in
    omega arith

pub returns-then-len-eq1 : goal.returns-then-len-eq1
returns-then-len-eq1 g c =
    let pairs = c.in-Imm.list.pairs in
    let there = pair_at pairs 0 c.key_at.result c.value_at.result (omega arith) c.key_at.ensures c.value_at.ensures in
    ap (λ v. shift c.args.base (view_pairs v)) c.in-Imm.is
    ∙ stretch_step c.args.base 0 1 pairs c.key_at.result c.value_at.result refl there
    ∙ ap (λ ps. (c.args.base + c.key_at.result, c.value_at.result) ∷ shift c.args.base ps) (drop_all 1 pairs (omega arith))
