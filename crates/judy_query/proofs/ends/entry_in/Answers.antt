use Rattle.std.proofs.Common.{◌<◌, length, slice_get, ap, ◌∙◌, subst, arith}
use Rattle.judy_node.specs.Views.{view_pairs}
use Rattle.judy_query.proofs.EndFacts.{start_fits, key_fits, bits_inside, bits_at}
use Rattle.judy_query.proofs.RankFacts.{pair_at}
use Rattle.judy_query.proofs.ends.entry_in.Goals as goal

pub overflow_mul-result : goal.overflow_mul-result
overflow_mul-result g c =
    let fits = start_fits g.V.Words.WORDS c.args.view.now c.in-BitLeaf.skipped c.in-BitLeaf.list c.in-BitLeaf.is c.requires.shown in
    omega arith

pub key_at-requires-in-BitLeaf : goal.key_at-requires-in-BitLeaf
key_at-requires-in-BitLeaf g c = bits_inside g.V.Words.WORDS c.args.view.now c.in-BitLeaf.skipped c.in-BitLeaf.list c.in-BitLeaf.is c.requires.shown c.args.at c.requires.inside

pub overflow_add-result : goal.overflow_add-result
overflow_add-result g c =
    let fits = key_fits g.V.Words.WORDS c.args.view.now c.in-BitLeaf.skipped c.in-BitLeaf.list c.in-BitLeaf.is c.requires.shown c.key_at-in-BitLeaf.result c.key_at-in-BitLeaf.ensures.below in
    omega arith

pub value_at-requires-in-BitLeaf : goal.value_at-requires-in-BitLeaf
value_at-requires-in-BitLeaf g c = bits_inside g.V.Words.WORDS c.args.view.now c.in-BitLeaf.skipped c.in-BitLeaf.list c.in-BitLeaf.is c.requires.shown c.args.at c.requires.inside

pub returns-in-Imm : goal.returns-in-Imm
returns-in-Imm g c =
    let inside = subst (λ v. c.args.at < length (view_pairs v)) c.in-Imm.is c.requires.inside in
    ap (λ v. slice_get (view_pairs v) c.args.at) c.in-Imm.is ∙ pair_at c.in-Imm.list.pairs c.args.at c.key_at.result c.value_at.result inside c.key_at.ensures c.value_at.ensures

pub returns-in-Leaf : goal.returns-in-Leaf
returns-in-Leaf g c =
    let inside = subst (λ v. c.args.at < length (view_pairs v)) c.in-Leaf.is c.requires.inside in
    ap (λ v. slice_get (view_pairs v) c.args.at) c.in-Leaf.is ∙ pair_at c.in-Leaf.list.pairs c.args.at c.key_at-in-Leaf.result c.value_at-in-Leaf.result inside
    c.key_at-in-Leaf.ensures c.value_at-in-Leaf.ensures

pub returns-in-BitLeaf : goal.returns-in-BitLeaf
returns-in-BitLeaf g c =
    let words = g.V.Words.WORDS in
    bits_at words c.args.view.now c.in-BitLeaf.skipped c.in-BitLeaf.list c.in-BitLeaf.is c.requires.shown c.args.at c.key_at-in-BitLeaf.result c.value_at-in-BitLeaf.result
    (bits_inside words c.args.view.now c.in-BitLeaf.skipped c.in-BitLeaf.list c.in-BitLeaf.is c.requires.shown c.args.at c.requires.inside) c.key_at-in-BitLeaf.ensures.key
    c.value_at-in-BitLeaf.ensures
