use Rattle.std.proofs.Common.{◌^◌, length, sym, ap, ◌∙◌, subst, arith}
use Rattle.judy_node.specs.Trees.{IsMap}
use Rattle.judy_node.specs.Kinds.{tree_of}
use Rattle.judy_node.specs.Built.{IsBuilt}
use Rattle.judy_change.proofs.SettleFacts.{word_fits, filled, low_map, tight_of}
use Rattle.judy_change.proofs.remove_leaf.immediate_left.Goals as goal

pub fill-requires-clause-fits : goal.fill-requires-clause-fits
fill-requires-clause-fits g c =
    let wide = ap (λ l. l.width) c.reading-2.ensures ∙ c.requires.list in
    let high = c.requires.width.1 in
    word_fits c.reading-2.result.width (omega arith)

pub immediate_of_sorted-requires-clause-map : goal.immediate_of_sorted-requires-clause-map
immediate_of_sorted-requires-clause-map g c =
    let words = g.V.Words.WORDS in
    let count = c.len-count.ensures.count ∙ ap (λ l. length l.pairs) c.reading.ensures in
    let all = filled c.len-count.result c.fill.new.out _ c.reading-2.result.pairs (ap (λ l. length l.pairs) c.reading-2.ensures ∙ sym count) c.fill.ensures ∙ ap (λ l. l.pairs) c.reading-2.ensures in
    low_map words c.args.width _ (subst (IsMap words 0 (256 ^ c.args.width)) (sym all) c.requires.map)

pub returns : goal.returns
returns g c =
    let words = g.V.Words.WORDS in
    let count = c.len-count.ensures.count ∙ ap (λ l. length l.pairs) c.reading.ensures in
    let all = filled c.len-count.result c.fill.new.out _ c.reading-2.result.pairs (ap (λ l. length l.pairs) c.reading-2.ensures ∙ sym count) c.fill.ensures ∙ ap (λ l. l.pairs) c.reading-2.ensures in
    tight_of words c.args.width c.args.leaf.pairs (tree_of words c.immediate_of_sorted.result) c.close.result
    (subst (λ pairs. IsBuilt words c.args.width pairs (tree_of words c.immediate_of_sorted.result)) all c.immediate_of_sorted.ensures.built) c.requires.map c.close.ensures
