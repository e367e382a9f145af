use Rattle.std.proofs.Common.{◌%◌, ◌^◌, length, get_or, sym, ap, refl, ◌∙◌, subst, arith}
use Rattle.std.proofs.lemmas.Nat.{mod_below}
use Rattle.std.proofs.Math.Nat.{pow-le-pow_right}
use Rattle.judy_model.proofs.lemmas.orders.ByteLemmas.{unit_pos}
use Rattle.judy_leaf.specs.KeyLists.{low_pairs}
use Rattle.judy_leaf.specs.Immediates.{parts_list, IsImmParts}
use Rattle.judy_node.proofs.Leaves.{map_list, map_free}
use Rattle.judy_node.proofs.Groups.{length-low_pairs}
use Rattle.judy_node.proofs.BuiltFacts.{few_done, one_done}
use Rattle.judy_node.proofs.build.immediate_of_sorted.Goals as goal

pub from_sorted-requires-clause-list : goal.from_sorted-requires-clause-list
from_sorted-requires-clause-list g c =
    let high = c.requires.width.1 in
    map_list g.V.Words.WORDS c.args.width (low_pairs (256 ^ c.args.width) c.args.pairs.now) c.requires.width.0 (omega arith) c.requires.map

pub from_sorted-requires-clause-no_values : goal.from_sorted-requires-clause-no_values
from_sorted-requires-clause-no_values g c = map_free g.V.Words.WORDS 0 (256 ^ c.args.width) (256 ^ c.args.width) c.args.pairs.now c.requires.map

pub into_parts-count-requires : goal.into_parts-count-requires
into_parts-count-requires g c =
    let some = c.requires.some in
    let long = length-low_pairs (256 ^ c.args.width) c.args.pairs.now in
    let is = ap (λ l. length l.pairs) c.from_sorted.ensures in
    omega arith

pub new-requires : goal.new-requires
new-requires g c =
    let within = c.requires.width.1 in
    let most = pow-le-pow_right {n = 256} (omega arith) within in
    let below = mod_below (get_or c.args.pairs.now 0 (0, 0)).0 (256 ^ c.args.width) (unit_pos c.args.width) in
    let low = c.low_part.ensures ∙ ap (λ w. (get_or c.args.pairs.now 0 (0, 0)).0 % 256 ^ w) c.from.ensures in
    omega arith

pub returns-then-WORDS-eq0-clause-built : goal.returns-then-WORDS-eq0-clause-built
returns-then-WORDS-eq0-clause-built g c =
    let words = g.V.Words.WORDS in
    let high = c.requires.width.1 in
    let count = c.into_parts-count.result.0 in
    let keys = c.into_parts-count.result.1 in
    let wide = ap (λ l. l.width) c.from_sorted.ensures in
    let made = c.into_parts-count.ensures in
    (few_done words c.args.width count keys c.of_keys.result c.args.pairs.now (sym c.WORDS.ensures ∙ c.if-WORDS-eq0.true)
    (subst (λ w. IsImmParts words w count keys) wide made.parts)
    (ap (λ w. parts_list words w count keys) (sym wide) ∙ made.list ∙ c.from_sorted.ensures)
    c.of_keys.ensures c.requires.width.0 (omega arith) c.requires.map).1

pub returns-else-WORDS-eq0-clause-built : goal.returns-else-WORDS-eq0-clause-built
returns-else-WORDS-eq0-clause-built g c =
    let high = c.requires.width.1 in
    let low = c.low_part.ensures ∙ ap (λ w. (get_or c.args.pairs.now 0 (0, 0)).0 % 256 ^ w) c.from.ensures in
    one_done g.V.Words.WORDS c.args.width c.new.result (get_or c.args.pairs.now 0 (0, 0)).1 c.args.pairs.now c.requires.one
    (λ none. c.if-WORDS-eq0.false (c.WORDS.ensures ∙ none)) c.requires.some c.requires.within
    (c.new.ensures ∙ low) refl c.requires.width.0 (omega arith) c.requires.map
