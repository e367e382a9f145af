use Rattle.std.proofs.Common.{◌≡◌, ◌++◌, ◌+◌, ◌-◌, ◌≤◌, ℕ, suc, length, take, drop, reverse, Some, None, slice_get, sym, ap, ◌∙◌, arith}
use Rattle.std.specs.Cmp.{nat_cmp_total}
use Rattle.std.specs.FinMap as finmap
use Rattle.std.specs.FinMap.{FinMap}
use Rattle.std.specs.List.{take-map}
use Rattle.std.proofs.lemmas.List.{length-drop, length-take-le}
use Rattle.judy_model.specs.Keys.{word_order}
use Rattle.judy_model.specs.Counts as counts
use Rattle.judy_leaf.specs.Fills.{made_of}
use Rattle.judy_query.specs.Maps.{map_of}
use Rattle.judy_sets.specs.Downward.{on_from}
use Rattle.judy_model.proofs.lemmas.maps.KeysLemmas.{length-keys}
use Rattle.judy_model.proofs.lemmas.queries.CountsLemmas.{zero_is_least}
use Rattle.judy_model.proofs.lemmas.queries.RankLemmas.{count_from_least, count_up_to-le, by_count-suc, rank_at}
use Rattle.judy_sets.proofs.DownFacts.{last_turned, made_turned, stands}
use Rattle.judy_sets.proofs.downward.fill_down.Goals as goal

-- The key from which so many up to a word are left.
module _ (map : FinMap word_order ℕ) (from all count : ℕ) (is : all ≡ counts.count_up_to map from) (few : count ≤ all) where
  asked : counts.by_count map (all - count + 1) ≡ slice_get (finmap.keys map) (all - count)
  asked = ap (counts.by_count map) (let next : all - count + 1 ≡ suc (all - count) = omega arith in next) ∙ by_count-suc nat_cmp_total map (all - count)

  never : 1 ≤ count → counts.by_count map (all - count + 1) ≡ None → ⊥
  never some none =
      let most = count_up_to-le nat_cmp_total map from in
      let long = length-keys map in
      stands (finmap.keys map) (all - count) (omega (arith, most, long, is, few, some)) (sym asked ∙ none)

  its_rank : (first : ℕ) → counts.by_count map (all - count + 1) ≡ Some first → counts.rank map first ≡ all - count
  its_rank first found = rank_at nat_cmp_total map (all - count) first (sym asked ∙ found)

pub returns-then-count-eq0-clause-count : goal.returns-then-count-eq0-clause-count
returns-then-count-eq0-clause-count g c =
    let all = c.count-all.ensures ∙ count_from_least nat_cmp_total c.args.array.now.map 0 zero_is_least c.args.from in
    omega (arith, all, c.min-count.ensures, c.if-count-eq0.true)

pub returns-in_default-clause-count : goal.returns-in_default-clause-count
returns-in_default-clause-count g c =
    let map = c.args.array.now.map in
    let all = c.count-all.ensures ∙ count_from_least nat_cmp_total map 0 zero_is_least c.args.from in
    absurd (never map c.args.from c.count-all.result c.min-count.result all (omega (arith, c.min-count.ensures)) (omega (arith, c.if-count-eq0.false))
    (sym c.by_count.ensures ∙ c.in_default.is))

pub returns-clause-count : goal.returns-clause-count
returns-clause-count g c =
    let all = c.count-all.ensures ∙ count_from_least nat_cmp_total c.args.array.now.map 0 zero_is_least c.args.from in
    omega (arith, all, c.min-count.ensures)

pub returns-clause-out : goal.returns-clause-out
returns-clause-out g c =
    let made = g.E.FromPair.made in
    let map = c.args.array.now.map in
    let entries = finmap.entries map in
    let all = c.count-all.result in
    let count = c.min-count.result in
    let first = c.in-Some.first in
    let is = c.count-all.ensures ∙ count_from_least nat_cmp_total map 0 zero_is_least c.args.from in
    let few : count ≤ all = omega (arith, c.min-count.ensures) in
    let most = count_up_to-le nat_cmp_total map c.args.from in
    let held = finmap.len-entries map in
    let within : all ≤ length entries = omega (arith, most, is, held) in
    let rank = its_rank map c.args.from all count is few first (sym c.by_count.ensures ∙ c.in-Some.is) in
    let seen : on_from (map_of c.root.result.now.pairs) first ≡ drop (all - count) entries =
    ap (λ (held : FinMap word_order ℕ). on_from held first) c.root.ensures.keys ∙ ap (λ n. drop n entries) rank in
    let page = length-take-le count c.args.out.now (omega (arith, c.min-count.ensures)) in
    let left = length-drop (all - count) entries in
    let long = ap length seen in
    let filled = c.fill_up.ensures (omega (arith, page, left, long, few, within)) ∙ (λ t. made_of made (take (page t) (seen t))) in
    let turned =
    c.reverse.ensures.after
    ∙ ap reverse filled
    ∙ made_turned (λ (pair : ℕ × ℕ). made pair.0 pair.1) (take count (drop (all - count) entries))
    ∙ ap (made_of made) (sym (last_turned entries all count few within))
    ∙ sym (take-map (λ (pair : ℕ × ℕ). made pair.0 pair.1) count (reverse (take all entries)))
    ∙ ap (λ n. take count (made_of made (reverse (take n entries)))) is in
    ap (λ part. part ++ drop count c.args.out.now) turned
