-- What an array over a tree holds, told of its pairs.
use Rattle.std.proofs.Common.{List, ◌≡◌, ℕ, zero, suc, ◌+◌, ◌-◌, ◌≤◌, ◌^◌, [], ◌∷◌, length, slice_get, None, refl, ap, ◌∙◌, arith}
use Rattle.std.specs.Cmp.{nat_cmp_total}
use Rattle.std.specs.FinMap.{FinMap, keys}
use Rattle.judy_bits.specs.ByteSets.{rank}
use Rattle.judy_leaf.specs.KeyLists.{keys_of}
use Rattle.judy_model.specs.Keys.{word_order}
use Rattle.judy_model.specs.Counts.{count_up_to}
use Rattle.judy_model.specs.Neighbours.{next, prev, last}
use Rattle.judy_model.specs.Empties.{next_empty, prev_empty, last_empty}
use Rattle.judy_model.proofs.lemmas.queries.EmptiesLemmas.{next_empty_run_none}
use Rattle.judy_model.proofs.lemmas.orders.FollowingLemmas.{prev-last, prev_empty-last_empty}
use Rattle.judy_model.proofs.lemmas.queries.RankLemmas.{next-slice_get}
use Rattle.judy_node.specs.Trees.{Pairs, IsMap}
use Rattle.judy_node.proofs.Maps.{length-keys_of}
use Rattle.judy_query.specs.Maps.{map_of}
use Rattle.judy_query.proofs.Links.{keys_is, count_up_to_is}
use Rattle.judy_query.proofs.Splits.{rank-less}

-- Each key is below the bound of the map.
rank_all : (words low top : ℕ) (pairs : Pairs) → IsMap words low top pairs → rank (keys_of pairs) top ≡ length pairs
rank_all words low top [] map = refl
rank_all words low top (pair ∷ pairs) map = rank-less pair.0 top (keys_of pairs) map.1 ∙ ap suc (rank_all words (pair.0 + 1) top pairs map.3)

past_end : {A : Type 0} (xs : List A) (place : ℕ) → length xs ≤ place → slice_get xs place ≡ None
past_end [] place past = refl
past_end (x ∷ xs) zero past = absurd (omega (arith, past))
past_end (x ∷ xs) (suc place) past = past_end xs place (omega (arith, past))

module _ (words : ℕ) (pairs : Pairs) (is : IsMap words 0 (256 ^ 8) pairs) where
  -- Each key is at or below the greatest word.
  pub count_up_to_most : count_up_to (map_of pairs) 18446744073709551615 ≡ length pairs
  count_up_to_most = count_up_to_is words (256 ^ 8) pairs is 18446744073709551615 ∙ rank_all words 0 (256 ^ 8) pairs is

  -- None is above it.
  pub next_most : next (map_of pairs) 18446744073709551615 ≡ None
  next_most =
      next-slice_get nat_cmp_total (map_of pairs) 18446744073709551615
      ∙ past_end (keys (map_of pairs)) (count_up_to (map_of pairs) 18446744073709551615) (rw (keys_is words (256 ^ 8) pairs is, count_up_to_most, length-keys_of pairs)
      (let e : length pairs ≤ length pairs = omega arith in e))

-- ---- one word less

pub next_empty_most : (map : FinMap word_order ℕ) → next_empty map 18446744073709551615 ≡ None
next_empty_most map = next_empty_run_none _ _ (λ key above small. let never : ⊥ = omega arith in absurd never)

pub prev_less : (map : FinMap word_order ℕ) (from : ℕ) → 1 ≤ from → prev map from ≡ last map (from - 1)
prev_less map from some = ap (prev map) (let e : from ≡ from - 1 + 1 = omega (arith, some) in e) ∙ prev-last map (from - 1)

pub prev_empty_less : (map : FinMap word_order ℕ) (from : ℕ) → 1 ≤ from → prev_empty map from ≡ last_empty map (from - 1)
prev_empty_less map from some = ap (prev_empty map) (let e : from ≡ from - 1 + 1 = omega (arith, some) in e) ∙ prev_empty-last_empty map (from - 1)
