-- At words, what is above a word is what is at or above the following one; and so downwards.
use Rattle.std.proofs.Common.{◌≡◌, ℕ, ◌+◌, nat_lt, nat_le, reverse, length, None, sym, ap, ◌∙◌, arith, nat_cmp, is_lt, is_le, is_gt, is_ge}
use Rattle.std.specs.Cmp.{nat_cmp_total}
use Rattle.std.specs.FinMap.{FinMap, keys, nat_cmp-IsAntisymmetric}
use Rattle.std.proofs.lemmas.Bool.Decides.{nat_tests}
use Rattle.judy_model.specs.Keys.{word_order}
use Rattle.judy_model.specs.Neighbours.{first, next, last, prev}
use Rattle.judy_model.specs.Counts.{rank, count_up_to}
use Rattle.judy_model.specs.Empties.{empties, first_empty, next_empty, last_empty, prev_empty}
use Rattle.judy_model.proofs.lemmas.orders.WordOrder.{is_lt_word, is_le_word, is_gt_word, is_ge_word, le_word}
use Rattle.judy_model.proofs.lemmas.maps.Ascending.{find_agree}
use Rattle.judy_model.proofs.lemmas.queries.Places.{filter_agree_among}
use Rattle.judy_model.proofs.lemmas.queries.NearestLemmas.{prev_missing}
use Rattle.judy_model.proofs.lemmas.queries.EmptiesLemmas.{prev_empty_run_none}

following : (key from : ℕ) → is_gt (nat_cmp key from) ≡ is_ge (nat_cmp key (from + 1))
following key from = is_gt_word key from ∙ (let e : nat_lt from key ≡ nat_le (from + 1) key = grind (arith, nat_tests) in e) ∙ sym (is_ge_word key (from + 1))

preceding : (key from : ℕ) → is_lt (nat_cmp key (from + 1)) ≡ is_le (nat_cmp key from)
preceding key from = is_lt_word key (from + 1) ∙ (let e : nat_lt key (from + 1) ≡ nat_le key from = grind (arith, nat_tests) in e) ∙ sym (is_le_word key from)

module _ (map : FinMap word_order ℕ) where
  -- The next key is the first from the following word on.
  pub next-first : (from : ℕ) → next map from ≡ first map (from + 1)
  unfolding next first
  next-first from = find_agree (λ key. following key from) (keys map)

  -- The previous key of the following word is the last from the word down.
  pub prev-last : (from : ℕ) → prev map (from + 1) ≡ last map from
  unfolding prev last
  prev-last from = find_agree (λ key. preceding key from) (reverse (keys map))

  -- As many keys are below the following word as are at or below the word.
  pub rank-following : (from : ℕ) → rank map (from + 1) ≡ count_up_to map from
  unfolding rank count_up_to
  rank-following from = ap length (filter_agree_among (λ other. is_lt (nat_cmp other (from + 1))) (λ other. is_le (nat_cmp other from)) (keys map) (λ other here. preceding other from))

  -- Below 0 there is no key.
  pub prev-zero : prev map 0 ≡ None
  prev-zero = prev_missing nat_cmp_total nat_cmp-IsAntisymmetric map 0 (λ other held. le_word 0 other (omega arith))

  -- The next empty word is the first empty one from the following word on.
  pub next_empty-first_empty : (from : ℕ) → next_empty map from ≡ first_empty map (from + 1)
  unfolding next_empty first_empty
  next_empty-first_empty from = find_agree (λ key. following key from) (empties map)

  -- The previous empty word of the following word is the last empty one from the word down.
  pub prev_empty-last_empty : (from : ℕ) → prev_empty map (from + 1) ≡ last_empty map from
  unfolding prev_empty last_empty
  prev_empty-last_empty from = find_agree (λ key. preceding key from) (reverse (empties map))

  -- Below 0 there is no empty word.
  pub prev_empty-zero : prev_empty map 0 ≡ None
  prev_empty-zero = prev_empty_run_none map 0 (λ key below small. let never : ⊥ = omega arith in absurd never)
