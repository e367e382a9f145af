-- The first byte of words that is a given one, by the bits of a comparison of the bytes of each.
use Rattle.std.proofs.Common.{◌≡◌, ◌≢◌, ℕ, zero, suc, ◌+◌, ◌*◌, ◌<◌, ◌≤◌, ◌==◌, true, false, cond, not, List, [], ◌∷◌, ◌++◌, length, map, drop, get_or, get_or-take, slice_get}
use Rattle.std.proofs.Common.{Some, None, sym, refl, ap, ◌∙◌, arith, ne_eqb}
use Rattle.std.specs.List.{AllByRecursion}
use Rattle.std.specs.List.Sorted.{IsStrictlySortedBy}
use Rattle.std.proofs.lemmas.Bool.{eqb-true, eqb-false, not-true, not-false}
use Rattle.std.proofs.lemmas.List.{drop_more, length-take}
use Rattle.std.proofs.lemmas.List.Folds.{prefix_len-append}
use Rattle.std.proofs.lemmas.List.Sums.{prefix_len-le-length, prefix_len_passes, prefix_len_stops}
use Rattle.std.proofs.lemmas.Simd.{trailing_mask_l}
use Rattle.std.proofs.lemmas.Option.{slice_get-get_or}
use Rattle.std.specs.List.{prefix_len}
use lib.Count.{count_trailing_zeros}
use lib.Lanes.{mask_l}
use Rattle.judy_model.specs.Keys.{word_order}
use Rattle.judy_bits.specs.ByteSets.{place, rank}
use Rattle.judy_bits.proofs.SetLemmas.{has_at, rank_at}
use Rattle.judy_leaf.specs.Packing.{places, places_of, keys_in, IsPacked}
use Rattle.judy_leaf.proofs.Counted.{place-none}
use Rattle.judy_leaf.proofs.Placed.{length-places_of}
use Rattle.judy_leaf.proofs.KeysIn.{keys_below_unit}

module _ (key : ℕ) where
  -- How many numbers come before the first that is the key.
  abbrev pub before : List ℕ → ℕ
  before xs = prefix_len (λ other. not (other == key)) xs

  abbrev bits : List ℕ → ℕ
  bits xs = mask_l (map (λ other. other == key) xs)

  -- Where none is, no bit is set.
  no_bits : (xs : List ℕ) → before xs ≡ length xs → bits xs ≡ 0
  no_bits [] all = refl
  no_bits (x ∷ xs) all =
      elim (x == key) as (λ b. cond (not b) (1 + before xs) 0 ≡ suc (length xs) → cond b 1 0 + 2 * bits xs ≡ 0) [
        | true ↦ λ (none : 0 ≡ suc (length xs)). let never : ⊥ = omega arith in absurd never
        | false ↦ λ (rest : 1 + before xs ≡ suc (length xs)). let zero = no_bits xs (omega arith) in omega arith
      ] all

  module _ (words : List ℕ) (at : ℕ) (inside : at < length words) where
    abbrev here : List ℕ
    here = places 1 (get_or words at 0)

    parts : places_of 1 (drop at words) ≡ here ++ places_of 1 (drop (at + 1) words)
    parts = ap (places_of 1) (drop_more words at 0 inside)

    both : before (places_of 1 (drop at words)) ≡ cond (before here == 8) (8 + before (places_of 1 (drop (at + 1) words))) (before here)
    both = ap before parts ∙ prefix_len-append (λ other. not (other == key)) here (places_of 1 (drop (at + 1) words))

    -- A word that has it.
    pub found_here : (mask : ℕ) → mask ≡ bits here → mask ≢ 0 → (count_trailing_zeros 64 mask ≡ before (places_of 1 (drop at words))) × (count_trailing_zeros 64 mask < 8)
    found_here mask is some =
        let counted : count_trailing_zeros 64 mask ≡ before here = ap (count_trailing_zeros 64) is ∙ trailing_mask_l (λ other. other == key) 64 here (omega arith) (omega (arith, is, some)) in
        let not_all : before here ≢ 8 = λ all. some (is ∙ no_bits here all) in
        let most : before here ≤ 8 = prefix_len-le-length (λ other. not (other == key)) here in
        (counted ∙ sym (both ∙ ap (λ b. cond b (8 + before (places_of 1 (drop (at + 1) words))) (before here)) (ne_eqb (before here) 8 not_all)), omega arith)

-- ---- its place

all_at : (top : ℕ) (xs : List ℕ) (at : ℕ) → at < length xs → AllByRecursion (λ x. x < top) xs → get_or xs at 0 < top
all_at top [] at inside all = let never : ⊥ = omega arith in absurd never
all_at top (x ∷ xs) zero inside all = all.0
all_at top (x ∷ xs) (suc at) inside all = all_at top xs at (omega arith) all.1

module _ (count : ℕ) (words : List ℕ) (packed : IsPacked 1 count words) (ascending : IsStrictlySortedBy word_order (keys_in 1 count words)) (key : ℕ) where
  -- Nothing above a byte is a key.
  pub place-above : 255 < key → None ≡ place (keys_in 1 count words) key
  place-above above =
      place-none (keys_in 1 count words) ascending key (rank (keys_in 1 count words) key) refl
      (λ inside same. let below = all_at 256 (keys_in 1 count words) (rank (keys_in 1 count words) key) inside (keys_below_unit 1 count words) in let never : ⊥ = omega arith in never)

  -- The first place that holds the byte is its place, where it is one of a key.
  pub place-first : (at : ℕ) → at ≡ before key (places_of 1 words) → at < count → Some at ≡ place (keys_in 1 count words) key
  place-first at is inside =
      let enough = packed.enough in
      let all = length-places_of 1 packed.is_width words in
      let long = length-take count (places_of 1 words) in
      let stops = prefix_len_stops (λ other. not (other == key)) (places_of 1 words) 0 (omega arith) in
      let same : get_or (places_of 1 words) at 0 ≡ key = ap (λ n. get_or (places_of 1 words) n 0) is ∙ eqb-true _ key (not-false _ stops) in
      let there : slice_get (keys_in 1 count words) at ≡ Some key =
      slice_get-get_or (keys_in 1 count words) at 0 (omega arith) ∙ ap Some (get_or-take count (places_of 1 words) at 0 inside ∙ same) in
      sym (ap (λ b. cond b (Some (rank (keys_in 1 count words) key)) None) (has_at (keys_in 1 count words) ascending at key there) ∙ ap Some (rank_at (keys_in 1 count words) ascending at key there))

  -- Where it is behind the keys, the byte is none.
  pub place-behind : (at : ℕ) → at ≡ before key (places_of 1 words) → count ≤ at → None ≡ place (keys_in 1 count words) key
  place-behind at is past =
      let own : ℕ = rank (keys_in 1 count words) key in
      place-none (keys_in 1 count words) ascending key own refl (λ inside same.
      let long = length-take count (places_of 1 words) in
      let own_inside : own < count = omega arith in
      eqb-false (get_or (places_of 1 words) own 0) key (not-true _ (prefix_len_passes (λ other. not (other == key)) (places_of 1 words) own 0 (omega arith)))
      (sym (get_or-take count (places_of 1 words) own 0 own_inside) ∙ same))
