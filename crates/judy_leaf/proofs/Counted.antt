-- A rank by counting over all places.
use Rattle.std.proofs.Common.{◌≡◌, ◌≢◌, ℕ, zero, suc, ◌+◌, ◌-◌, ◌*◌, ◌<◌, ◌≤◌, Bool, true, false, cond, nat_lt, lt-ltb, List, [], ◌∷◌, ◌++◌, length, filter, count_by, take, drop}
use Rattle.std.proofs.Common.{replicate, get_or, slice_get, Some, None, refl, ap, sym, ◌∙◌, arith}
use mir.Val.{bool_byte}
use Rattle.std.specs.List.Sorted.{IsStrictlySortedBy}
use Rattle.std.proofs.lemmas.Bool.{false_from_ne_true}
use Rattle.std.proofs.lemmas.List.{take_more}
use Rattle.std.proofs.lemmas.List.Sums.{length-filter, sum_by-cons, sum_by-append, sum_by_more, sum_by-take-drop}
use Rattle.std.proofs.lemmas.List.Folds.{sum_by-replicate}
use Rattle.std.proofs.lemmas.Option.{slice_get-get_or, slice_get_within, same_Some}
use Rattle.judy_model.specs.Keys.{word_order}
use Rattle.judy_model.proofs.lemmas.orders.WordOrder.{is_lt_word}
use Rattle.judy_bits.specs.ByteSets.{has, rank, place}
use Rattle.judy_bits.proofs.SetLemmas.{not_less, has_at, slice_get-rank}
use Rattle.judy_leaf.specs.Packing.{places, places_of, IsWidth}
use Rattle.judy_leaf.proofs.Placed.{places_of-append}

pub byte_of_test : (b : Bool) → bool_byte b ≡ cond b 1 0
byte_of_test true = refl
byte_of_test false = refl

byte_small : (b : Bool) → bool_byte b ≤ 1
byte_small true = omega arith
byte_small false = omega arith

-- One element more, counted where it is below the key.
pub counted_more : (xs : List ℕ) (at key below element : ℕ) → at < length xs → element ≡ get_or xs at 0 → below ≡ count_by (λ x. nat_lt x key) (take at xs) → below ≤ at
    → (below + bool_byte (nat_lt element key) ≡ count_by (λ x. nat_lt x key) (take (at + 1) xs)) × (below + bool_byte (nat_lt element key) ≤ at + 1)
counted_more xs at key below element inside is so_far within =
    let small = byte_small (nat_lt element key) in
    ((λ t. so_far t + (byte_of_test (nat_lt element key) ∙ ap (λ x. cond (nat_lt x key) 1 0) is) t) ∙ sym (sum_by_more (λ x. cond (nat_lt x key) 1 0) xs at 0 inside), omega arith)

-- One word more.
pub counted_word : (width : ℕ) → IsWidth width → (words : List ℕ) (at key below here : ℕ) → at < length words → below ≡ count_by (λ x. nat_lt x key) (places_of width (take at words))
    → here ≡ count_by (λ x. nat_lt x key) (places width (get_or words at 0)) → below + here ≡ count_by (λ x. nat_lt x key) (places_of width (take (at + 1) words))
counted_word width is words at key below here inside so_far counted =
    let f : ℕ → ℕ = λ x. cond (nat_lt x key) 1 0 in
    let next : ℕ = get_or words at 0 in
    (λ t. so_far t + (counted ∙ ap (λ l. count_by (λ x. nat_lt x key) l) (sym (nothing_after (places width next)))) t)
    ∙ sym (ap (λ l. count_by (λ x. nat_lt x key) (places_of width l)) (take_more words at 0 inside)
    ∙ ap (count_by (λ x. nat_lt x key)) (places_of-append width is (take at words) (next ∷ []))
    ∙ sum_by-append f (places_of width (take at words)) (places_of width (next ∷ [])))
  where
    nothing_after : (xs : List ℕ) → xs ++ [] ≡ xs
    nothing_after [] = refl
    nothing_after (x ∷ xs) = ap (λ rest. x ∷ rest) (nothing_after xs)

-- The rank by a count.
pub rank_by_count : (keys : List ℕ) (key : ℕ) → rank keys key ≡ count_by (λ x. nat_lt x key) keys
rank_by_count keys key = sym (λ t. length (filter (λ x. sym (is_lt_word x key) t) keys)) ∙ length-filter (λ x. nat_lt x key) keys

none_below_zero : (xs : List ℕ) → count_by (λ x. nat_lt x 0) xs ≡ 0
none_below_zero [] = refl
none_below_zero (x ∷ xs) = sum_by-cons (λ y. cond (nat_lt y 0) 1 0) x xs ∙ (λ t. cond (not_less x 0 (let e : 0 ≤ x = omega arith in e) t) 1 0 + none_below_zero xs t)

-- The places that hold no key count as below every key but 0.
pub rank-counted : (xs : List ℕ) (count rest key : ℕ) → drop count xs ≡ replicate rest 0 → count_by (λ x. nat_lt x key) xs - rest ≡ rank (take count xs) key
rank-counted xs count rest zero clear =
    let all = none_below_zero xs in
    let some = none_below_zero (take count xs) in
    ap (λ n. n - rest) all ∙ (let e : 0 - rest ≡ 0 = omega arith in e) ∙ sym some ∙ sym (rank_by_count (take count xs) 0)
rank-counted xs count rest (suc key) clear =
    let f : ℕ → ℕ = λ x. cond (nat_lt x (suc key)) 1 0 in
    let parts = sum_by-take-drop f xs count in
    let after : count_by (λ x. nat_lt x (suc key)) (drop count xs) ≡ rest = ap (count_by (λ x. nat_lt x (suc key))) clear ∙ sum_by-replicate f rest 0 ∙
    ap (λ b. rest * cond b 1 0) (lt-ltb 0 (suc key) (omega arith)) ∙ omega arith in
    let here : count_by (λ x. nat_lt x (suc key)) xs - rest ≡ count_by (λ x. nat_lt x (suc key)) (take count xs) = omega arith in
    here ∙ sym (rank_by_count (take count xs) (suc key))

-- ---- the place of a key, by its rank

module _ (keys : List ℕ) (ascending : IsStrictlySortedBy word_order keys) (key at : ℕ) (ranked : at ≡ rank keys key) where
  pub place-there : at < length keys → get_or keys at 0 ≡ key → Some at ≡ place keys key
  place-there inside same =
      let held : has keys key ≡ true = has_at keys ascending at key (slice_get-get_or keys at 0 inside ∙ ap Some same) in
      ap Some ranked ∙ sym (ap (λ b. cond b (Some (rank keys key)) None) held)

  pub place-none : ((at < length keys) → get_or keys at 0 ≢ key) → None ≡ place keys key
  place-none apart =
      let absent : has keys key ≡ false = false_from_ne_true (has keys key) (λ held.
      let there : slice_get keys at ≡ Some key = ap (slice_get keys) ranked ∙ slice_get-rank keys ascending key held in
      let inside = slice_get_within keys at key there in
      apart inside (same_Some (get_or keys at 0) key (sym (slice_get-get_or keys at 0 inside) ∙ there))) in
      sym (ap (λ b. cond b (Some (rank keys key)) None) absent)
