-- The places of words in a row: how many there are, and what stands in one.
use Rattle.std.proofs.Common.{◌≡◌, ℕ, zero, suc, ◌+◌, ◌-◌, ◌*◌, ◌/◌, ◌%◌, ◌^◌, ◌<◌, ◌≤◌, List, [], ◌∷◌, ◌++◌, length, get_or, refl, ap, sym, ◌∙◌, arith}
use Rattle.std.proofs.Math.Nat.{lt-div-mul-add}
use Rattle.std.proofs.lemmas.Nat.{mod_below, div_below, div-add-mod'}
use Rattle.std.proofs.lemmas.List.{append_assoc, length-append, get_or_append_left, get_or-append_right}
use Rattle.judy_leaf.specs.Packing.{places, places_of, IsWidth}
use Rattle.judy_leaf.proofs.Digits.{length-digits}
use Rattle.judy_leaf.proofs.WordSteps.{base_pos}

-- A word of eight bytes has a place for a key of at most eight.
pub per_pos : (width : ℕ) → IsWidth width → 0 < 8 / width
per_pos width is = let h = lt-div-mul-add {a = 8} {b = width} (omega arith) in some (8 / width) width (omega arith) (omega arith)
  where
    some : (per width : ℕ) → width ≤ 8 → 8 < per * width + width → 0 < per
    some zero width most h = let never : ⊥ = omega arith in absurd never
    some (suc per) width most h = omega arith

module _ (width : ℕ) (is : IsWidth width) where
  pub length-places : (word : ℕ) → length (places width word) ≡ 8 / width
  length-places word = length-digits (256 ^ width) (base_pos width is) (8 / width) word

  pub length-places_of : (words : List ℕ) → length (places_of width words) ≡ length words * (8 / width)
  length-places_of [] = omega arith
  length-places_of (word ∷ words) =
      length-append (places width word) (places_of width words) ∙ (λ t. length-places word t + length-places_of words t)
      ∙ (let e : 8 / width + length words * (8 / width) ≡ suc (length words) * (8 / width) = omega arith in e)

  pub places_of-append : (xs ys : List ℕ) → places_of width (xs ++ ys) ≡ places_of width xs ++ places_of width ys
  places_of-append [] ys = refl
  places_of-append (x ∷ xs) ys = ap (λ rest. places width x ++ rest) (places_of-append xs ys) ∙ sym (append_assoc (places width x) (places_of width xs) (places_of width ys))

  -- What stands in a place, by its word and its place there.
  pub key_by_word : (words : List ℕ) (word at : ℕ) → at < 8 / width → word < length words → get_or (places_of width words) (word * (8 / width) + at) 0 ≡
      get_or (places width (get_or words word 0)) at 0
  key_by_word [] word at inside within = let never : ⊥ = omega arith in absurd never
  key_by_word (x ∷ xs) zero at inside within =
      ap (λ n. get_or (places width x ++ places_of width xs) n 0) (let e : 0 * (8 / width) + at ≡ at = omega arith in e)
      ∙ get_or_append_left (places width x) (places_of width xs) 0 at (let h = length-places x in omega arith)
  key_by_word (x ∷ xs) (suc word) at inside within =
      get_or-append_right (places width x) (places_of width xs) (8 / width) (suc word * (8 / width) + at) 0 (length-places x) (omega arith)
      ∙ ap (λ n. get_or (places_of width xs) n 0) (let e : suc word * (8 / width) + at - 8 / width ≡ word * (8 / width) + at = omega arith in e)
      ∙ key_by_word xs word at inside (omega arith)

  pub key_at : (words : List ℕ) (at : ℕ) → at < length words * (8 / width) → get_or (places width (get_or words (at / (8 / width)) 0)) (at % (8 / width)) 0 ≡ get_or (places_of width words) at 0
  key_at words at inside =
      let per = 8 / width in
      let some = per_pos width is in
      let whole = div-add-mod' at per in
      sym (key_by_word words (at / per) (at % per) (mod_below at per some) (div_below at per (length words) some inside)) ∙ ap (λ n. get_or (places_of width words) n 0) whole
