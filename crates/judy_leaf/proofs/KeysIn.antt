-- The keys that words hold: how many, what stands at a place, and that each has its width.
use Rattle.std.proofs.Common.{◌≡◌, ℕ, zero, suc, ◌+◌, ◌/◌, ◌%◌, ◌^◌, ◌<◌, ◌≤◌, true, List, [], ◌∷◌, ◌++◌, length, take, get_or, is_le, refl, ap, sym, ◌∙◌, subst, arith, get_or-take, le-leb}
use Rattle.std.specs.List.{AllByRecursion}
use Rattle.std.proofs.lemmas.List.{length-take-le}
use Rattle.judy_model.specs.Keys.{word_order}
use Rattle.judy_model.proofs.lemmas.orders.ByteLemmas.{unit_pos}
use Rattle.judy_model.proofs.lemmas.orders.WordOrder.{is_le_word}
use Rattle.judy_bits.specs.ByteSets as set
use Rattle.judy_bits.proofs.SetLemmas.{filter_all}
use Rattle.judy_leaf.specs.Packing.{places, places_of, keys_in, IsPacked, IsWidth}
use Rattle.judy_leaf.specs.Nearby.{IsKeyAt}
use Rattle.judy_leaf.proofs.Digits.{digits-AreDigits}
use Rattle.judy_leaf.proofs.Placed.{length-places_of}

-- ---- a key fits its width

pub all_take : (P : ℕ → Type 0) (count : ℕ) (xs : List ℕ) → AllByRecursion P xs → AllByRecursion P (take count xs)
all_take P zero xs all = tt
all_take P (suc count) [] all = tt
all_take P (suc count) (x ∷ xs) all = (all.0, all_take P count xs all.1)

pub all_append : (P : ℕ → Type 0) (xs ys : List ℕ) → AllByRecursion P xs → AllByRecursion P ys → AllByRecursion P (xs ++ ys)
all_append P [] ys first second = second
all_append P (x ∷ xs) ys first second = (first.0, all_append P xs ys first.1 second)

places_below : (width : ℕ) (words : List ℕ) → AllByRecursion (λ key. key < 256 ^ width) (places_of width words)
places_below width [] = tt
places_below width (word ∷ words) =
    all_append (λ key. key < 256 ^ width) (places width word) (places_of width words) (digits-AreDigits (256 ^ width) (unit_pos width) (8 / width) word) (places_below width words)

pub keys_below_unit : (width count : ℕ) (words : List ℕ) → AllByRecursion (λ key. key < 256 ^ width) (keys_in width count words)
keys_below_unit width count words = all_take (λ key. key < 256 ^ width) count (places_of width words) (places_below width words)

-- A key of at most eight bytes is a word.
pub unit_fits : (width : ℕ) → IsWidth width → 256 ^ width ≤ 18446744073709551616
unit_fits width is = fits width is.some is.most
  where
    fits : (width : ℕ) → 1 ≤ width → width ≤ 8 → 256 ^ width ≤ 18446744073709551616
    fits zero some most = let never : ⊥ = omega arith in absurd never
    fits (suc zero) some most = omega arith
    fits (suc (suc zero)) some most = omega arith
    fits (suc (suc (suc zero))) some most = omega arith
    fits (suc (suc (suc (suc zero)))) some most = omega arith
    fits (suc (suc (suc (suc (suc zero))))) some most = omega arith
    fits (suc (suc (suc (suc (suc (suc zero)))))) some most = omega arith
    fits (suc (suc (suc (suc (suc (suc (suc zero))))))) some most = omega arith
    fits (suc (suc (suc (suc (suc (suc (suc (suc zero)))))))) some most = omega arith
    fits (suc (suc (suc (suc (suc (suc (suc (suc (suc w))))))))) some most = let never : ⊥ = omega arith in absurd never

-- The greatest key of a width is the lowest bytes of the greatest word.
pub unit_top : (width : ℕ) → IsWidth width → 18446744073709551615 % 256 ^ width + 1 ≡ 256 ^ width
unit_top width is = top width is.some is.most
  where
    top : (width : ℕ) → 1 ≤ width → width ≤ 8 → 18446744073709551615 % 256 ^ width + 1 ≡ 256 ^ width
    top zero some most = let never : ⊥ = omega arith in absurd never
    top (suc zero) some most = refl
    top (suc (suc zero)) some most = refl
    top (suc (suc (suc zero))) some most = refl
    top (suc (suc (suc (suc zero)))) some most = refl
    top (suc (suc (suc (suc (suc zero))))) some most = refl
    top (suc (suc (suc (suc (suc (suc zero)))))) some most = refl
    top (suc (suc (suc (suc (suc (suc (suc zero))))))) some most = refl
    top (suc (suc (suc (suc (suc (suc (suc (suc zero)))))))) some most = refl
    top (suc (suc (suc (suc (suc (suc (suc (suc (suc w))))))))) some most = let never : ⊥ = omega arith in absurd never

-- ---- places

module _ (width count : ℕ) (words : List ℕ) (packed : IsPacked width count words) where
  pub length-keys : length (keys_in width count words) ≡ count
  length-keys =
      let room = packed.enough in
      length-take-le count (places_of width words) (subst (λ n. count ≤ n) (sym (length-places_of width packed.is_width words)) room)

  pub there_in : (at key : ℕ) → at < count → key ≡ get_or (places_of width words) at 0 → IsKeyAt (keys_in width count words) (at, key)
  there_in at key inside is_key = record { inside = subst (λ n. at < n) (sym length-keys) inside; there = is_key ∙ sym (get_or-take count (places_of width words) at 0 inside) }

  -- All keys are at or below the greatest word.
  pub all_up_to : set.count_up_to (keys_in width count words) 18446744073709551615 ≡ count
  all_up_to =
      ap length (filter_all (λ key. is_le (word_order key 18446744073709551615)) (keys_in width count words) (each (keys_in width count words) (keys_below_unit width count words))) ∙ length-keys
    where
      each : (keys : List ℕ) → AllByRecursion (λ key. key < 256 ^ width) keys → AllByRecursion (λ key. is_le (word_order key 18446744073709551615) ≡ true) keys
      each [] all = tt
      each (key ∷ keys) all = (
        (let below = all.0 in let fits = unit_fits width packed.is_width in is_le_word key 18446744073709551615 ∙ le-leb key 18446744073709551615 (omega arith)),
        each keys all.1,
      )
