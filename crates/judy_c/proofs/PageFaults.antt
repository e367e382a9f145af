-- The strings on a page, one after the other.
use Rattle.std.proofs.Common.{◌≡◌, ℕ, zero, suc, ◌+◌, ◌<◌, ◌≤◌, Bool, true, false, List, [], ◌∷◌, length, take, drop, get_or, slice_get, Some, refl, sym, ap, ◌∙◌, nat_le}
use Rattle.std.proofs.Common.{if◌then◌else◌, add-one, arith}
use Rattle.std.proofs.Math.Seq.{drop-cons}
use Rattle.judy_c.specs.declared.key_walks.KeyEntry.{KeyEntry}
use Rattle.judy_c.specs.SortedStrings.{strings_on, whole_on}

-- the first one that is left, and those behind it
first_left : {A : Type 0} (xs : List A) (at : ℕ) (x : A) (ys : List A) → drop at xs ≡ x ∷ ys → slice_get xs at ≡ Some x
first_left [] zero x ys left = cc
first_left [] (suc at) x ys left = cc
first_left (y ∷ xs) zero x ys left = let same : y ≡ x = cc in ap Some same
first_left (y ∷ xs) (suc at) x ys left = first_left xs at x ys left

others_left : {A : Type 0} (xs : List A) (at : ℕ) (x : A) (ys : List A) → drop at xs ≡ x ∷ ys → drop (suc at) xs ≡ ys
others_left [] zero x ys left = cc
others_left [] (suc at) x ys left = cc
others_left (y ∷ xs) zero x ys left = cc
others_left (y ∷ xs) (suc at) x ys left = others_left xs at x ys left

-- as many strings as entries
pub length-strings_on : (bytes : List ℕ) (entries : List KeyEntry) → length (strings_on bytes entries) ≡ length entries
length-strings_on bytes [] = refl
length-strings_on bytes (entry ∷ entries) = ap suc (length-strings_on (drop entry.length bytes) entries)

-- where none goes beyond the bytes, the first that is left doesn't
whole_by : (at count more : ℕ) (fits : Bool) → at + (if fits then suc more else 0) ≡ count → at < count → at + 1 + more ≡ count
whole_by at count more true whole within = omega (arith, whole)
whole_by at count more false whole within = absurd (omega (arith, whole, within))

-- the string at a place of a page, whose rest begins with it
module _ (bytes : List ℕ) (entries : List KeyEntry) (rest : List ℕ) (at : ℕ) (default : KeyEntry) (within : at < length entries) where
  entry_at : KeyEntry
  entry_at = get_or entries at default

  entries_left : drop at entries ≡ entry_at ∷ drop (suc at) entries
  unfolding entry_at
  entries_left = drop-cons entries at default within

  module _ (left : drop at (strings_on bytes entries) ≡ strings_on rest (drop at entries)) where
    here : drop at (strings_on bytes entries) ≡ take entry_at.length rest ∷ strings_on (drop entry_at.length rest) (drop (suc at) entries)
    here = left ∙ ap (strings_on rest) entries_left

    pub string_here : (key : List ℕ) → key ≡ take (get_or entries at default).length rest → slice_get (strings_on bytes entries) at ≡ Some key
    unfolding entry_at
    string_here key is = first_left (strings_on bytes entries) at _ _ here ∙ ap Some (sym is)

    pub strings_left : (behind : List ℕ) → behind ≡ drop (get_or entries at default).length rest → drop (at + 1) (strings_on bytes entries) ≡ strings_on behind (drop (at + 1) entries)
    unfolding entry_at
    strings_left behind is =
        ap (λ n. drop n (strings_on bytes entries)) (add-one at) ∙ others_left (strings_on bytes entries) at _ _ here
        ∙ (λ t. strings_on (sym is t) (drop (sym (add-one at) t) entries))

  -- nor do those behind it
  pub whole_left : (behind : List ℕ) → behind ≡ drop (get_or entries at default).length rest → at + whole_on rest (drop at entries) ≡ length entries →
      at + 1 + whole_on behind (drop (at + 1) entries) ≡ length entries
  unfolding entry_at
  whole_left behind is whole =
      let size = (get_or entries at default).length in
      (λ t. at + 1 + whole_on (is t) (drop (add-one at t) entries))
      ∙ whole_by at (length entries) (whole_on (drop size rest) (drop (suc at) entries)) (nat_le size (length rest)) (sym (ap (λ es. at + whole_on rest es) entries_left) ∙ whole) within

-- of those that don't go beyond the bytes there are no more than there are entries
pub at_most : (fits : Bool) (more count : ℕ) → more ≤ count → (if fits then suc more else 0) ≤ suc count
at_most true more count few = omega (arith, few)
at_most false more count few = omega arith

pub whole_on-le : (bytes : List ℕ) (entries : List KeyEntry) → whole_on bytes entries ≤ length entries
whole_on-le bytes [] = omega arith
whole_on-le bytes (entry ∷ entries) = at_most (nat_le entry.length (length bytes)) (whole_on (drop entry.length bytes) entries) (length entries) (whole_on-le (drop entry.length bytes) entries)
