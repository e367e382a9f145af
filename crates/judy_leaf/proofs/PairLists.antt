-- Pairs of keys and values with one more or less.
use Rattle.std.proofs.Common.{◌≡◌, ℕ, zero, suc, ◌<◌, ◌≤◌, ◌==◌, false, not, List, [], ◌∷◌, length, get_or, refl, ap, subst, arith}
use Rattle.std.specs.List.{insert, remove}
use Rattle.std.specs.List.Sorted.{IsStrictlySortedBy}
use Rattle.std.proofs.lemmas.Option.{slice_get-get_or}
use Rattle.judy_model.specs.Keys.{word_order}
use Rattle.judy_model.proofs.lemmas.maps.Ascending.{ascending-filter}
use Rattle.judy_bits.specs.ByteSets.{has, rank}
use Rattle.judy_bits.proofs.SetLemmas.{with_other, with_byte-ascending, without_at}
use Rattle.judy_leaf.specs.KeyLists.{pairs_of}

pub pairs-insert : (keys values : List ℕ) (at key value : ℕ) → length values ≡ length keys → at ≤ length keys →
    pairs_of (insert keys at key) (insert values at value) ≡ insert (pairs_of keys values) at (key, value)
pairs-insert keys values zero key value same place = refl
pairs-insert [] values (suc at) key value same place = let never : ⊥ = omega arith in absurd never
pairs-insert (k ∷ keys) [] (suc at) key value same place = let never : ⊥ = omega arith in absurd never
pairs-insert (k ∷ keys) (v ∷ values) (suc at) key value same place = ap (λ rest. (k, v) ∷ rest) (pairs-insert keys values at key value (omega arith) (omega arith))

pub pairs-insert_none : (keys : List ℕ) (at key : ℕ) → at ≤ length keys → pairs_of (insert keys at key) [] ≡ insert (pairs_of keys []) at (key, 0)
pairs-insert_none keys zero key place = refl
pairs-insert_none [] (suc at) key place = let never : ⊥ = omega arith in absurd never
pairs-insert_none (k ∷ keys) (suc at) key place = ap (λ rest. (k, 0) ∷ rest) (pairs-insert_none keys at key (omega arith))

pub pairs-remove : (keys values : List ℕ) (at : ℕ) → length values ≡ length keys → at < length keys → pairs_of (remove keys at) (remove values at) ≡ remove (pairs_of keys values) at
pairs-remove [] values at same place = let never : ⊥ = omega arith in absurd never
pairs-remove (k ∷ keys) [] at same place = let never : ⊥ = omega arith in absurd never
pairs-remove (k ∷ keys) (v ∷ values) zero same place = refl
pairs-remove (k ∷ keys) (v ∷ values) (suc at) same place = ap (λ rest. (k, v) ∷ rest) (pairs-remove keys values at (omega arith) (omega arith))

pub pairs-remove_none : (keys : List ℕ) (at : ℕ) → at < length keys → pairs_of (remove keys at) [] ≡ remove (pairs_of keys []) at
pairs-remove_none [] at place = let never : ⊥ = omega arith in absurd never
pairs-remove_none (k ∷ keys) zero place = refl
pairs-remove_none (k ∷ keys) (suc at) place = ap (λ rest. (k, 0) ∷ rest) (pairs-remove_none keys at (omega arith))

-- A key more in its place, and a key less, leave the keys ascending.
pub ascending-insert : (keys : List ℕ) (key : ℕ) → IsStrictlySortedBy word_order keys → has keys key ≡ false → IsStrictlySortedBy word_order (insert keys (rank keys key) key)
ascending-insert keys key ascending absent = subst (IsStrictlySortedBy word_order) (with_other keys key ascending absent) (with_byte-ascending keys key ascending)

pub ascending-remove : (keys : List ℕ) (at : ℕ) → IsStrictlySortedBy word_order keys → at < length keys → IsStrictlySortedBy word_order (remove keys at)
ascending-remove keys at ascending inside =
    let key = get_or keys at 0 in
    subst (IsStrictlySortedBy word_order) (without_at keys at key ascending (slice_get-get_or keys at 0 inside)) (ascending-filter word_order (λ member. not (member == key)) keys ascending)
