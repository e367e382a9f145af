-- The sums of chunks in a row, as they stand beside the chunks.
use Rattle.std.proofs.Common.{◌≡◌, ℕ, zero, suc, ◌+◌, ◌<◌, ◌≤◌, List, [], ◌∷◌, length, take, drop, get_or, set, insert, remove, refl, sym, ap, ◌∙◌, subst, arith}
use Rattle.std.specs.List.{sum}
use Rattle.std.proofs.lemmas.List.{map-set, take-append-drop, get_or_read, length-map}
use Rattle.std.proofs.lemmas.List.Sums.{sum_by-cons, sum_by-append, sum_by-set}
use Rattle.judy_sums.specs.Groups.{AreGroups}
use Rattle.judy_sums.specs.Pairs.{Pairs, sum_of}
use Rattle.judy_sums.specs.Chunks.{AreTotals, joined, totals_of}
use Rattle.judy_sums.proofs.ChunkLemmas.{joined_append}

-- The totals of the first chunks add up to what these have.
pub sum_before : (chunks : List Pairs) (at : ℕ) → sum (take at (totals_of chunks)) ≡ sum_of (joined (take at chunks))
sum_before [] zero = refl
sum_before [] (suc at) = refl
sum_before (chunk ∷ rest) zero = refl
sum_before (chunk ∷ rest) (suc at) =
    let first = sum_by-cons (λ (total : ℕ). total) (sum_of chunk) (take at (totals_of rest)) in
    let parts = sum_by-append (λ (pair : ℕ × ℕ). pair.1) chunk (joined (take at rest)) in
    let later = sum_before rest at in
    omega arith

-- All totals add up to what all chunks have.
sum_totals : (chunks : List Pairs) → sum (totals_of chunks) ≡ sum_of (joined chunks)
sum_totals [] = refl
sum_totals (chunk ∷ rest) =
    let first = sum_by-cons (λ (total : ℕ). total) (sum_of chunk) (totals_of rest) in
    let parts = sum_by-append (λ (pair : ℕ × ℕ). pair.1) chunk (joined rest) in
    let later = sum_totals rest in
    omega arith

-- The total at a place is its chunk's.
pub total_at : (chunks : List Pairs) (at other : ℕ) → at < length chunks → get_or (totals_of chunks) at other ≡ sum_of (get_or chunks at [])
total_at [] at other within = absurd (omega arith)
total_at (chunk ∷ rest) zero other within = refl
total_at (chunk ∷ rest) (suc at) other within = total_at rest at other (omega arith)

-- A chunk changes, and its total with it.
pub totals_set : (chunks : List Pairs) (at : ℕ) (chunk : Pairs) → totals_of (set chunks at chunk) ≡ set (totals_of chunks) at (sum_of chunk)
totals_set chunks at chunk = map-set sum_of chunks at chunk

pub totals_insert : (chunks : List Pairs) (at : ℕ) (chunk : Pairs) → totals_of (insert chunks at chunk) ≡ insert (totals_of chunks) at (sum_of chunk)
totals_insert [] zero chunk = refl
totals_insert [] (suc at) chunk = refl
totals_insert (first ∷ rest) zero chunk = refl
totals_insert (first ∷ rest) (suc at) chunk = ap (λ (totals : List ℕ). sum_of first ∷ totals) (totals_insert rest at chunk)

pub totals_remove : (chunks : List Pairs) (at : ℕ) → totals_of (remove chunks at) ≡ remove (totals_of chunks) at
totals_remove [] zero = refl
totals_remove [] (suc at) = refl
totals_remove (first ∷ rest) zero = refl
totals_remove (first ∷ rest) (suc at) = ap (λ (totals : List ℕ). sum_of first ∷ totals) (totals_remove rest at)

pub removed_set : {A : Type 0} (all : List A) (at : ℕ) (one : A) → remove (set all at one) at ≡ remove all at
removed_set [] zero one = refl
removed_set [] (suc at) one = refl
removed_set (first ∷ rest) zero one = refl
removed_set (first ∷ rest) (suc at) one = ap (λ all. first ∷ all) (removed_set rest at one)

-- A number that changes in a chunk changes its sum.
pub sum_set : (pairs : Pairs) (at : ℕ) (pair : ℕ × ℕ) → at < length pairs → sum_of (set pairs at pair) + (get_or pairs at (0, 0)).1 ≡ sum_of pairs + pair.1
sum_set [] at pair within = absurd (omega arith)
sum_set (first ∷ rest) zero pair within =
    let old = sum_by-cons (λ (pair : ℕ × ℕ). pair.1) first rest in
    let new = sum_by-cons (λ (pair : ℕ × ℕ). pair.1) pair rest in
    omega arith
sum_set (first ∷ rest) (suc at) pair within =
    let old = sum_by-cons (λ (pair : ℕ × ℕ). pair.1) first rest in
    let new = sum_by-cons (λ (pair : ℕ × ℕ). pair.1) first (set rest at pair) in
    let later = sum_set rest at pair (omega arith) in
    omega arith

pub sum_remove : (pairs : Pairs) (at : ℕ) → at < length pairs → sum_of (remove pairs at) + (get_or pairs at (0, 0)).1 ≡ sum_of pairs
sum_remove [] at within = absurd (omega arith)
sum_remove (first ∷ rest) zero within =
    let old = sum_by-cons (λ (pair : ℕ × ℕ). pair.1) first rest in
    omega arith
sum_remove (first ∷ rest) (suc at) within =
    let old = sum_by-cons (λ (pair : ℕ × ℕ). pair.1) first rest in
    let new = sum_by-cons (λ (pair : ℕ × ℕ). pair.1) first (remove rest at) in
    let later = sum_remove rest at (omega arith) in
    omega arith

-- A chunk that is there is what is read there, whatever is read where none is.
pub lent_self : (chunks : List Pairs) (at : ℕ) → at < length chunks → get_or chunks at [] ≡ get_or chunks at (get_or chunks at [])
lent_self [] at within = absurd (omega arith)
lent_self (chunk ∷ rest) zero within = refl
lent_self (chunk ∷ rest) (suc at) within = lent_self rest at (omega arith)

-- The first chunks have no more than all.
pub sum_first : (chunks : List Pairs) (at : ℕ) → sum_of (joined (take at chunks)) ≤ sum_of (joined chunks)
sum_first chunks at =
    let whole = ap (λ (all : List Pairs). sum_of (joined all)) (take-append-drop at chunks) in
    let parts = ap sum_of (joined_append (take at chunks) (drop at chunks)) in
    let sums = sum_by-append (λ (pair : ℕ × ℕ). pair.1) (joined (take at chunks)) (joined (drop at chunks)) in
    omega arith

-- What stands beside chunks stands beside the same ones.
pub totals_along : (chunks old : List Pairs) (totals before groups sums : List ℕ) → chunks ≡ old → totals ≡ before → groups ≡ sums → AreTotals old before sums → AreTotals chunks totals groups
totals_along chunks old totals before groups sums same each grouped are = record {
  each = each ∙ are.each ∙ ap totals_of (sym same);
  grouped = subst (λ (all : List ℕ). AreGroups all groups) (sym each) (subst (λ (all : List ℕ). AreGroups before all) (sym grouped) are.grouped);
}

-- A chunk is lent, and its total beside it.
module _ (chunks now : List Pairs) (totals groups : List ℕ) (view : chunks ≡ now) (are : AreTotals chunks totals groups) where
  pub all_totals : sum totals ≡ sum_of (joined now)
  all_totals = ap sum are.each ∙ sum_totals chunks ∙ ap (λ (all : List Pairs). sum_of (joined all)) view

  module _ (at : ℕ) (within : at < length now) where
    inside : at < length chunks
    inside = let long = ap length view in omega arith

    beside : at < length totals
    beside = let long = ap length are.each in let as_long = length-map chunks sum_of in let here = inside in omega arith

    -- A total that changes changes the sum of all.
    pub all_set : (new : List ℕ) (total : ℕ) → new ≡ set totals at total → sum new + get_or totals at 0 ≡ sum_of (joined now) + total
    all_set new total is =
        let one = sum_by-set (λ (one : ℕ). one) totals at total 0 beside in
        let whole = all_totals in
        let same = ap sum is in
        omega arith

    pub each_set : (pairs : Pairs) (new : List ℕ) (total : ℕ) → new ≡ set totals at total → total ≡ sum_of pairs → new ≡ totals_of (set chunks at pairs)
    each_set pairs new total is has =
        is ∙ ap (λ (all : List ℕ). set all at total) are.each ∙ ap (λ (n : ℕ). set (totals_of chunks) at n) has ∙ sym (totals_set chunks at pairs)

    module _ (lent : Pairs) (lends : lent ≡ get_or chunks at lent) where
      pub is_lent : lent ≡ get_or now at []
      is_lent = get_or_read chunks at lent inside lends [] ∙ ap (λ (all : List Pairs). get_or all at []) view

      pub its_total : get_or totals at 0 ≡ sum_of lent
      its_total = ap (λ (all : List ℕ). get_or all at 0) are.each ∙ total_at chunks at 0 inside ∙ sym (ap sum_of (get_or_read chunks at lent inside lends []))
