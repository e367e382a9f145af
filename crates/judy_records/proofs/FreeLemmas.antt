-- Free places among records: what stands stays as it is, and each free one is found.
use Rattle.std.proofs.Common.{◌≡◌, ◌≢◌, ℕ, zero, suc, ◌+◌, ◌-◌, ◌<◌, ◌≤◌, List, [], ◌∷◌, length, get_or, set, refl, sym, ap, subst, ◌∙◌, arith}
use Rattle.std.proofs.lemmas.List.{length-set, get_or-set_same, get_or-set_other, set-set, set_comm}
use Rattle.judy_records.specs.Spots.{Spot, free, held, IsHeld, value_of}
use Rattle.judy_records.specs.PageInside.{spots_in, freed, AreChained}

-- The place to which the first one leads.
abbrev pub next_of : List Spot → ℕ → ℕ
next_of all first = value_of (get_or all first (free 0))

pub length-freed : (count first : ℕ) (all : List Spot) → length (freed count first all) ≡ length all
length-freed zero first all = refl
length-freed (suc count) first all = length-set (freed count (next_of all first) all) first (free (next_of all first)) ∙ length-freed count (next_of all first) all

-- What is held is held at a place of the list.
pub held-inside : (spots : List Spot) (at : ℕ) → IsHeld (get_or spots at (free 0)) → at < length spots
held-inside [] at is = absurd is
held-inside (spot ∷ rest) zero is = omega arith
held-inside (spot ∷ rest) (suc at) is = (let inside = held-inside rest at is in omega (arith, inside))

-- A free place isn't held.
held-apart : (spots : List Spot) (first next at : ℕ) → IsHeld (get_or (set spots first (free next)) at (free 0)) → at ≢ first
held-apart spots first next at is same =
    let inside = held-inside (set spots first (free next)) at is in
    let long = length-set spots first (free next) in
    subst IsHeld (ap (λ k. get_or (set spots first (free next)) k (free 0)) same ∙ get_or-set_same spots first (free next) (free 0) (omega (arith, inside, long, same))) is

held-before : (spots : List Spot) (first next at : ℕ) → IsHeld (get_or (set spots first (free next)) at (free 0)) → IsHeld (get_or spots at (free 0))
held-before spots first next at is = subst IsHeld (get_or-set_other spots first at (free next) (free 0) (held-apart spots first next at is)) is

-- What stands stays as it is.
pub freed-held : (count first : ℕ) (all : List Spot) (at : ℕ) → IsHeld (get_or (freed count first all) at (free 0)) → get_or (freed count first all) at (free 0) ≡ get_or all at (free 0)
freed-held zero first all at is = refl
freed-held (suc count) first all at is =
    let next = next_of all first in
    get_or-set_other (freed count next all) first at (free next) (free 0) (held-apart (freed count next all) first next at is)
    ∙ freed-held count next all at (held-before (freed count next all) first next at is)

-- Another record in the place of one.
module _ (at : ℕ) (spot : Spot) where
  next-same : (all : List Spot) (first : ℕ) → at ≢ first → next_of (set all at spot) first ≡ next_of all first
  next-same all first apart = ap value_of (get_or-set_other all at first spot (free 0) (λ e. apart (sym e)))

  pub freed-set : (count first : ℕ) (all : List Spot) → IsHeld (get_or (freed count first all) at (free 0)) → freed count first (set all at spot) ≡ set (freed count first all) at spot
  freed-set zero first all is = refl
  freed-set (suc count) first all is =
      let next = next_of all first in
      let apart = held-apart (freed count next all) first next at is in
      ap (λ n. set (freed count n (set all at spot)) first (free n)) (next-same all first apart)
      ∙ ap (λ spots. set spots first (free next)) (freed-set count next all (held-before (freed count next all) first next at is))
      ∙ set_comm (freed count next all) at first spot (free next) apart

  pub chained-set : (count first : ℕ) (all : List Spot) → IsHeld (get_or (freed count first all) at (free 0)) → AreChained count first all → AreChained count first (set all at spot)
  chained-set zero first all is chained = tt
  chained-set (suc count) first all is chained =
      let next = next_of all first in
      let apart = held-apart (freed count next all) first next at is in
      let was = held-before (freed count next all) first next at is in
      subst (λ n. IsHeld (get_or (freed count n (set all at spot)) first (free 0)) × AreChained count n (set all at spot)) (sym (next-same all first apart)) (
        subst IsHeld (sym (ap (λ spots. get_or spots first (free 0)) (freed-set count next all was) ∙ get_or-set_other (freed count next all) at first spot (free 0) (λ e. apart (sym e)))) chained.0,
        chained-set count next all was chained.1,
      )

-- ---- a record that goes

module _ (count first : ℕ) (all : List Spot) (at : ℕ) (is : IsHeld (get_or (freed count first all) at (free 0))) (text : List ℕ) where
  gone-inside : at < length all
  gone-inside = (let inside = held-inside (freed count first all) at is in let long = length-freed count first all in omega (arith, inside, long))

  gone-next : next_of (set all at (held first text)) at ≡ first
  gone-next = ap value_of (get_or-set_same all at (held first text) (free 0) gone-inside)

  pub freed-more : freed (suc count) at (set all at (held first text)) ≡ set (freed count first all) at (free first)
  freed-more =
      ap (λ n. set (freed count n (set all at (held first text))) at (free n)) gone-next
      ∙ ap (λ spots. set spots at (free first)) (freed-set at (held first text) count first all is)
      ∙ set-set (freed count first all) at (held first text) (free first)

  pub chained-more : AreChained count first all → AreChained (suc count) at (set all at (held first text))
  chained-more chained =
      let inside = held-inside (freed count first all) at is in
      subst (λ n. IsHeld (get_or (freed count n (set all at (held first text))) at (free 0)) × AreChained count n (set all at (held first text))) (sym gone-next) (
        subst IsHeld (sym (ap (λ spots. get_or spots at (free 0)) (freed-set at (held first text) count first all is) ∙
            get_or-set_same (freed count first all) at (held first text) (free 0) inside)) tt,
        chained-set at (held first text) count first all is chained,
      )

-- ---- a record that comes to the first free place

module _ (count first : ℕ) (all : List Spot) (chained : AreChained (suc count) first all) (spot : Spot) where
  pub freed-fewer : freed count (next_of all first) (set all first spot) ≡ set (freed (suc count) first all) first spot
  freed-fewer =
      freed-set first spot count (next_of all first) all chained.0
      ∙ sym (set-set (freed count (next_of all first) all) first (free (next_of all first)) spot)

  pub chained-fewer : AreChained count (next_of all first) (set all first spot)
  chained-fewer = chained-set first spot count (next_of all first) all chained.0 chained.1

-- ---- by how many are free

module _ (all : List Spot) (first : ℕ) where
  -- Where none is, nothing is marked.
  pub none-freed : (spare : ℕ) → spare ≡ 0 → freed spare first all ≡ all
  none-freed zero none = refl
  none-freed (suc count) none = absurd (omega (arith, none))

  -- Where some are, a record may come to the first one,
  pub some-freed : (spare : ℕ) → AreChained spare first all → 0 < spare → (spot : Spot) → (freed (spare - 1) (next_of all first) (set all first spot) ≡
      set (freed spare first all) first spot) × AreChained (spare - 1) (next_of all first) (set all first spot)
  some-freed zero chained some spot = absurd (omega (arith, some))
  some-freed (suc count) chained some spot =
      let e : count ≡ suc count - 1 = omega arith in (
        ap (λ n. freed n (next_of all first) (set all first spot)) (sym e) ∙ freed-fewer count first all chained spot,
        subst (λ n. AreChained n (next_of all first) (set all first spot)) e (chained-fewer count first all chained spot),
      )

  -- which is one of the list.
  pub some-inside : (spare : ℕ) → AreChained spare first all → 0 < spare → first < length all
  some-inside zero chained some = absurd (omega (arith, some))
  some-inside (suc count) chained some =
      let inside = held-inside (freed count (next_of all first) all) first chained.0 in
      let long = length-freed count (next_of all first) all in
      omega (arith, inside, long)

-- ---- how many stand

abbrev pub stands : List Spot → ℕ
stands [] = 0
stands (free next ∷ rest) = stands rest
stands (held value text ∷ rest) = suc (stands rest)

stands-set : (spots : List Spot) (at next : ℕ) → IsHeld (get_or spots at (free 0)) → suc (stands (set spots at (free next))) ≡ stands spots
stands-set [] at next is = absurd is
stands-set (free link ∷ rest) zero next is = absurd is
stands-set (held value text ∷ rest) zero next is = refl
stands-set (free link ∷ rest) (suc at) next is = stands-set rest at next is
stands-set (held value text ∷ rest) (suc at) next is = ap (λ n. suc n) (stands-set rest at next is)

pub stands-freed : (count first : ℕ) (all : List Spot) → AreChained count first all → count + stands (freed count first all) ≡ stands all
stands-freed zero first all chained = omega arith
stands-freed (suc count) first all chained =
    let more = stands-freed count (next_of all first) all chained.1 in
    let one = stands-set (freed count (next_of all first) all) first (next_of all first) chained.0 in
    omega (arith, more, one)

pub stands-all : (count size : ℕ) (words : List ℕ) → stands (spots_in count size words) ≡ count
stands-all zero size words = refl
stands-all (suc count) size words = ap (λ n. suc n) (stands-all count size _)

pub none-stand : (spots : List Spot) → stands spots ≡ 0 → (at : ℕ) → IsHeld (get_or spots at (free 0)) → ⊥
none-stand [] none at is = is
none-stand (free next ∷ rest) none zero is = is
none-stand (free next ∷ rest) none (suc at) is = none-stand rest none at is
none-stand (held value text ∷ rest) none at is = absurd (omega (arith, none))

pub some-stand : (spots : List Spot) → 0 < stands spots → (at : ℕ) × IsHeld (get_or spots at (free 0))
some-stand [] some = absurd (omega (arith, some))
some-stand (held value text ∷ rest) some = (0, tt)
some-stand (free next ∷ rest) some = (let one = some-stand rest some in (suc one.0, one.1))

pub all-stand : (count size : ℕ) (words : List ℕ) (at : ℕ) → at < count → IsHeld (get_or (spots_in count size words) at (free 0))
all-stand zero size words at inside = absurd (omega (arith, inside))
all-stand (suc count) size words zero inside = tt
all-stand (suc count) size words (suc at) inside = all-stand count size _ at (omega (arith, inside))

-- The first free place is free.
pub first-free : (count first : ℕ) (all : List Spot) → AreChained (suc count) first all → get_or (freed (suc count) first all) first (free 0) ≡ free (next_of all first)
first-free count first all chained =
    let inside = held-inside (freed count (next_of all first) all) first chained.0 in
    get_or-set_same (freed count (next_of all first) all) first (free (next_of all first)) (free 0) inside
