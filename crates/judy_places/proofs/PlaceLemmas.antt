-- Free places that are taken, and taken ones that become free.
use Rattle.std.proofs.Common.{◌≡◌, ℕ, zero, suc, ◌<◌, ◌≤◌, inl, inr, [], ◌∷◌, ◌++◌, length, get_or, set, None, Some, refl, sym, ap, subst, ◌∙◌, arith}
use Rattle.std.proofs.lemmas.Option.{none-some, same_Some}
use Rattle.std.proofs.lemmas.List.{length-set, get_or-set_same, set-set, set-get_or}
use Rattle.judy_places.specs.Places.{Links, AllTaken, AreLinked, NoneLost, free_places, taken_places, IsPlaceTaken, AreReused, AreFreed}

-- A taken place more at the end.
get-longer : (links : Links) (at : ℕ) → get_or (links ++ None ∷ []) at None ≡ get_or links at None
get-longer [] zero = refl
get-longer [] (suc at) = refl
get-longer (link ∷ rest) zero = refl
get-longer (link ∷ rest) (suc at) = get-longer rest at

all-longer : (links : Links) → AllTaken links → AllTaken (links ++ None ∷ [])
all-longer links all at = get-longer links at ∙ all at

-- Where the first place isn't free, none is.
all-taken : (count : ℕ) (links : Links) (first : ℕ) → AreLinked count links first → get_or links first None ≡ None → AllTaken links
all-taken zero links first all none = all
all-taken (suc count) links first linked none = absurd (none-some linked.0 (sym none ∙ linked.1))

pub none-free : (links : Links) (first : ℕ) → NoneLost links first → get_or links first None ≡ None → AllTaken links
none-free links first lost none = all-taken lost.0 links first lost.1 none

-- A free place is one of the list.
pub free-inside : (links : Links) (at next : ℕ) → get_or links at None ≡ Some next → at < length links
free-inside [] at next is = absurd (none-some next is)
free-inside (link ∷ rest) zero next is = omega arith
free-inside (link ∷ rest) (suc at) next is = (let inside = free-inside rest at next is in omega (arith, inside))

on-taken : (count : ℕ) (links : Links) (first next : ℕ) → AreLinked count links first → get_or links first None ≡ Some next → NoneLost (set links first None) next
on-taken zero links first next all is = absurd (none-some next (sym (all first) ∙ is))
on-taken (suc count) links first next linked is = (count, subst (AreLinked count (set links first None)) (same_Some linked.0 next (sym linked.1 ∙ is)) linked.2)

-- One place is taken.
pub taken-reused : (before : Links) (first : ℕ) (after : Links) (next : ℕ) → IsPlaceTaken before first after next → AreReused before first after next
taken-reused before first after next (inl is) = record {
  kept = λ lost. subst (λ links. NoneLost links next) (sym is.1) (on-taken lost.0 before first next lost.1 is.0);
  full = λ all. absurd (none-some next (sym (all first) ∙ is.0));
  tight = λ lost. inl (let l = ap (λ (links : Links). length links) is.1 ∙ length-set before first None in omega (arith, l));
}
taken-reused before first after next (inr is) =
    let all : NoneLost before first → AllTaken after = (λ lost. subst AllTaken (sym is.1) (all-longer before (all-taken lost.0 before first lost.1 is.0))) in
    record {
      kept = λ lost. (0, all lost);
      full = λ taken. subst AllTaken (sym is.1) (all-longer before taken);
      tight = λ lost. inr (all lost);
    }

-- A taken place becomes the first free one.
pub place-freed : (before : Links) (first at : ℕ) → at < length before → get_or before at None ≡ None → AreFreed before first (set before at (Some first)) at
place-freed before first at inside taken = record {
  kept = λ lost.
      let back : set (set before at (Some first)) at None ≡ before = set-set before at (Some first) None ∙ ap (set before at) (sym taken) ∙ set-get_or before at None in
      (suc lost.0, (first, get_or-set_same before at (Some first) None inside, subst (λ (links : Links). AreLinked lost.0 links first) (sym back) lost.1));
  long = length-set before at (Some first);
}

-- How many are free.
free-none : (links : Links) → AllTaken links → free_places links ≡ 0
free-none [] all = refl
free-none (None ∷ rest) all = free-none rest (λ at. all (suc at))
free-none (Some next ∷ rest) all = absurd (none-some next (sym (all 0)))

free-some : (links : Links) (at next : ℕ) → get_or links at None ≡ Some next → free_places links ≡ suc (free_places (set links at None))
free-some [] at next is = absurd (none-some next is)
free-some (None ∷ rest) zero next is = absurd (none-some next is)
free-some (Some link ∷ rest) zero next is = refl
free-some (None ∷ rest) (suc at) next is = free-some rest at next is
free-some (Some link ∷ rest) (suc at) next is = ap (λ n. suc n) (free-some rest at next is)

pub free-linked : (count : ℕ) (links : Links) (first : ℕ) → AreLinked count links first → count ≡ free_places links
free-linked zero links first all = sym (free-none links all)
free-linked (suc count) links first linked = ap (λ n. suc n) (free-linked count (set links first None) linked.0 linked.2) ∙ sym (free-some links first linked.0 linked.1)

-- A list grows only where all its places are taken.
pub within-most : (before : Links) (first : ℕ) (after : Links) (next most : ℕ) → NoneLost before first → AreReused before first after next → length before ≤ most →
    taken_places after ≤ most → length after ≤ most
within-most before first after next most lost reused short taken = elim (reused.tight lost) [
  | inl same ↦ omega (arith, same, short)
  | inr all ↦ (let none = free-none after all in omega (arith, none, taken))
]
