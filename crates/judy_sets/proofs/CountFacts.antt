-- How many keys two maps have together, and what is left of pairs that are read page by page.
use Rattle.std.proofs.Common.{◌≡◌, ℕ, ◌+◌, ◌-◌, ◌≤◌, true, false, [], ◌∷◌, ◌++◌, length, drop, refl, sym, ap, ◌∙◌, subst, arith}
use Rattle.std.specs.FinMap.{FinMap, entries, len}
use Rattle.judy_model.specs.Keys.{word_order}
use Rattle.judy_model.specs.TwoMaps.{union, intersection, difference, symmetric_difference}
use Rattle.judy_combine.specs.Merges.{Pairs, Ascends}
use Rattle.judy_sets.specs.Pages.{Ahead, rest}
use Rattle.judy_combine.proofs.Finds.{ascends-drop}
use Rattle.judy_sets.proofs.Lengths.{entries_ascend, len-difference, len-rest, len-union, len-kept}
use Rattle.judy_sets.proofs.MapLaws.{kept-symmetric}

-- The pairs of a map, as they are read.
pub ascends_all : (map : FinMap word_order ℕ) (all : Pairs) → all ≡ entries map → Ascends 0 all
ascends_all map all is = subst (Ascends 0) (sym is) (entries_ascend map)

pub common-most : (one other : FinMap word_order ℕ) → len (intersection one other) ≤ len one
common-most one other = let parts = len-difference one other in omega (arith, parts)

-- A part that was passed.
pub after_pass : (ahead after : Ahead) (passed : ℕ) → rest after ≡ drop passed ahead.0 ++ ahead.1 → Ascends 0 (rest ahead) → Ascends 0 (rest after)
after_pass ahead after passed is ascends = subst (Ascends 0) (sym is) (ascends-drop 0 passed ahead.0 ahead.1 ascends)

no_pairs : (pairs : Pairs) → length pairs ≡ 0 → pairs ≡ []
no_pairs [] e = refl
no_pairs (pair ∷ pairs) e = absurd (omega (arith, e))

pub at_end : (ahead : Ahead) (ours : Pairs) → ours ≡ ahead.0 → (ahead.0 ≡ [] → ahead.1 ≡ []) → length ours ≡ 0 → rest ahead ≡ []
at_end ahead ours is last none = let nothing : ahead.0 ≡ [] = sym is ∙ no_pairs ours none in λ t. nothing t ++ last nothing t

pub common-rest : (one other : FinMap word_order ℕ) → len (intersection one other) ≤ len other
common-rest one other = let parts = len-rest one other in omega (arith, parts)

pub count-difference : (one other : FinMap word_order ℕ) → len one - len (intersection one other) ≡ len (difference one other)
count-difference one other = let parts = len-difference one other in omega (arith, parts)

pub count-union : (one other : FinMap word_order ℕ) → len one + len (difference other one) ≡ len (union one other)
count-union one other =
    let whole = len-union one other in
    let parts = len-rest one other in
    omega (arith, whole, parts)

pub count-symmetric : (one other : FinMap word_order ℕ) → (len one - len (intersection one other)) + (len other - len (intersection one other)) ≡ len (symmetric_difference one other)
count-symmetric one other =
    let counted = len-kept (record { left = true; both = false; right = true }) one other in
    let named = ap len (kept-symmetric one other) in
    omega (arith, counted, named)
