-- The sums of groups of numbers: what the first ones add up to, and what a change of a number changes.
use Rattle.std.proofs.Common.{◌≡◌, ℕ, zero, suc, ◌+◌, ◌-◌, ◌*◌, ◌/◌, ◌<◌, ◌≤◌, inl, inr, List, [], ◌∷◌, length, take, drop, get_or, set, sym, ap, ◌∙◌, arith}
use Rattle.std.specs.List.{sum, between}
use Rattle.std.proofs.lemmas.Bool.{cases_lt}
use Rattle.std.proofs.lemmas.List.{length-set, take-take, take-set-le, drop-take}
use Rattle.std.proofs.lemmas.List.Sums.{sum_by-cons, sum_by_more, sum_by-take-drop, sum_by-take-le}
use Rattle.judy_sums.specs.Groups.{AreGroups, groups_for}

-- ---- sums of the first numbers

-- More numbers have no less.
pub first_le : (numbers : List ℕ) (less more : ℕ) → less ≤ more → sum (take less numbers) ≤ sum (take more numbers)
first_le numbers less more le =
    let same = ap sum (take-take less more numbers le) in
    let within = sum_by-take-le (λ (number : ℕ). number) (take more numbers) less in
    omega arith

-- A number is within the sum of those of which it is one.
pub one_within : (numbers : List ℕ) (less at more : ℕ) → less ≤ at → at < more → at < length numbers → sum (take less numbers) + get_or numbers at 0 ≤ sum (take more numbers)
one_within numbers less at more from to within =
    let step = sum_by_more (λ (number : ℕ). number) numbers at 0 within in
    let front = first_le numbers less at from in
    let back = first_le numbers (at + 1) more (omega arith) in
    omega arith

-- A number that changes changes the sum of those of which it is one.
pub first_set : (numbers : List ℕ) (at many new : ℕ) → at < many → at < length numbers → sum (take many (set numbers at new)) + get_or numbers at 0 ≡ sum (take many numbers) + new
first_set [] at many new below within = absurd (omega arith)
first_set (number ∷ rest) at zero new below within = absurd (omega arith)
first_set (number ∷ rest) zero (suc many) new below within =
    let old = sum_by-cons (λ (number : ℕ). number) number (take many rest) in
    let now = sum_by-cons (λ (number : ℕ). number) new (take many rest) in
    omega arith
first_set (number ∷ rest) (suc at) (suc many) new below within =
    let old = sum_by-cons (λ (number : ℕ). number) number (take many rest) in
    let now = sum_by-cons (λ (number : ℕ). number) number (take many (set rest at new)) in
    let later = first_set rest at many new (omega arith) (omega arith) in
    omega arith

-- The first numbers are some of them and those between.
pub first_parts : (numbers : List ℕ) (less more : ℕ) → less ≤ more → sum (take less numbers) + sum (between less more numbers) ≡ sum (take more numbers)
first_parts numbers less more le =
    let whole : less + (more - less) ≡ more = omega arith in
    let parts = sum_by-take-drop (λ (number : ℕ). number) (take more numbers) less in
    let front = ap sum (take-take less more numbers le) in
    let back = ap sum (ap (λ (n : ℕ). drop less (take n numbers)) (sym whole) ∙ drop-take less (more - less) numbers) in
    omega arith

-- ---- groups

module _ (numbers groups : List ℕ) (are : AreGroups numbers groups) (at : ℕ) (within : at < length numbers) where
  pub group_within : at / 64 < length groups
  group_within = let many = are.many in omega arith

  -- A group has no less than one of its numbers.
  pub group_has : get_or numbers at 0 ≤ get_or groups (at / 64) 0
  group_has =
      let inside = group_within in
      let step = sum_by_more (λ (number : ℕ). number) groups (at / 64) 0 inside in
      let before = are.sums (at / 64) (omega arith) in
      let by = are.sums (at / 64 + 1) (omega arith) in
      let one = one_within numbers (64 * (at / 64)) at (64 * (at / 64 + 1)) (omega arith) (omega arith) within in
      omega arith

  -- A number changes, and its group by as much.
  pub changed_are : (number group : ℕ) → number + get_or groups (at / 64) 0 ≡ group + get_or numbers at 0 → AreGroups (set numbers at number) (set groups (at / 64) group)
  changed_are number group as_much =
      let inside = group_within in
      let long = length-set groups (at / 64) group in
      record {
        many = long ∙ are.many ∙ ap groups_for (sym (length-set numbers at number));
        sums = λ first le.
            let old = are.sums first (omega arith) in
            elim (cases_lt (at / 64) first) [
              | inl below ↦
                  let of_numbers = first_set numbers at (64 * first) number (omega arith) within in
                  let of_groups = first_set groups (at / 64) first group below inside in
                  omega arith
              | inr above ↦
                  let of_numbers = ap sum (take-set-le (64 * first) numbers at number (omega arith)) in
                  let of_groups = ap sum (take-set-le first groups (at / 64) group above) in
                  omega arith
            ];
      }
