-- What stands at a key of what two maps have together.
use Rattle.std.proofs.Common.{◌≡◌, ℕ, not, Bool, true, false, cond, ◌++◌, Option, Some, None, is_some, refl, sym, ap, ◌∙◌}
use Rattle.std.specs.Option.{option_or}
use Rattle.std.specs.Cmp.{nat_cmp_total}
use Rattle.std.specs.FinMap.{FinMap, empty, entries, contains_key, get, retain_keys, get-entries, get-empty, get-retain_keys, get-from_entries, same_map, nat_cmp-IsAntisymmetric}
use Rattle.judy_model.specs.Keys.{word_order}
use Rattle.judy_model.specs.TwoMaps.{union, intersection, difference, symmetric_difference}
use Rattle.judy_combine.specs.Merges.{taken, pick}
use Rattle.judy_sets.specs.Results.{kept}
use Rattle.judy_combine.specs.declared.keep.Keep.{Keep}
use Rattle.judy_combine.proofs.Finds.{find-join}

abbrev pub Words : Type 0
Words = FinMap word_order ℕ

pub same_words : (one other : Words) → ((key : ℕ) → get one key ≡ get other key) → one ≡ other
same_words one other same = same_map nat_cmp_total nat_cmp-IsAntisymmetric one other same

-- A part by a test of the keys.
pub get-part : (map : Words) (test : ℕ → Bool) (key : ℕ) → get (retain_keys map test) key ≡ cond (test key) (get map key) None
get-part map test key = get-retain_keys map test key (λ other tied. ap test (sym (nat_cmp-IsAntisymmetric key other tied)))

pub get-union : (one other : Words) (key : ℕ) → get (union one other) key ≡ option_or (get one key) (get other key)
unfolding union
get-union one other key =
    get-from_entries nat_cmp_total (entries one ++ entries other) key ∙ find-join key (entries one) (entries other) ∙ (λ t. option_or (sym (get-entries one key) t) (sym (get-entries other key) t))

pub get-intersection : (one other : Words) (key : ℕ) → get (intersection one other) key ≡ cond (contains_key other key) (get one key) None
unfolding intersection
get-intersection one other key = get-part one (contains_key other) key

pub get-difference : (one other : Words) (key : ℕ) → get (difference one other) key ≡ cond (not (contains_key other key)) (get one key) None
unfolding difference
get-difference one other key = get-part one (λ k. not (contains_key other k)) key

pub get-symmetric_difference : (one other : Words) (key : ℕ) → get (symmetric_difference one other) key ≡
    option_or (cond (not (contains_key other key)) (get one key) None) (cond (not (contains_key one key)) (get other key) None)
unfolding symmetric_difference
get-symmetric_difference one other key =
    get-union (difference one other) (difference other one) key ∙ (λ t. option_or (get-difference one other key t) (get-difference other one key t))

-- ---- what is kept

if_right : (right : Bool) (one other : Words) (key : ℕ) → get (cond right (difference other one) empty) key ≡ cond right (cond (not (contains_key one key)) (get other key) None) None
if_right true one other key = get-difference other one key
if_right false one other key = get-empty word_order key

parts : (left both right : Bool) (ours theirs : Option ℕ) → option_or (cond (cond (is_some theirs) both left) ours None) (cond right (cond (not (is_some ours)) theirs None) None) ≡
    taken left both right ours theirs
parts true both true None None = refl
parts true both false None None = refl
parts false both true None None = refl
parts false both false None None = refl
parts left true true None (Some v) = refl
parts left true false None (Some v) = refl
parts left false true None (Some v) = refl
parts left false false None (Some v) = refl
parts true both true (Some v) None = refl
parts true both false (Some v) None = refl
parts false both true (Some v) None = refl
parts false both false (Some v) None = refl
parts left true right (Some v) (Some w) = refl
parts left false true (Some v) (Some w) = refl
parts left false false (Some v) (Some w) = refl

pub get-kept : (keep : Keep) (one other : Words) (key : ℕ) → get (kept keep one other) key ≡ pick keep (get one key) (get other key)
unfolding kept
get-kept keep one other key =
    get-union _ _ key
    ∙ (λ t. option_or (get-part one (λ k. cond (contains_key other k) keep.both keep.left) key t) (if_right keep.right one other key t))
    ∙ parts keep.left keep.both keep.right (get one key) (get other key)

-- ---- by name

of_union : (ours theirs : Option ℕ) → option_or ours theirs ≡ taken true true true ours theirs
of_union None None = refl
of_union None (Some w) = refl
of_union (Some v) None = refl
of_union (Some v) (Some w) = refl

of_intersection : (ours theirs : Option ℕ) → cond (is_some theirs) ours None ≡ taken false true false ours theirs
of_intersection None None = refl
of_intersection None (Some w) = refl
of_intersection (Some v) None = refl
of_intersection (Some v) (Some w) = refl

of_difference : (ours theirs : Option ℕ) → cond (not (is_some theirs)) ours None ≡ taken true false false ours theirs
of_difference None None = refl
of_difference None (Some w) = refl
of_difference (Some v) None = refl
of_difference (Some v) (Some w) = refl

of_symmetric : (ours theirs : Option ℕ) → option_or (cond (not (is_some theirs)) ours None) (cond (not (is_some ours)) theirs None) ≡ taken true false true ours theirs
of_symmetric None None = refl
of_symmetric None (Some w) = refl
of_symmetric (Some v) None = refl
of_symmetric (Some v) (Some w) = refl

pub kept-union : (one other : Words) → kept (record { left = true; both = true; right = true }) one other ≡ union one other
kept-union one other = same_words _ _ (λ key. get-kept _ one other key ∙ sym (get-union one other key ∙ of_union (get one key) (get other key)))

pub kept-intersection : (one other : Words) → kept (record { left = false; both = true; right = false }) one other ≡ intersection one other
kept-intersection one other = same_words _ _ (λ key. get-kept _ one other key ∙ sym (get-intersection one other key ∙ of_intersection (get one key) (get other key)))

pub kept-difference : (one other : Words) → kept (record { left = true; both = false; right = false }) one other ≡ difference one other
kept-difference one other = same_words _ _ (λ key. get-kept _ one other key ∙ sym (get-difference one other key ∙ of_difference (get one key) (get other key)))

pub kept-symmetric : (one other : Words) → kept (record { left = true; both = false; right = true }) one other ≡ symmetric_difference one other
kept-symmetric one other = same_words _ _ (λ key. get-kept _ one other key ∙ sym (get-symmetric_difference one other key ∙ of_symmetric (get one key) (get other key)))
