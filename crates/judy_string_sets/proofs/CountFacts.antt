-- How many keys two arrays have together.
use Rattle.std.proofs.Common.{◌≡◌, ℕ, ◌+◌, ◌-◌, ◌≤◌, not, Bool, true, false, cond, List, Option, Some, None, is_some, refl, sym, ap, ◌∙◌, arith, true≢false}
use Rattle.std.specs.Option.{option_or}
use Rattle.std.specs.FinMap.{empty, contains_key, get, len, get-empty, len-empty}
use Rattle.judy_model.specs.Keys.{byte_order}
use Rattle.judy_model.specs.TwoMaps.{union, intersection, difference, symmetric_difference}
use Rattle.judy_model.proofs.lemmas.maps.TableLemmas.{byte_order_total, byte_order_same}
use Rattle.judy_model.proofs.lemmas.maps.TwoMapsLemmas.{get-union, get-intersection, get-difference}
use Rattle.judy_laws.proofs.lemmas.Joins.{union_counts, difference_counts, symmetric_difference_counts, same_keys_count, union_with_empty}
use Rattle.judy_string_sets.specs.declared.which.Which.{Which}
use Rattle.judy_string_sets.specs.declared.which.Which.TheVariants.{All, Common, Alone}
use Rattle.judy_string_sets.specs.Walks.{Strings, picked, rest_of, kept}
use Rattle.judy_string_sets.proofs.PartFacts.{same_strings, none_len}
use Rattle.judy_string_sets.proofs.WalkFacts.{either}

-- ---- both have the same in common

common_at : (ours theirs : Option ℕ) → is_some (cond (is_some theirs) ours None) ≡ is_some (cond (is_some ours) theirs None)
common_at None None = refl
common_at None (Some w) = refl
common_at (Some v) None = refl
common_at (Some v) (Some w) = refl

module _ (one other : Strings) where
  turned : (key : List ℕ) → contains_key (intersection one other) key ≡ contains_key (intersection other one) key
  turned key =
      ap is_some (get-intersection byte_order_total byte_order_same one other key)
      ∙ common_at (get one key) (get other key)
      ∙ sym (ap is_some (get-intersection byte_order_total byte_order_same other one key))

  pub len-turned : len (intersection one other) ≡ len (intersection other one)
  len-turned = same_keys_count byte_order_total byte_order_same (intersection one other) (intersection other one)
      (λ key. (λ held. sym (turned key) ∙ held, λ held. turned key ∙ held))

  pub common_most : len (intersection one other) ≤ len one
  common_most = let parts = difference_counts byte_order_total byte_order_same one other in omega (arith, parts)

  pub common_rest : len (intersection one other) ≤ len other
  common_rest =
      let parts = difference_counts byte_order_total byte_order_same other one in
      let same = len-turned in
      omega (arith, parts, same)

  pub difference_most : len (difference one other) ≤ len one
  difference_most = let parts = difference_counts byte_order_total byte_order_same one other in omega (arith, parts)

  pub count_difference : len one - len (intersection one other) ≡ len (difference one other)
  count_difference = let parts = difference_counts byte_order_total byte_order_same one other in omega (arith, parts)

  pub count_rest : len other - len (intersection one other) ≡ len (difference other one)
  count_rest =
      let parts = difference_counts byte_order_total byte_order_same other one in
      let same = len-turned in
      omega (arith, parts, same)

-- ---- what is kept

meets_none : (ours theirs : Option ℕ) → is_some (cond (not (is_some ours)) theirs None) ≡ true → ours ≡ None
meets_none None theirs held = refl
meets_none (Some v) theirs held = absurd (true≢false (sym held))

picked_part : (which : Which) (one other : Strings) (key : List ℕ) → get one key ≡ None → get (picked which one other) key ≡ None
picked_part All one other key none = none
picked_part Common one other key none =
    get-intersection byte_order_total byte_order_same one other key ∙ ap (λ (o : Option ℕ). cond (contains_key other key) o None) none ∙ either (contains_key other key) None
picked_part Alone one other key none =
    get-difference byte_order_total byte_order_same one other key ∙ ap (λ (o : Option ℕ). cond (not (contains_key other key)) o None) none ∙ either (not (contains_key other key)) None

by_held : (b : Bool) (ours nothing : Option ℕ) → (b ≡ true → ours ≡ nothing) → cond b ours nothing ≡ nothing
by_held true ours nothing is = is refl
by_held false ours nothing is = refl

apart : (which : Which) (one other : Strings) → intersection (picked which one other) (difference other one) ≡ empty
apart which one other = same_strings _ _ (λ key.
    get-intersection byte_order_total byte_order_same (picked which one other) (difference other one) key
    ∙ by_held (contains_key (difference other one) key) (get (picked which one other) key) None
    (λ held. picked_part which one other key (meets_none (get one key) (get other key) (sym (ap is_some (get-difference byte_order_total byte_order_same other one key)) ∙ held)))
    ∙ sym (get-empty byte_order key))

picked_len : (which : Which) (one other : Strings) → len (picked which one other) ≤ len one
picked_len All one other = omega arith
picked_len Common one other = common_most one other
picked_len Alone one other = let parts = difference_counts byte_order_total byte_order_same one other in omega (arith, parts)

pub kept_len : (which : Which) (rest : Bool) (one other : Strings) → len (kept which rest one other) ≡ len (picked which one other) + len (rest_of rest one other)
kept_len which true one other =
    let all = union_counts byte_order_total byte_order_same (picked which one other) (difference other one) in
    let none = none_len (intersection (picked which one other) (difference other one)) (apart which one other) in
    omega (arith, all, none)
kept_len which false one other =
    let same = ap len ((union_with_empty byte_order_total byte_order_same (picked which one other)).0) in
    let none = len-empty byte_order ℕ in
    omega (arith, same, none)

-- They are no more than both have.
pub kept_most : (which : Which) (rest : Bool) (one other : Strings) → len (kept which rest one other) ≤ len one + cond rest (len other) 0
kept_most which true one other =
    let long = kept_len which true one other in
    let few = picked_len which one other in
    let parts = difference_counts byte_order_total byte_order_same other one in
    omega (arith, long, few, parts)
kept_most which false one other =
    let long = kept_len which false one other in
    let few = picked_len which one other in
    let none = len-empty byte_order ℕ in
    omega (arith, long, few, none)

-- No more than there are, whether they are wanted or not.
pub shared_most : (wanted : Bool) (n : ℕ) → cond wanted n 0 ≤ n
shared_most true n = omega arith
shared_most false n = omega arith

pub count_union : (one other : Strings) → len one + len (difference other one) ≡ len (union one other)
count_union one other =
    let all = union_counts byte_order_total byte_order_same one other in
    let parts = difference_counts byte_order_total byte_order_same other one in
    let same = len-turned one other in
    omega (arith, all, parts, same)

pub count_symmetric : (one other : Strings) → (len one - len (intersection one other)) + (len other - len (intersection one other)) ≡ len (symmetric_difference one other)
count_symmetric one other =
    let all = symmetric_difference_counts byte_order_total byte_order_same one other in
    let left = count_difference one other in
    let right = count_rest one other in
    omega (arith, all, left, right)

-- ---- by name

joined : (ours theirs : Option ℕ) → option_or ours (cond (not (is_some ours)) theirs None) ≡ option_or ours theirs
joined None theirs = refl
joined (Some v) theirs = refl

pub kept_union : (one other : Strings) → kept All true one other ≡ union one other
kept_union one other = same_strings _ _ (λ key.
    get-union byte_order_total one (difference other one) key
    ∙ ap (option_or (get one key)) (get-difference byte_order_total byte_order_same other one key)
    ∙ joined (get one key) (get other key)
    ∙ sym (get-union byte_order_total one other key))

pub kept_symmetric : (one other : Strings) → kept Alone true one other ≡ symmetric_difference one other
unfolding symmetric_difference
kept_symmetric one other = refl

pub kept_alone : (which : Which) (one other : Strings) → kept which false one other ≡ picked which one other
kept_alone which one other = (union_with_empty byte_order_total byte_order_same (picked which one other)).0
