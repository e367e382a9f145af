-- A walk takes the keys of a map one by one.
use Rattle.std.proofs.Common.{◌≡◌, ℕ, ◌&&◌, Bool, true, false, cond, List, [], ◌∷◌, Option, Some, None, is_some, MatchOption, refl, sym, ap, ◌∙◌, subst, true≢false}
use Rattle.std.proofs.Common.{unwrap_or, Ordering, Less, Equal, Greater, is_lt, is_le}
use Rattle.std.specs.Ordering.{eq_by_cmp, is_eq, is_gt, is_ge}
use Rattle.std.proofs.lemmas.Option.{none-some}
use Rattle.std.specs.FinMap.{empty, contains_key, get, retain_keys, get-empty}
use Rattle.judy_model.specs.Keys.{byte_order}
use Rattle.judy_model.specs.Nearest.{IsLeast}
use Rattle.judy_model.specs.Neighbours.{first, next}
use Rattle.judy_model.specs.TwoMaps.{intersection, difference}
use Rattle.judy_model.proofs.lemmas.maps.TableLemmas.{byte_order_total, byte_order_same}
use Rattle.judy_model.proofs.lemmas.maps.Tests.{both_true, first_true, second_true}
use Rattle.judy_model.proofs.lemmas.orders.Orders.{less_is, ge_is_le, gt_is_lt, le_lt_trans}
use Rattle.judy_model.proofs.lemmas.queries.NearestLemmas.{first-IsFirst, next-IsNext}
use Rattle.judy_sl.specs.Scans.{value_found}
use Rattle.judy_string_sets.specs.declared.which.Which.{Which}
use Rattle.judy_string_sets.specs.declared.which.Which.TheVariants.{All, Common, Alone}
use Rattle.judy_string_sets.specs.Walks.{Strings, IsTaken, passes, picked, to_come}
use Rattle.judy_string_sets.proofs.PartFacts.{same_strings, get-part, get-without, taken_passed, taken_part}

-- ---- which keys are meant

pub picked-is : (which : Which) (one other : Strings) → picked which one other ≡ retain_keys one (passes which other)
unfolding intersection difference
picked-is All one other = same_strings one (retain_keys one (λ key. true)) (λ key. sym (get-part one (λ key. true) key))
picked-is Common one other = refl
picked-is Alone one other = refl

module _ (which : Which) (other m : Strings) (key : List ℕ) (value : ℕ) (after : Strings) (taken : IsTaken m key value after) where
  -- A key that isn't meant was passed.
  pub picked_passed : passes which other key ≡ false → picked which after other ≡ picked which m other
  picked_passed out = picked-is which after other ∙ taken_passed m key value after taken (passes which other) out ∙ sym (picked-is which m other)

  -- One that is was taken.
  pub picked_taken : passes which other key ≡ true → IsTaken (picked which m other) key value (picked which after other)
  picked_taken meant =
      subst (λ (w : Strings). IsTaken w key value (picked which after other)) (sym (picked-is which m other))
      (subst (λ (w : Strings). IsTaken (retain_keys m (passes which other)) key value w) (sym (picked-is which after other))
      (taken_part m key value after taken (passes which other) meant))

pub either : (b : Bool) (nothing : Option ℕ) → cond b nothing nothing ≡ nothing
either true nothing = refl
either false nothing = refl

picked_empty : (which : Which) (other : Strings) → picked which empty other ≡ empty
picked_empty which other = picked-is which empty other ∙ same_strings _ _ (λ key.
    get-part empty (passes which other) key ∙ ap (λ (o : Option ℕ). cond (passes which other key) o None) (get-empty byte_order key)
    ∙ either (passes which other key) None ∙ sym (get-empty byte_order key))

-- At the end none is left that is meant.
pub picked_end : (which : Which) (m other : Strings) → m ≡ empty → picked which m other ≡ empty
picked_end which m other none = ap (λ (w : Strings). picked which w other) none ∙ picked_empty which other

-- ---- the nearest key

no_part : (b : Bool) (held : Option ℕ) → (is_some held && b) ≡ false → cond b held None ≡ None
no_part true None none = refl
no_part true (Some v) none = absurd (true≢false none)
no_part false held none = refl

above_at : (test up tied : Bool) (held : Option ℕ) → (is_some held ≡ true → tied ≡ false → test ≡ up) → (tied ≡ true → up ≡ false) → cond up held None ≡ cond tied None (cond test held None)
above_at test true true held same out = absurd (true≢false (out refl))
above_at test false true held same out = refl
above_at true true false held same out = refl
above_at false false false held same out = refl
above_at test up false None same out = either up None ∙ sym (either test None)
above_at true false false (Some v) same out = absurd (true≢false (same refl refl))
above_at false true false (Some v) same out = absurd (true≢false (sym (same refl refl)))

ge_gt : (answer : Ordering) → is_ge answer ≡ true → is_eq answer ≡ false → is_gt answer ≡ true
ge_gt Less ge apart = absurd (true≢false (sym ge))
ge_gt Equal ge apart = absurd (true≢false apart)
ge_gt Greater ge apart = refl

not_gt : (answer : Ordering) → is_eq answer ≡ true → is_gt answer ≡ false
not_gt Less tied = absurd (true≢false (sym tied))
not_gt Equal tied = refl
not_gt Greater tied = absurd (true≢false (sym tied))

pub alike : (a b : Bool) → (a ≡ true → b ≡ true) → (b ≡ true → a ≡ true) → a ≡ b
alike true b there back = sym (there refl)
alike false true there back = back refl
alike false false there back = refl

module _ (m : Strings) (side : List ℕ → Bool) where
  left_none : IsLeast byte_order (λ key. contains_key m key && side key) None → retain_keys m side ≡ empty
  left_none none = same_strings _ _ (λ key. get-part m side key ∙ no_part (side key) (get m key) (none key) ∙ sym (get-empty byte_order key))

  least_taken : (least : List ℕ) (value : ℕ) → IsLeast byte_order (λ key. contains_key m key && side key) (Some least) → get m least ≡ Some value
      → ((key : List ℕ) → is_gt (byte_order key least) ≡ true → side key ≡ true)
      → IsTaken (retain_keys m side) least value (retain_keys m (λ key. is_gt (byte_order key least)))
  least_taken least value is held up = record {
    held = get-part m side least ∙ ap (λ b. cond b (get m least) None) (second_true (contains_key m least) (side least) is.0) ∙ held;
    left = same_strings _ _ (λ key.
        get-part m (λ other. is_gt (byte_order other least)) key
        ∙ above_at (side key) (is_gt (byte_order key least)) (eq_by_cmp byte_order key least) (get m key)
        (λ here apart. alike (side key) (is_gt (byte_order key least))
        (λ in_it. ge_gt (byte_order key least) (ge_is_le byte_order_total key least ∙ is.1 key (both_true (contains_key m key) (side key) here in_it)) apart)
        (up key))
        (not_gt (byte_order key least))
        ∙ sym (get-without (retain_keys m side) least key ∙ ap (cond (eq_by_cmp byte_order key least) None) (get-part m side key)));
  }

-- ---- a step of a cursor

-- The keys that a step looks among: from the bytes on, or above them.
abbrev pub on_side : Bool → List ℕ → List ℕ → Bool
on_side false at key = is_ge (byte_order key at)
on_side true at key = is_gt (byte_order key at)

to_come-is : (begun : Bool) (m : Strings) (at : List ℕ) → to_come begun m at ≡ retain_keys m (on_side begun at)
to_come-is false m at = refl
to_come-is true m at = refl

goes_up : (begun : Bool) (at least key : List ℕ) → on_side begun at least ≡ true → is_gt (byte_order key least) ≡ true → on_side begun at key ≡ true
goes_up false at least key here above =
    let less = less_is (byte_order least key) (sym (gt_is_lt byte_order_total key least) ∙ above) in
    ge_is_le byte_order_total key at ∙ ap is_le (le_lt_trans byte_order_total at least key (sym (ge_is_le byte_order_total least at) ∙ here) less)
goes_up true at least key here above =
    let less = less_is (byte_order least key) (sym (gt_is_lt byte_order_total key least) ∙ above) in
    let before = less_is (byte_order at least) (sym (gt_is_lt byte_order_total least at) ∙ here) in
    gt_is_lt byte_order_total key at ∙ ap is_lt (byte_order_total.trans at least key before less)

pub walked : (m : Strings) (at after : List ℕ) (begun : Bool) (found : Option (List ℕ)) (value : Option ℕ) → IsLeast byte_order (λ key. contains_key m key && on_side begun at key) found
    → after ≡ unwrap_or found at → value ≡ value_found m found → MatchOption value (to_come begun m at ≡ empty) (λ v. IsTaken (to_come begun m at) after v (to_come true m after))
walked m at after begun None None is stays held = to_come-is begun m at ∙ left_none m (on_side begun at) is
walked m at after begun None (Some v) is stays held = absurd (none-some v (sym held))
walked m at after begun (Some least) None is stands held = absurd (true≢false (sym (first_true (contains_key m least) (on_side begun at least) is.0) ∙ ap is_some (sym held)))
walked m at after begun (Some least) (Some v) is stands held =
    subst (λ (key : List ℕ). IsTaken (to_come begun m at) key v (to_come true m key)) (sym stands)
    (subst (λ (w : Strings). IsTaken w least v (to_come true m least)) (sym (to_come-is begun m at))
    (least_taken m (on_side begun at) least v is (sym held) (λ key above. goes_up begun at least key (second_true (contains_key m least) (on_side begun at least) is.0) above)))

pub first_least : (m : Strings) (at : List ℕ) → IsLeast byte_order (λ key. contains_key m key && on_side false at key) (first m at)
first_least m at = first-IsFirst byte_order_total byte_order_same m at

pub next_least : (m : Strings) (at : List ℕ) → IsLeast byte_order (λ key. contains_key m key && on_side true at key) (next m at)
next_least m at = next-IsNext byte_order_total byte_order_same m at

-- ---- the begin

from_nothing : (key : List ℕ) → is_ge (byte_order key []) ≡ true
from_nothing [] = refl
from_nothing (byte ∷ key) = refl

-- All keys are from the empty string on.
pub all_to_come : (m : Strings) → to_come false m [] ≡ m
all_to_come m = same_strings _ _ (λ key. get-part m (λ other. is_ge (byte_order other [])) key ∙ ap (λ b. cond b (get m key) None) (from_nothing key))

-- The same of the map that a walk is, before and after.
pub stepped : (now left m : Strings) (at after : List ℕ) (begun : Bool) (value : Option ℕ) → to_come begun m at ≡ now → to_come true m after ≡ left
    → MatchOption value (to_come begun m at ≡ empty) (λ v. IsTaken (to_come begun m at) after v (to_come true m after)) → MatchOption value (now ≡ empty) (λ v. IsTaken now after v left)
stepped now left m at after begun value is goes step =
    subst (λ (w : Strings). MatchOption value (w ≡ empty) (λ v. IsTaken w after v left)) is
    (subst (λ (w : Strings). MatchOption value (to_come begun m at ≡ empty) (λ v. IsTaken (to_come begun m at) after v w)) goes step)
