-- Keys that fit a buffer, and a search's answer in one.
use Rattle.std.proofs.Common.{◌≡◌, ℕ, ◌≤◌, Bool, true, false, cond, List, length, take, drop, Option, Some, None, IfSome, MatchOption, unwrap_or, is_some, refl, sym, ap, ◌∙◌, subst, arith, true≢false}
use Rattle.std.proofs.lemmas.Option.{none-some}
use Rattle.std.proofs.lemmas.Bool.{and_parts}
use Rattle.std.proofs.lemmas.List.{length-append}
use Rattle.std.specs.FinMap.{get, remove, contains_key}
use Rattle.std.specs.Ordering.{eq_by_cmp}
use Rattle.judy_model.specs.Keys.{byte_order}
use Rattle.judy_model.specs.Nearest.{IsFirst, IsLast}
use Rattle.judy_model.specs.Neighbours.{first, last}
use Rattle.judy_model.proofs.lemmas.maps.TableLemmas.{byte_order_total, byte_order_same}
use Rattle.judy_model.proofs.lemmas.queries.NearestLemmas.{first-IsFirst, last-IsLast}
use Rattle.judy_sl.specs.Arenas.{AreWithin}
use Rattle.judy_sl.specs.Scans.{neighbour_along, nearest_key, value_found, IsFront}
use Rattle.judy_sl.specs.declared.scans.Look.{Look}
use Rattle.judy_sl.proofs.lemmas.scans.Fronts.{front-key}
use Rattle.judy_string_sets.specs.Walks.{Strings, IsTaken, passes, picked}
use Rattle.judy_string_sets.specs.declared.which.Which.{Which}
use Rattle.judy_string_sets.proofs.PartFacts.{get-part, get-without}
use Rattle.judy_string_sets.proofs.WalkFacts.{picked-is}

-- ---- what is answered

pub is_none : {X A : Type 0} (B : X → Type 0) (found : Option X) → found ≡ None → A → MatchOption found A B
is_none B None is none = none
is_none B (Some value) is none = absurd (none-some value (sym is))

-- ---- a neighbour is a key of the map

pub first_held : (m : Strings) (from key : List ℕ) → first m from ≡ Some key → contains_key m key ≡ true
first_held m from key is = (and_parts _ _ (subst (IsFirst byte_order (contains_key m) from) is (first-IsFirst byte_order_total byte_order_same m from)).0).0

pub last_held : (m : Strings) (from key : List ℕ) → last m from ≡ Some key → contains_key m key ≡ true
last_held m from key is = (and_parts _ _ (subst (IsLast byte_order (contains_key m) from) is (last-IsLast byte_order_total byte_order_same m from)).0).0

-- ---- what a search in a buffer leaves there

module _ (m : Strings) where
  told : (near : Option (List ℕ)) → ((key : List ℕ) → near ≡ Some key → contains_key m key ≡ true) → (before after : List ℕ) → after ≡ unwrap_or near before →
      (answer : Option ℕ) → answer ≡ value_found m near → MatchOption answer (near ≡ None) (λ value. (near ≡ Some after) × (get m after ≡ Some value))
  told None held before after stays None is = refl
  told None held before after stays (Some value) is = absurd (none-some value (sym is))
  told (Some key) held before after stands None is = absurd (true≢false (sym (held key refl) ∙ ap is_some (sym is)))
  told (Some key) held before after stands (Some value) is = (ap Some (sym stands), ap (get m) stands ∙ sym is)

  module _ (look : Look) (near : List ℕ → Option (List ℕ)) (asks : neighbour_along look.side look.itself m ≡ near)
      (held : (from key : List ℕ) → near from ≡ Some key → contains_key m key ≡ true)
      (buffer after front : List ℕ) (len long : ℕ) (begins : take len buffer ≡ front) (is : IsFront (nearest_key look m (take len buffer)) buffer long after) where
    pub told_in : (answer : Option ℕ) → answer ≡ value_found m (neighbour_along look.side look.itself m (take len buffer)) →
        MatchOption answer (near front ≡ None) (λ value. (near front ≡ Some (take long after)) × (get m (take long after) ≡ Some value))
    told_in answer value =
        subst (λ (from : List ℕ). MatchOption answer (near from ≡ None) (λ value. (near from ≡ Some (take long after)) × (get m (take long after) ≡ Some value))) begins
        (told (near (take len buffer)) (held (take len buffer)) (take len buffer) (take long after)
        (front-key _ buffer after long is ∙ ap (λ (f : List ℕ → Option (List ℕ)). unwrap_or (f (take len buffer)) (take len buffer)) asks)
        answer
        (value ∙ ap (λ (f : List ℕ → Option (List ℕ)). value_found m (f (take len buffer))) asks))

    pub long_in : long ≡ length (take long after)
    long_in = is.0 ∙ ap length (sym (front-key _ buffer after long is))

    pub inside_in : long ≤ length after
    inside_in =
        let key = nearest_key look m (take len buffer) in
        let all = ap length is.1 ∙ length-append key (drop (length key) buffer) in
        let same = is.0 in
        omega (arith, all, same)

-- ---- no key is longer than a buffer

module _ (room : ℕ) (m : Strings) (within : AreWithin room m) where
  some_value : (found : Option ℕ) → is_some found ≡ true → (value : ℕ) × (found ≡ Some value)
  some_value None some = absurd (true≢false (sym some))
  some_value (Some value) some = (value, refl)

  -- A key of the map isn't.
  held_within : (key : List ℕ) → contains_key m key ≡ true → length key ≤ room
  held_within key held = let some = some_value (get m key) held in within key some.0 some.1

  picked_at : (p : Bool) (held : Option ℕ) (value : ℕ) → cond p held None ≡ Some value → held ≡ Some value
  picked_at true held value is = is
  picked_at false held value is = absurd (none-some value is)

  fits : (found : Option (List ℕ)) → ((key : List ℕ) → found ≡ Some key → contains_key m key ≡ true) → (long : ℕ) → room ≤ long → IfSome found (λ key. length key ≤ long)
  fits None held long more = tt
  fits (Some key) held long more = let few = held_within key (held key refl) in omega (arith, few, more)

  -- Nor is a neighbour,
  pub near_fits : (look : Look) (near : List ℕ → Option (List ℕ)) → neighbour_along look.side look.itself m ≡ near →
      ((from key : List ℕ) → near from ≡ Some key → contains_key m key ≡ true) → (from : List ℕ) (long : ℕ) → room ≤ long →
      IfSome (neighbour_along look.side look.itself m from) (λ key. length key ≤ long)
  near_fits look near asks held from long more =
      subst (λ (f : List ℕ → Option (List ℕ)). IfSome (f from) (λ key. length key ≤ long)) (sym asks) (fits (near from) (held from) long more)

  -- one of those that are meant,
  pub picked_within : (which : Which) (other : Strings) → AreWithin room (picked which m other)
  picked_within which other key value held =
      within key value (picked_at (passes which other key) (get m key) value
      (sym (get-part m (passes which other) key) ∙ ap (λ (w : Strings). get w key) (sym (picked-is which m other)) ∙ held))

  left_at : (tied : Bool) (held : Option ℕ) (value : ℕ) → cond tied None held ≡ Some value → held ≡ Some value
  left_at true held value is = absurd (none-some value is)
  left_at false held value is = is

  -- one that is left,
  pub left_within : (key : List ℕ) → AreWithin room (remove m key)
  left_within key other value held = within other value (left_at (eq_by_cmp byte_order other key) (get m other) value (sym (get-without m key other) ∙ held))

  pub taken_within : (key : List ℕ) (value : ℕ) (after : Strings) → IsTaken m key value after → AreWithin room after
  taken_within key value after taken other found held = left_within key other found (ap (λ (w : Strings). get w other) (sym taken.left) ∙ held)
