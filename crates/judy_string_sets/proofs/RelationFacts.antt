-- Whether one set of keys is part of another, by what is left of it.
use Rattle.std.proofs.Common.{◌≡◌, ℕ, ◌≤◌, Bool, true, false, List, Option, Some, None, is_some, IsTrue, ◌↔◌, refl, sym, ap, ◌∙◌, arith, true≢false}
use Rattle.std.proofs.Common.{MatchOption, not}
use Rattle.std.proofs.lemmas.Option.{none-some}
use Rattle.std.specs.FinMap.{empty, get, get-empty, len, empty_of_len}
use Rattle.judy_model.specs.Keys.{byte_order}
use Rattle.judy_model.specs.TwoMaps.{intersection, difference, IsSubset, IsDisjoint, HaveSameKeys}
use Rattle.judy_model.proofs.lemmas.maps.TableLemmas.{byte_order_total, byte_order_same}
use Rattle.judy_laws.proofs.lemmas.Joins.{difference_counts, same_keys_count, subset_has_all, disjoint_has_none}
use Rattle.judy_string_sets.specs.Walks.{Strings, IsTaken}
use Rattle.judy_string_sets.proofs.PartFacts.{none_len}
use Rattle.judy_string_sets.proofs.CountFacts.{len-turned, common_rest}

-- A walk finds one that is left, or none is.
pub none_found : (found : Option ℕ) (answer : Bool) (m : Strings) (key : List ℕ) (after : Strings) → MatchOption found (m ≡ empty) (λ value. IsTaken m key value after)
    → is_some found ≡ not answer → IsTrue answer ↔ (m ≡ empty)
none_found None true m key after none is = (λ _. none, λ _. refl)
none_found None false m key after none is = absurd (true≢false (sym is))
none_found (Some value) true m key after taken is = absurd (true≢false is)
none_found (Some value) false m key after taken is = (
  λ never. absurd (true≢false (sym never)),
  λ none. absurd (none-some value (sym (get-empty byte_order key) ∙ sym (ap (λ (w : Strings). get w key) none) ∙ taken.held)),
)

module _ (one other : Strings) where
  pub subset_is : (difference one other ≡ empty) ↔ IsSubset one other
  subset_is = (
    λ none. (subset_has_all byte_order_total byte_order_same one other).1
        (let parts = difference_counts byte_order_total byte_order_same one other in let long = none_len (difference one other) none in omega (arith, parts, long)),
    λ subset. empty_of_len (difference one other)
        (let parts = difference_counts byte_order_total byte_order_same one other in
        let all = (subset_has_all byte_order_total byte_order_same one other).0 subset in omega (arith, parts, all)),
  )

  pub subset_few : IsSubset one other → len one ≤ len other
  subset_few subset =
      let all = (subset_has_all byte_order_total byte_order_same one other).0 subset in
      let few = common_rest one other in
      omega (arith, all, few)

  pub disjoint_is : (intersection one other ≡ empty) ↔ IsDisjoint one other
  disjoint_is = let law = disjoint_has_none byte_order_total byte_order_same one other in (law.1, law.0)

  pub disjoint_turned : (intersection other one ≡ empty) ↔ IsDisjoint one other
  disjoint_turned = (
    λ none. disjoint_is.0 (empty_of_len (intersection one other) (len-turned one other ∙ none_len (intersection other one) none)),
    λ apart. empty_of_len (intersection other one) (sym (len-turned one other) ∙ none_len (intersection one other) (disjoint_is.1 apart)),
  )

  pub same_long : HaveSameKeys one other → len one ≡ len other
  same_long same = same_keys_count byte_order_total byte_order_same one other same

  -- As many keys, all of which the other has.
  pub same_is : len one ≡ len other → (difference one other ≡ empty) ↔ HaveSameKeys one other
  same_is long = (
    λ none.
        let subset = subset_is.0 none in
        let all = (subset_has_all byte_order_total byte_order_same one other).0 subset in
        let same = len-turned one other in
        let back = (subset_has_all byte_order_total byte_order_same other one).1 (omega (arith, long, all, same)) in
        λ key. (subset key, back key),
    λ same. subset_is.1 (λ key held. (same key).0 held),
  )
