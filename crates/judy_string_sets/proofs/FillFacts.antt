-- An array that gets the keys of a map one by one.
use Rattle.std.proofs.Common.{◌≡◌, ℕ, ◌<◌, ◌≤◌, ◌↔◌, IsTrue, Bool, true, false, cond, List, Option, Some, None, refl, sym, ap, ◌∙◌, true≢false}
use Rattle.std.proofs.Math.Dec.{leb}
use Rattle.std.proofs.lemmas.Bool.{leb-true, leb-false}
use Rattle.std.specs.Option.{option_or}
use Rattle.std.specs.Ordering.{eq_by_cmp}
use Rattle.std.specs.FinMap.{empty, get, insert, get-insert}
use Rattle.judy_model.specs.Keys.{byte_order}
use Rattle.judy_model.specs.TwoMaps.{union, difference}
use Rattle.judy_model.proofs.lemmas.maps.TableLemmas.{byte_order_total, byte_order_same}
use Rattle.judy_model.proofs.lemmas.maps.TwoMapsLemmas.{get-union}
use Rattle.judy_model.proofs.lemmas.orders.Orders.{same_from_tie}
use Rattle.judy_laws.proofs.lemmas.Joins.{union_with_empty}
use Rattle.judy_string_sets.specs.Walks.{Strings, IsTaken, rest_of}
use Rattle.judy_string_sets.proofs.PartFacts.{same_strings, get-without}

put_at : (tied : Bool) (value : ℕ) (held there : Option ℕ) → (tied ≡ true → held ≡ Some value) → option_or (cond tied None held) (cond tied (Some value) there) ≡ option_or held there
put_at true value held there is = ap (λ (o : Option ℕ). option_or o there) (sym (is refl))
put_at false value held there is = refl

-- To put one in, and then those that are left, is to put all in.
pub put_one : (m : Strings) (key : List ℕ) (value : ℕ) (after made : Strings) → IsTaken m key value after → union after (insert made key value) ≡ union m made
put_one m key value after made taken = same_strings _ _ (λ at.
    get-union byte_order_total after (insert made key value) at
    ∙ (λ t. option_or ((ap (λ (w : Strings). get w at) taken.left ∙ get-without m key at) t) (get-insert byte_order_total made key value at t))
    ∙ put_at (eq_by_cmp byte_order at key) value (get m at) (get made at) (λ tied. ap (get m) (same_from_tie byte_order_same at key tied) ∙ taken.held)
    ∙ sym (get-union byte_order_total m made at))

-- Where none is left, all are in.
pub put_none : (m made : Strings) → m ≡ empty → union m made ≡ made
put_none m made none = ap (λ (w : Strings). union w made) none ∙ (union_with_empty byte_order_total byte_order_same made).1

-- ---- where the rest isn't wanted

pub no_rest : (rest : Bool) (one other made : Strings) → rest ≡ false → union (rest_of rest one other) made ≡ made
no_rest rest one other made off = put_none (rest_of rest one other) made (ap (λ b. cond b (difference other one) empty) off)

pub rest_is : (rest : Bool) (one other : Strings) → rest ≡ true → difference other one ≡ rest_of rest one other
rest_is rest one other on = sym (ap (λ b. cond b (difference other one) empty) on)

pub with_nothing : (m : Strings) → union m empty ≡ m
with_nothing m = (union_with_empty byte_order_total byte_order_same m).0

pub not_more : (answer : Bool) (limit long : ℕ) → IsTrue answer ↔ (limit < long) → answer ≡ false → long ≤ limit
not_more answer limit long tells off =
    elim (leb long limit) as (λ b. leb long limit ≡ b → long ≤ limit) [
      | true ↦ λ e. leb-true long limit e
      | false ↦ λ e. absurd (true≢false (sym (tells.1 (leb-false long limit e)) ∙ off))
    ] refl
