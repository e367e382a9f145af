-- Keys in a total order: what follows for `is_lt`, `is_le`, `is_gt` and `is_ge`.
use Rattle.std.proofs.Common.{◌≡◌, Bool, true, false, not, sym, refl, ap, ◌∙◌, true≢false, Ordering, Less, Equal, Greater, is_lt, is_le, is_gt, is_ge}
use Rattle.std.specs.Ordering.{is_eq, eq_by_cmp, ordering_reverse}
use Rattle.std.specs.Cmp.{IsTotalOrder, tied_itself, alike_right}
use Rattle.std.specs.FinMap.{IsAntisymmetric}

-- No test is both true and false.
pub not_both : {A : Type 0} (test : Bool) → test ≡ true → test ≡ false → A
not_both test so never = absurd (true≢false (sym so ∙ never))

-- An answer that is less is `Less`.
pub less_is : (answer : Ordering) → is_lt answer ≡ true → answer ≡ Less
less_is Less h = refl
less_is Equal h = absurd (true≢false (sym h))
less_is Greater h = absurd (true≢false (sym h))

-- An answer that is equal is `Equal`.
pub equal_is : (answer : Ordering) → is_eq answer ≡ true → answer ≡ Equal
equal_is Less h = absurd (true≢false (sym h))
equal_is Equal h = refl
equal_is Greater h = absurd (true≢false (sym h))

-- What is not less is greater or equal.
pub ge_is_not_lt : (answer : Ordering) → is_ge answer ≡ not (is_lt answer)
ge_is_not_lt Less = refl
ge_is_not_lt Equal = refl
ge_is_not_lt Greater = refl

-- What is not at most is greater.
pub gt_is_not_le : (answer : Ordering) → is_gt answer ≡ not (is_le answer)
gt_is_not_le Less = refl
gt_is_not_le Equal = refl
gt_is_not_le Greater = refl

ge_turned : (answer : Ordering) → is_ge (ordering_reverse answer) ≡ is_le answer
ge_turned Less = refl
ge_turned Equal = refl
ge_turned Greater = refl

gt_turned : (answer : Ordering) → is_gt (ordering_reverse answer) ≡ is_lt answer
gt_turned Less = refl
gt_turned Equal = refl
gt_turned Greater = refl

le_turned : (answer : Ordering) → is_le (ordering_reverse answer) ≡ not (is_lt answer)
le_turned Less = refl
le_turned Equal = refl
le_turned Greater = refl

lt_turned : (answer : Ordering) → is_lt (ordering_reverse answer) ≡ not (is_le answer)
lt_turned Less = refl
lt_turned Equal = refl
lt_turned Greater = refl

squeezed : (answer turned : Ordering) → answer ≡ ordering_reverse turned → is_le answer ≡ true → is_le turned ≡ true → answer ≡ Equal
squeezed answer Less e p q = absurd (true≢false (sym p ∙ ap is_le e))
squeezed answer Equal e p q = e
squeezed answer Greater e p q = absurd (true≢false (sym q))

module _ {K : Type 0} {order : K → K → Ordering} (total : IsTotalOrder order) where
  -- Each key is at or before itself.
  pub le_itself : (key : K) → is_le (order key key) ≡ true
  le_itself key = ap is_le (tied_itself total key)

  -- One key is at or after another just where the other is at or before it.
  pub ge_is_le : (left right : K) → is_ge (order left right) ≡ is_le (order right left)
  ge_is_le left right = ap is_ge (total.antisymm left right) ∙ ge_turned (order right left)

  -- One key is after another just where the other is before it.
  pub gt_is_lt : (left right : K) → is_gt (order left right) ≡ is_lt (order right left)
  gt_is_lt left right = ap is_gt (total.antisymm left right) ∙ gt_turned (order right left)

  -- One key is at or before another just where the other isn't before it.
  pub le_from_not_lt : (left right : K) → is_le (order left right) ≡ not (is_lt (order right left))
  le_from_not_lt left right = ap is_le (total.antisymm left right) ∙ le_turned (order right left)

  -- One key is before another just where the other isn't at or before it.
  pub lt_from_not_le : (left right : K) → is_lt (order left right) ≡ not (is_le (order right left))
  lt_from_not_le left right = ap is_lt (total.antisymm left right) ∙ lt_turned (order right left)

  lt_le_by : (x y z : K) (answer : Ordering) → order y z ≡ answer → order x y ≡ Less → is_le answer ≡ true → order x z ≡ Less
  lt_le_by x y z Less e p q = total.trans x y z p e
  lt_le_by x y z Equal e p q = sym (alike_right total y z x e) ∙ p
  lt_le_by x y z Greater e p q = absurd (true≢false (sym q))

  -- Before, and then at or before.
  pub lt_le_trans : (x y z : K) → order x y ≡ Less → is_le (order y z) ≡ true → order x z ≡ Less
  lt_le_trans x y z p q = lt_le_by x y z (order y z) refl p q

  le_lt_by : (x y z : K) (answer : Ordering) → order x y ≡ answer → is_le answer ≡ true → order y z ≡ Less → order x z ≡ Less
  le_lt_by x y z Less e p q = total.trans x y z e q
  le_lt_by x y z Equal e p q = total.congr x y z e ∙ q
  le_lt_by x y z Greater e p q = absurd (true≢false (sym p))

  -- At or before, and then before.
  pub le_lt_trans : (x y z : K) → is_le (order x y) ≡ true → order y z ≡ Less → order x z ≡ Less
  le_lt_trans x y z p q = le_lt_by x y z (order x y) refl p q

  -- Two keys at or before each other are one.
  pub one_from_le : IsAntisymmetric order → (x y : K) → is_le (order x y) ≡ true → is_le (order y x) ≡ true → x ≡ y
  one_from_le same x y p q = same x y (squeezed (order x y) (order y x) (total.antisymm x y) p q)

-- In an order where only equal keys tie, keys that tie are equal.
pub same_from_tie : {K : Type 0} {order : K → K → Ordering} → IsAntisymmetric order → (x y : K) → eq_by_cmp order x y ≡ true → x ≡ y
same_from_tie {order = order} same x y e = same x y (equal_is (order x y) e)

-- The order turned round tells apart what the order does.
pub turned-IsAntisymmetric : {K : Type 0} {order : K → K → Ordering} → IsAntisymmetric order → IsAntisymmetric (λ left right. order right left)
turned-IsAntisymmetric same x y e = sym (same y x e)
