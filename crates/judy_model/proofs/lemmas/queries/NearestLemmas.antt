-- The nearest key: there is at most one, and what `first`, `next`, `last` and `prev` answer is it.
use Rattle.std.proofs.Common.{◌≡◌, ℕ, Bool, true, false, not, ◌&&◌, List, IsTrue, IsFalse, Option, Some, None, sym, refl, ap, ◌∙◌, Ordering, is_lt, is_le, is_gt, is_ge}
use Rattle.std.specs.Cmp.{IsTotalOrder, back_total}
use Rattle.std.specs.FinMap.{FinMap, IsAntisymmetric, keys, contains_key}
use Rattle.std.proofs.lemmas.Bool.{and_parts, and_from, false_from_ne_true}
use Rattle.judy_model.specs.Neighbours.{first, next, last, prev}
use Rattle.judy_model.specs.Nearest.{IsLeast, IsGreatest, IsFirst, IsNext, IsLast, IsPrev}
use Rattle.judy_model.proofs.lemmas.orders.Orders.{not_both, one_from_le, turned-IsAntisymmetric, ge_is_le, gt_is_lt, le_from_not_lt, lt_from_not_le}
use Rattle.judy_model.proofs.lemmas.maps.Ascending.{Among, LeastAmong, GreatestAmong, find_least, find_greatest}
use Rattle.judy_model.proofs.lemmas.maps.KeysLemmas.{keys_ascending, among_keys, contains_key-from_among}

-- The least of the keys that pass is one.
pub least_is_one : {K : Type 0} {order : K → K → Ordering} → IsTotalOrder order → IsAntisymmetric order → (passes : K → Bool) (a b : Option K) → IsLeast order passes a → IsLeast order passes b → a ≡ b
least_is_one total same passes None None none also = refl
least_is_one total same passes None (Some key) none some = not_both (passes key) some.0 (none key)
least_is_one total same passes (Some key) None some none = not_both (passes key) some.0 (none key)
least_is_one total same passes (Some key) (Some other) one another = ap Some (one_from_le total same key other (one.1 other another.0) (another.1 key one.0))

-- So is the greatest.
pub greatest_is_one : {K : Type 0} {order : K → K → Ordering} → IsTotalOrder order → IsAntisymmetric order → (passes : K → Bool) (a b : Option K) →
    IsGreatest order passes a → IsGreatest order passes b → a ≡ b
greatest_is_one total same = least_is_one (back_total total) (turned-IsAntisymmetric same)

module _ {K : Type 0} (order : K → K → Ordering) (member p : K → Bool) (xs : List K) (sound : (key : K) → Among xs key → member key ≡ true)
    (complete : (key : K) → member key ≡ true → Among xs key) where
  -- The least member of a list that passes a test is the least of the keys that are members and pass.
  pub IsLeast-from_among : (answer : Option K) → LeastAmong order p xs answer → IsLeast order (λ key. member key && p key) answer
  IsLeast-from_among None none = λ key. by_member key (member key) refl (none key)
    where
      by_member : (key : K) (test : Bool) → member key ≡ test → (Among xs key → p key ≡ false) → (test && p key) ≡ false
      by_member key true held fails = fails (complete key held)
      by_member key false held fails = refl
  IsLeast-from_among (Some least) some =
      (and_from (member least) (p least) (sound least some.0) some.1, λ key both. let parts = and_parts (member key) (p key) both in some.2 key (complete key parts.0) parts.1)

module _ {K : Type 0} {order : K → K → Ordering} (total : IsTotalOrder order) (same : IsAntisymmetric order) (map : FinMap order ℕ) (from : K) where
  least_key : (p : K → Bool) (answer : Option K) → LeastAmong order p (keys map) answer → IsLeast order (λ key. contains_key map key && p key) answer
  least_key p answer h = IsLeast-from_among order (contains_key map) p (keys map) (contains_key-from_among total same map) (among_keys total same map) answer h

  greatest_key : (p : K → Bool) (answer : Option K) → GreatestAmong order p (keys map) answer → IsGreatest order (λ key. contains_key map key && p key) answer
  greatest_key p answer h = IsLeast-from_among (λ left right. order right left) (contains_key map) p (keys map) (contains_key-from_among total same map) (among_keys total same map) answer h

  -- `first` answers the least key at or above the given one.
  pub first-IsFirst : IsFirst order (contains_key map) from (first map from)
  unfolding first
  first-IsFirst = least_key (λ key. is_ge (order key from)) _ (find_least total (λ key. is_ge (order key from)) (keys map) (keys_ascending map))

  -- `next` answers the least key above the given one.
  pub next-IsNext : IsNext order (contains_key map) from (next map from)
  unfolding next
  next-IsNext = least_key (λ key. is_gt (order key from)) _ (find_least total (λ key. is_gt (order key from)) (keys map) (keys_ascending map))

  -- `last` answers the greatest key at or below the given one.
  pub last-IsLast : IsLast order (contains_key map) from (last map from)
  unfolding last
  last-IsLast = greatest_key (λ key. is_le (order key from)) _ (find_greatest total (λ key. is_le (order key from)) (keys map) (keys_ascending map))

  -- `prev` answers the greatest key below the given one.
  pub prev-IsPrev : IsPrev order (contains_key map) from (prev map from)
  unfolding prev
  prev-IsPrev = greatest_key (λ key. is_lt (order key from)) _ (find_greatest total (λ key. is_lt (order key from)) (keys map) (keys_ascending map))

  -- What is the least key at or above the given one is what `first` answers.
  pub first_is : (answer : Option K) → IsFirst order (contains_key map) from answer → first map from ≡ answer
  first_is answer h = least_is_one total same _ (first map from) answer first-IsFirst h

  -- What is the least key above the given one is what `next` answers.
  pub next_is : (answer : Option K) → IsNext order (contains_key map) from answer → next map from ≡ answer
  next_is answer h = least_is_one total same _ (next map from) answer next-IsNext h

  -- What is the greatest key at or below the given one is what `last` answers.
  pub last_is : (answer : Option K) → IsLast order (contains_key map) from answer → last map from ≡ answer
  last_is answer h = greatest_is_one total same _ (last map from) answer last-IsLast h

  -- What is the greatest key below the given one is what `prev` answers.
  pub prev_is : (answer : Option K) → IsPrev order (contains_key map) from answer → prev map from ≡ answer
  prev_is answer h = greatest_is_one total same _ (prev map from) answer prev-IsPrev h

-- ---- the answers, by what they are among the keys

module _ {K : Type 0} (order : K → K → Ordering) (member side : K → Bool) where
  least_found : (key : K) → IsTrue (member key) → IsTrue (side key) → ((other : K) → IsTrue (member other) → IsTrue (side other) → IsTrue (is_le (order key other))) →
      IsLeast order (λ other. member other && side other) (Some key)
  least_found key held here each =
      (and_from (member key) (side key) held here, λ other both. let parts = and_parts (member other) (side other) both in each other parts.0 parts.1)

  none_found : ((other : K) → IsTrue (member other) → IsTrue (side other) → ⊥) → (other : K) → IsFalse (member other && side other)
  none_found each other = false_from_ne_true (member other && side other) (λ both. let parts = and_parts (member other) (side other) both in each other parts.0 parts.1)

module _ {K : Type 0} {order : K → K → Ordering} (total : IsTotalOrder order) (same : IsAntisymmetric order) (map : FinMap order ℕ) (from : K) where
  -- A key at or above the given one, below which no other such key is, is what `first` answers.
  pub first_found : (key : K) → IsTrue (contains_key map key) → IsTrue (is_le (order from key)) → ((other : K) → IsTrue (contains_key map other) →
      IsTrue (is_le (order from other)) → IsTrue (is_le (order key other))) → first map from ≡ Some key
  first_found key held here each =
      first_is total same map from (Some key) (least_found order (contains_key map) (λ other. is_ge (order other from)) key held (ge_is_le total key from ∙ here)
      (λ other there side. each other there (sym (ge_is_le total other from) ∙ side)))

  -- Where each key is below the given one, `first` answers none.
  pub first_missing : ((other : K) → IsTrue (contains_key map other) → IsTrue (is_lt (order other from))) → first map from ≡ None
  first_missing each =
      first_is total same map from None (none_found order (contains_key map) (λ other. is_ge (order other from))
      (λ other there side. not_both (is_le (order from other)) (sym (ge_is_le total other from) ∙ side) (le_from_not_lt total from other ∙ ap not (each other there))))

  -- A key above the given one, below which no other such key is, is what `next` answers.
  pub next_found : (key : K) → IsTrue (contains_key map key) → IsTrue (is_lt (order from key)) → ((other : K) → IsTrue (contains_key map other) →
      IsTrue (is_lt (order from other)) → IsTrue (is_le (order key other))) → next map from ≡ Some key
  next_found key held here each =
      next_is total same map from (Some key) (least_found order (contains_key map) (λ other. is_gt (order other from)) key held (gt_is_lt total key from ∙ here)
      (λ other there side. each other there (sym (gt_is_lt total other from) ∙ side)))

  -- Where each key is at or below the given one, `next` answers none.
  pub next_missing : ((other : K) → IsTrue (contains_key map other) → IsTrue (is_le (order other from))) → next map from ≡ None
  next_missing each =
      next_is total same map from None (none_found order (contains_key map) (λ other. is_gt (order other from))
      (λ other there side. not_both (is_lt (order from other)) (sym (gt_is_lt total other from) ∙ side) (lt_from_not_le total from other ∙ ap not (each other there))))

  -- A key at or below the given one, above which no other such key is, is what `last` answers.
  pub last_found : (key : K) → IsTrue (contains_key map key) → IsTrue (is_le (order key from)) → ((other : K) → IsTrue (contains_key map other) →
      IsTrue (is_le (order other from)) → IsTrue (is_le (order other key))) → last map from ≡ Some key
  last_found key held here each =
      last_is total same map from (Some key) (least_found (λ left right. order right left) (contains_key map) (λ other. is_le (order other from)) key held here each)

  -- Where each key is above the given one, `last` answers none.
  pub last_missing : ((other : K) → IsTrue (contains_key map other) → IsTrue (is_lt (order from other))) → last map from ≡ None
  last_missing each =
      last_is total same map from None (none_found order (contains_key map) (λ other. is_le (order other from))
      (λ other there side. not_both (is_le (order other from)) side (le_from_not_lt total other from ∙ ap not (each other there))))

  -- A key below the given one, above which no other such key is, is what `prev` answers.
  pub prev_found : (key : K) → IsTrue (contains_key map key) → IsTrue (is_lt (order key from)) → ((other : K) → IsTrue (contains_key map other) →
      IsTrue (is_lt (order other from)) → IsTrue (is_le (order other key))) → prev map from ≡ Some key
  prev_found key held here each =
      prev_is total same map from (Some key) (least_found (λ left right. order right left) (contains_key map) (λ other. is_lt (order other from)) key held here each)

  -- Where each key is at or above the given one, `prev` answers none.
  pub prev_missing : ((other : K) → IsTrue (contains_key map other) → IsTrue (is_le (order from other))) → prev map from ≡ None
  prev_missing each =
      prev_is total same map from None (none_found order (contains_key map) (λ other. is_lt (order other from))
      (λ other there side. not_both (is_lt (order other from)) side (lt_from_not_le total other from ∙ ap not (each other there))))
