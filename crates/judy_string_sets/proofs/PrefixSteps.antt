-- The longest key that bytes begin with, by the greatest key up to a front of them.
use Rattle.std.proofs.Common.{◌≡◌, ℕ, zero, suc, ◌<◌, ◌≤◌, Bool, true, false, cond, ◌==◌, ◌&&◌, List, [], ◌∷◌, length, take, IsTrue, Option}
use Rattle.std.proofs.Common.{Some, None, refl, sym, ap, ◌∙◌, subst, arith, true≢false, ⊎_elim}
use Rattle.std.proofs.Common.{Equal, Greater, is_le}
use Rattle.std.specs.Ordering.{nat_cmp, ordering_then}
use Rattle.std.specs.Cmp.{nat_cmp_total, nat_cmp_is, tied_itself}
use Rattle.std.specs.Cmp.Lexicographic.{slice_cmp}
use Rattle.std.specs.FinMap.{FinMap, contains_key, nat_cmp-IsAntisymmetric, slice_cmp-IsAntisymmetric}
use Rattle.std.specs.Cmp.Lexicographic.{nat_list_cmp_total}
use Rattle.std.proofs.lemmas.Option.{none-some}
use Rattle.judy_model.proofs.lemmas.queries.NearestLemmas.{last-IsLast}
use Rattle.std.proofs.lemmas.Bool.{eq-eqb, eqb-true, cases_order, cases_lt}
use Rattle.judy_model.specs.Keys.{byte_order}
use Rattle.judy_model.specs.Nearest.{IsLast}
use Rattle.judy_model.specs.Neighbours.{last}
use Rattle.judy_model.specs.Prefixes.{begins_with, longest_prefix}
use Rattle.judy_model.specs.DumpText.{shared_length}
use Rattle.judy_model.proofs.lemmas.maps.Tests.{both_true, first_true, second_true}
use Rattle.judy_laws.proofs.lemmas.PrefixLemmas.{longer, none_begins, longest_begins}

-- ---- of a front

-- What two bytes answer that are one.
tied : (a b : ℕ) → a ≡ b → nat_cmp a b ≡ Equal
tied a b same = (λ t. nat_cmp (same t) b) ∙ tied_itself nat_cmp_total b

-- It isn't above what it begins.
front_below : (front bytes : List ℕ) → begins_with front bytes ≡ true → is_le (byte_order front bytes) ≡ true
unfolding begins_with
front_below [] [] begins = refl
front_below [] (b ∷ bytes) begins = refl
front_below (a ∷ front) [] begins = absurd (true≢false (sym begins))
front_below (a ∷ front) (b ∷ bytes) begins =
    let same = eqb-true a b (first_true (a == b) (begins_with front bytes) begins) in
    ap (λ answer. is_le (ordering_then answer (slice_cmp nat_cmp front bytes))) (tied a b same)
    ∙ front_below front bytes (second_true (a == b) (begins_with front bytes) begins)

-- It begins a longer front too.
begins_take : (other bytes : List ℕ) (end : ℕ) → begins_with other bytes ≡ true → length other ≤ end → begins_with other (take end bytes) ≡ true
unfolding begins_with
begins_take [] bytes end begins short = refl
begins_take (a ∷ other) [] end begins short = absurd (true≢false (sym begins))
begins_take (a ∷ other) (b ∷ bytes) zero begins short = let never : ⊥ = omega (arith, short) in absurd never
begins_take (a ∷ other) (b ∷ bytes) (suc end) begins short =
    both_true (a == b) (begins_with other (take end bytes)) (first_true (a == b) (begins_with other bytes) begins)
    (begins_take other bytes end (second_true (a == b) (begins_with other bytes) begins) (omega (arith, short)))

-- Where all of a string is shared, it begins the other.
all_shared : (key bytes : List ℕ) → shared_length key bytes ≡ length key → begins_with key bytes ≡ true
unfolding begins_with
all_shared [] bytes all = refl
all_shared (k ∷ key) [] all = let never : ⊥ = omega (arith, all) in absurd never
all_shared (k ∷ key) (b ∷ bytes) all = by (k == b) refl (all_shared key bytes) all
  where
    by : (test : Bool) → (k == b) ≡ test → (shared_length key bytes ≡ length key → begins_with key bytes ≡ true) → cond test (suc (shared_length key bytes)) 0 ≡ suc (length key) →
        ((k == b) && begins_with key bytes) ≡ true
    by true same rest all = both_true (k == b) (begins_with key bytes) same (rest (omega (arith, all)))
    by false apart rest all = let never : ⊥ = omega (arith, all) in absurd never

-- ---- of the greatest key up to a front

-- A key that shares as many bytes as the front has is no longer than that.
within : (key bytes : List ℕ) (end : ℕ) → is_le (byte_order key (take end bytes)) ≡ true → shared_length key bytes < length key → shared_length key bytes < end
within [] bytes end less part = let never : ⊥ = omega (arith, part) in absurd never
within (k ∷ key) bytes zero less part = absurd (true≢false (sym less))
within (k ∷ key) [] (suc end) less part = absurd (true≢false (sym less))
within (k ∷ key) (b ∷ bytes) (suc end) less part =
    by (k == b) refl
    (λ same. within key bytes end (sym (ap (λ answer. is_le (ordering_then answer (slice_cmp nat_cmp key (take end bytes)))) (tied k b (eqb-true k b same))) ∙ less)) part
  where
    by : (test : Bool) → (k == b) ≡ test → ((k == b) ≡ true → shared_length key bytes < length key → shared_length key bytes < end) →
        cond test (suc (shared_length key bytes)) 0 < suc (length key) → cond test (suc (shared_length key bytes)) 0 < suc end
    by false apart rest part = omega arith
    by true same rest part = let more = rest same (omega (arith, part)) in omega (arith, more)

-- What a number answers that is more than another.
above : (a b : ℕ) → b < a → nat_cmp a b ≡ Greater
above a b more = sym (nat_cmp_is a b Greater more)

-- Where it shares a part of itself alone, a longer front of the bytes that isn't above that one is above it.
passed : (key other bytes : List ℕ) (end : ℕ) → is_le (byte_order key (take end bytes)) ≡ true → begins_with other bytes ≡ true → length other ≤ end →
    shared_length key bytes < length key → shared_length key bytes < length other → is_le (byte_order other key) ≡ false
unfolding begins_with
passed [] other bytes end less begins short part longer = let never : ⊥ = omega (arith, part) in absurd never
passed (k ∷ key) [] bytes end less begins short part longer = let never : ⊥ = omega (arith, longer) in absurd never
passed (k ∷ key) (o ∷ other) [] end less begins short part longer = absurd (true≢false (sym begins))
passed (k ∷ key) (o ∷ other) (b ∷ bytes) zero less begins short part longer = let never : ⊥ = omega (arith, short) in absurd never
passed (k ∷ key) (o ∷ other) (b ∷ bytes) (suc end) less begins short part longer =
    let same = eqb-true o b (first_true (o == b) (begins_with other bytes) begins) in
    let begun = second_true (o == b) (begins_with other bytes) begins in
    ⊎_elim
    (λ equal.
    let test = eq-eqb k b equal in
    let rest = passed key other bytes end (sym (ap (λ answer. is_le (ordering_then answer (slice_cmp nat_cmp key (take end bytes)))) (tied k b equal)) ∙ less) begun (omega (arith, short))
    (let on = subst (λ t. cond t (suc (shared_length key bytes)) 0 < suc (length key)) test part in omega (arith, on))
    (let on = subst (λ t. cond t (suc (shared_length key bytes)) 0 < suc (length other)) test longer in omega (arith, on)) in
    ap (λ answer. is_le (ordering_then answer (slice_cmp nat_cmp other key))) (tied o k (same ∙ sym equal)) ∙ rest)
    (λ apart. ⊎_elim
    (λ lower. ap (λ answer. is_le (ordering_then answer (slice_cmp nat_cmp other key))) (above o k (subst (λ n. k < n) (sym same) lower)))
    (λ higher. absurd (true≢false (sym less ∙ ap (λ answer. is_le (ordering_then answer (slice_cmp nat_cmp key (take end bytes)))) (above k b higher))))
    apart)
    (cases_order k b)

module _ (map : FinMap byte_order ℕ) (bytes : List ℕ) (end : ℕ) where
  -- No key that the bytes begin with is longer than the front.
  abbrev pub AreShort : Type 0
  AreShort = (other : List ℕ) → IsTrue (contains_key map other) → IsTrue (begins_with other bytes) → length other ≤ end

  -- Such a key isn't above the front.
  not_above : (other : List ℕ) → IsTrue (begins_with other bytes) → length other ≤ end → is_le (byte_order other (take end bytes)) ≡ true
  not_above other begins short = front_below other (take end bytes) (begins_take other bytes end begins short)

  nearest : IsLast byte_order (contains_key map) (take end bytes) (last map (take end bytes))
  nearest = last-IsLast nat_list_cmp_total (slice_cmp-IsAntisymmetric nat_cmp-IsAntisymmetric) map (take end bytes)

  by_none : (found : Option (List ℕ)) → IsLast byte_order (contains_key map) (take end bytes) found → found ≡ None → AreShort → longest_prefix map bytes ≡ None
  by_none (Some key) is none short = absurd (none-some key (sym none))
  by_none None is none short = (none_begins map bytes).1 (λ key held. never key held (begins_with key bytes) refl)
    where
      never : (key : List ℕ) → contains_key map key ≡ true → (test : Bool) → begins_with key bytes ≡ test → test ≡ false
      never key held false begins = refl
      never key held true begins =
          absurd (true≢false (sym (both_true (contains_key map key) (is_le (byte_order key (take end bytes))) held (not_above key begins (short key held begins))) ∙ is key))

  pub none_there : AreShort → last map (take end bytes) ≡ None → longest_prefix map bytes ≡ None
  none_there short none = by_none (last map (take end bytes)) nearest none short

  module _ (key : List ℕ) (is : last map (take end bytes) ≡ Some key) where
    greatest : IsLast byte_order (contains_key map) (take end bytes) (Some key)
    greatest = subst (IsLast byte_order (contains_key map) (take end bytes)) is nearest

    held : contains_key map key ≡ true
    held = first_true (contains_key map key) (is_le (byte_order key (take end bytes))) greatest.0

    up_to : is_le (byte_order key (take end bytes)) ≡ true
    up_to = second_true (contains_key map key) (is_le (byte_order key (take end bytes))) greatest.0

    not_beyond : (other : List ℕ) → IsTrue (contains_key map other) → IsTrue (begins_with other bytes) → length other ≤ end → is_le (byte_order other key) ≡ true
    not_beyond other there begins short =
        greatest.1 other (both_true (contains_key map other) (is_le (byte_order other (take end bytes))) there (not_above other begins short))

    pub whole_there : AreShort → shared_length key bytes ≡ length key → longest_prefix map bytes ≡ Some key
    whole_there short all =
        let begins = all_shared key bytes all in
        (longest_begins map bytes key).1 (held, begins, λ other there also. longer key other bytes begins also (not_beyond other there also (short other there also)))

    pub shorter : shared_length key bytes < length key → shared_length key bytes < end
    shorter part = within key bytes end up_to part

    pub others_short : AreShort → shared_length key bytes < length key → (other : List ℕ) → IsTrue (contains_key map other) → IsTrue (begins_with other bytes) → length other ≤ shared_length key bytes
    others_short short part other there begins = ⊎_elim
        (λ more. absurd (true≢false (sym (not_beyond other there begins (short other there begins)) ∙ passed key other bytes end up_to begins (short other there begins) part more)))
        (λ less. omega (arith, less))
        (cases_lt (shared_length key bytes) (length other))
