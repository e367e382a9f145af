-- The next byte that either of two sets has.
use Rattle.std.proofs.Common.{◌≡◌, ℕ, ◌<◌, ◌≤◌, ◌||◌, min, ⊎_elim, Bool, true, false, List, Option, Some, None, sym, refl, ap, subst, ◌∙◌, arith, true≢false, is_ge, leb-true, le-leb}
use Rattle.std.proofs.lemmas.Bool.{and_parts, and_from, false_from_ne_true, cases_lt}
use Rattle.judy_model.specs.Keys.{word_order}
use Rattle.judy_model.specs.Nearest.{IsFirst}
use Rattle.judy_model.proofs.lemmas.orders.WordOrder.{is_ge_word, le_from_word}
use Rattle.judy_bits.specs.ByteSets.{IsByteSet, has, next_from}
use Rattle.judy_bits.proofs.SetLaws.{next-IsFirst}
use Rattle.judy_combine.specs.Kept.{IsNextByte}

-- The next member of one set.
abbrev IsNextIn : List ℕ → ℕ → Option ℕ → Type 0
IsNextIn members from None = (byte : ℕ) → from ≤ byte → has members byte ≡ false
IsNextIn members from (Some next) = (from ≤ next) × (has members next ≡ true) × ((byte : ℕ) → from ≤ byte → byte < next → has members byte ≡ false)

next_in : (members : List ℕ) (from : ℕ) (answer : Option ℕ) → IsByteSet members → next_from members from ≡ answer → IsNextIn members from answer
next_in members from answer set is = by_first answer (subst (IsFirst word_order (has members) from) is (next-IsFirst members from set))
  where
    at_or_after : (byte : ℕ) → from ≤ byte → is_ge (word_order byte from) ≡ true
    at_or_after byte above = is_ge_word byte from ∙ le-leb from byte above

    by_first : (answer : Option ℕ) → IsFirst word_order (has members) from answer → IsNextIn members from answer
    by_first None none = λ byte above. false_from_ne_true (has members byte) (λ held.
        true≢false (sym (and_from (has members byte) (is_ge (word_order byte from)) held (at_or_after byte above)) ∙ none byte))
    by_first (Some next) some =
        let parts = and_parts (has members next) (is_ge (word_order next from)) some.0 in (
          leb-true from next (sym (is_ge_word next from) ∙ parts.1),
          parts.0,
          λ byte above before. false_from_ne_true (has members byte) (λ held.
              let least = le_from_word next byte (some.1 byte (and_from (has members byte) (is_ge (word_order byte from)) held (at_or_after byte above))) in
              let never : ⊥ = omega arith in absurd never),
        )

module _ (one other : List ℕ) (from : ℕ) (set : IsByteSet one) (other_set : IsByteSet other) where
  pub next_both : (ours theirs least : ℕ) → next_from one from ≡ Some ours → next_from other from ≡ Some theirs → least ≡ min ours theirs → IsNextByte one other from (Some least)
  next_both ours theirs least is other_is lesser =
      let mine = next_in one from (Some ours) set is in
      let yours = next_in other from (Some theirs) other_set other_is in
      ⊎_elim
      (λ (less : ours < theirs). let same : least ≡ ours = omega arith in (
        omega (arith, mine.0),
        ap (λ b. b || has other least) (ap (has one) same ∙ mine.1),
        λ byte above before. (mine.2 byte above (omega arith), yours.2 byte above (omega arith)),
      ))
      (λ (no_less : theirs ≤ ours). let same : least ≡ theirs = omega arith in (
        omega (arith, yours.0),
        or_true (has one least) (has other least) (ap (has other) same ∙ yours.1),
        λ byte above before. (mine.2 byte above (omega arith), yours.2 byte above (omega arith)),
      ))
      (cases_lt ours theirs)
    where
      or_true : (a b : Bool) → b ≡ true → (a || b) ≡ true
      or_true true b held = refl
      or_true false b held = held

  pub next_left : (ours : ℕ) → next_from one from ≡ Some ours → next_from other from ≡ None → IsNextByte one other from (Some ours)
  next_left ours is other_is =
      let mine = next_in one from (Some ours) set is in
      let yours = next_in other from None other_set other_is in
      (mine.0, ap (λ b. b || has other ours) mine.1, λ byte above before. (mine.2 byte above before, yours byte above))

  pub next_right : (theirs : Option ℕ) → next_from one from ≡ None → next_from other from ≡ theirs → IsNextByte one other from theirs
  next_right None is other_is = λ byte above before. (next_in one from None set is byte above, next_in other from None other_set other_is byte above)
  next_right (Some theirs) is other_is =
      let mine = next_in one from None set is in
      let yours = next_in other from (Some theirs) other_set other_is in
      (yours.0, ap (λ b. b || has other theirs) (mine theirs yours.0) ∙ yours.1, λ byte above before. (mine byte above, yours.2 byte above before))
