-- The bytes that are no keys, as numbers below 256 that are no keys.
use Rattle.std.proofs.Common.{◌≡◌, ℕ, ◌<◌, ◌≤◌, ◌&&◌, ⊎_elim, false, not, min, nat_lt, nat_le, List, ap, sym, ◌∙◌, subst, arith, is_le, ltb-true, leb-true, lt-ltb, le-leb}
use Rattle.std.proofs.lemmas.Bool.{false_from_ne_true, cases_lt}
use Rattle.judy_model.specs.Keys.{word_order}
use Rattle.judy_model.specs.Nearest.{IsFirst, IsLast, IsGreatest}
use Rattle.judy_model.proofs.lemmas.maps.Ascending.{all_among}
use Rattle.judy_model.proofs.lemmas.orders.WordOrder.{is_le_word}
use Rattle.judy_bits.specs.ByteSets as set
use Rattle.judy_bits.specs.ByteSets.{IsByteSet, absent}
use Rattle.judy_bits.proofs.AbsentLemmas.{has-absent}
use Rattle.judy_bits.proofs.Ranges.{chosen-IsByteSet}
use Rattle.judy_bits.proofs.SetLaws.{next-IsFirst, prev-IsLast}
use Rattle.judy_bits.proofs.SetLemmas.{Among-has}
use Rattle.judy_leaf.specs.Nearby.{is_absent}
use Rattle.judy_leaf.proofs.Bounds.{all_bytes}

not_less : (x bound : ℕ) → bound ≤ x → nat_lt x bound ≡ false
not_less x bound above = false_from_ne_true (nat_lt x bound) (λ e. let below = ltb-true x bound e in let never : ⊥ = omega arith in never)

module _ (keys : List ℕ) where
  absent-IsByteSet : IsByteSet (absent keys)
  unfolding absent
  absent-IsByteSet = chosen-IsByteSet (λ byte. not (set.has keys byte)) 256 (omega arith)

  -- The bytes that are no keys are what is below 256 and no key.
  has-absent_byte : (x : ℕ) → set.has (absent keys) x ≡ is_absent 256 keys x
  has-absent_byte x = ⊎_elim
      (λ below. has-absent keys x below ∙ ap (λ b. b && not (set.has keys x)) (sym (lt-ltb x 256 below)))
      (λ above. false_from_ne_true (set.has (absent keys) x) (λ held.
      let below : x < 256 = all_among (λ byte. byte < 256) (absent keys) x (all_bytes (absent keys) absent-IsByteSet.bytes) (Among-has (absent keys) x held) in
      let never : ⊥ = omega arith in never)
      ∙ ap (λ b. b && not (set.has keys x)) (sym (not_less x 256 above)))
      (cases_lt x 256)

  pub first_absent_byte : (number : ℕ) → IsFirst word_order (is_absent 256 keys) number (set.next_absent keys number)
  first_absent_byte number = subst (λ member. IsFirst word_order member number (set.next_absent keys number)) (λ t x. has-absent_byte x t) (next-IsFirst (absent keys) number absent-IsByteSet)

  last_absent_byte : (number : ℕ) → IsLast word_order (is_absent 256 keys) number (set.prev_absent keys number)
  last_absent_byte number = subst (λ member. IsLast word_order member number (set.prev_absent keys number)) (λ t x. has-absent_byte x t) (prev-IsLast (absent keys) number absent-IsByteSet)

  -- From any number on down, as from the greatest byte.
  same_side : (number x : ℕ) → (is_absent 256 keys x && is_le (word_order x (min number 255))) ≡ (is_absent 256 keys x && is_le (word_order x number))
  same_side number x = ⊎_elim
      (λ below. ap (λ b. is_absent 256 keys x && b) (is_le_word x (min number 255) ∙ least x number below ∙ sym (is_le_word x number)))
      (λ above. (λ t. (not_less x 256 above t && not (set.has keys x)) && is_le (word_order x (min number 255))) ∙
      (λ t. (sym (not_less x 256 above) t && not (set.has keys x)) && is_le (word_order x number)))
      (cases_lt x 256)
    where
      least : (x number : ℕ) → x < 256 → nat_le x (min number 255) ≡ nat_le x number
      least x number below = ⊎_elim
          (λ more. false_from_ne_true (nat_le x (min number 255)) (λ e. let up = leb-true x (min number 255) e in let never : ⊥ = omega arith in never)
          ∙ sym (false_from_ne_true (nat_le x number) (λ e. let up = leb-true x number e in let never : ⊥ = omega arith in never)))
          (λ up. le-leb x (min number 255) (omega arith) ∙ sym (le-leb x number up))
          (cases_lt number x)

  pub last_absent_byte_from : (number : ℕ) → IsLast word_order (is_absent 256 keys) number (set.prev_absent keys (min number 255))
  last_absent_byte_from number = subst (λ passes. IsGreatest word_order passes (set.prev_absent keys (min number 255))) (λ t x. same_side number x t) (last_absent_byte (min number 255))
