-- The nearest number that is no key, by a run of keys that are neighbours.
use Rattle.std.proofs.Common.{◌≡◌, ◌≢◌, ℕ, ◌+◌, ◌-◌, ◌<◌, ◌≤◌, ◌^◌, ◌&&◌, ⊎_elim, Bool, true, false, not, nat_lt, List, length, get_or, Option, Some, None, refl, ap, sym, ◌∙◌}
use Rattle.std.proofs.Common.{subst, arith, true≢false, is_le, is_ge, ltb-true, leb-true, lt-ltb, le-leb}
use Rattle.std.specs.List.Sorted.{IsStrictlySortedBy}
use Rattle.std.proofs.lemmas.Bool.{false_from_ne_true, cases_lt}
use Rattle.std.proofs.lemmas.Option.{slice_get-get_or}
use Rattle.judy_model.specs.Keys.{word_order}
use Rattle.judy_model.specs.Nearest.{IsFirst, IsLast}
use Rattle.judy_model.proofs.lemmas.orders.WordOrder.{is_le_word, is_ge_word, le_word}
use Rattle.judy_bits.specs.ByteSets as set
use Rattle.judy_bits.proofs.SetLemmas.{has_at}
use Rattle.judy_leaf.specs.Packing.{keys_in}
use Rattle.judy_leaf.specs.Nearby.{is_absent}
use Rattle.judy_leaf.proofs.Nearest.{up_to-member, absent_at}

both : (a b : Bool) → (a && b) ≡ true → (a ≡ true) × (b ≡ true)
both true b h = (refl, h)
both false b h = absurd (true≢false (sym h))

turned : (b : Bool) → not b ≡ true → b ≡ false
turned true h = absurd (true≢false (sym h))
turned false h = refl

module _ (bound : ℕ) (keys : List ℕ) (number : ℕ) where
  -- ---- upwards

  -- All numbers from one on and below another are keys.
  abbrev pub IsRunUp : ℕ → Type 0
  IsRunUp end = (x : ℕ) → number ≤ x → x < end → set.has keys x ≡ true

  -- What passes is absent and not below.
  passes_up : (x : ℕ) → (is_absent bound keys x && is_ge (word_order x number)) ≡ true → (x < bound) × (set.has keys x ≡ false) × (number ≤ x)
  passes_up x h =
      let parts = both (is_absent bound keys x) (is_ge (word_order x number)) h in
      let free = both (nat_lt x bound) (not (set.has keys x)) parts.0 in
      (ltb-true x bound free.0, turned (set.has keys x) free.1, leb-true number x (sym (is_ge_word x number) ∙ parts.1))

  pub first_absent : (free : ℕ) → number ≤ free → free < bound → set.has keys free ≡ false → IsRunUp free → IsFirst word_order (is_absent bound keys) number (Some free)
  first_absent free from inside absent run = (
    (λ t. (lt-ltb free bound inside t && not (absent t)) && (is_ge_word free number ∙ le-leb number free from) t),
    λ x h.
        let is = passes_up x h in
        le_word free x (⊎_elim (λ less. absurd (true≢false (sym (run x is.2 less) ∙ is.1))) (λ more. more) (cases_lt x free)),
  )

  pub none_above : (end : ℕ) → bound ≤ end → IsRunUp end → IsFirst word_order (is_absent bound keys) number None
  none_above end all run = λ x. false_from_ne_true (is_absent bound keys x && is_ge (word_order x number)) (λ h.
      let is = passes_up x h in
      let below = is.0 in
      true≢false (sym (run x is.2 (omega arith)) ∙ is.1))

  -- One key more in the run.
  pub longer_up : (end : ℕ) → IsRunUp end → set.has keys end ≡ true → IsRunUp (end + 1)
  longer_up end run held = λ x from before. ⊎_elim
      (λ less. run x from less)
      (λ more. let same : x ≡ end = omega arith in ap (set.has keys) same ∙ held)
      (cases_lt x end)

  -- ---- downwards

  -- All numbers below the bound, above one and at or below another are keys.
  abbrev pub IsRunDown : ℕ → Type 0
  IsRunDown end = (x : ℕ) → end < x → x ≤ number → x < bound → set.has keys x ≡ true

  -- What passes is absent and not above.
  passes_down : (x : ℕ) → (is_absent bound keys x && is_le (word_order x number)) ≡ true → (x < bound) × (set.has keys x ≡ false) × (x ≤ number)
  passes_down x h =
      let parts = both (is_absent bound keys x) (is_le (word_order x number)) h in
      let free = both (nat_lt x bound) (not (set.has keys x)) parts.0 in
      (ltb-true x bound free.0, turned (set.has keys x) free.1, leb-true x number (sym (is_le_word x number) ∙ parts.1))

  pub last_absent : (free : ℕ) → free ≤ number → free < bound → set.has keys free ≡ false → IsRunDown free → IsLast word_order (is_absent bound keys) number (Some free)
  last_absent free up_to inside absent run = (
    (λ t. (lt-ltb free bound inside t && not (absent t)) && (is_le_word free number ∙ le-leb free number up_to) t),
    λ x h.
        let is = passes_down x h in
        le_word x free (⊎_elim (λ less. absurd (true≢false (sym (run x less is.2 is.0) ∙ is.1))) (λ more. more) (cases_lt free x)),
  )

  pub none_below : (end : ℕ) → end ≡ 0 → IsRunDown end → set.has keys end ≡ true → IsLast word_order (is_absent bound keys) number None
  none_below end none run held = λ x. false_from_ne_true (is_absent bound keys x && is_le (word_order x number)) (λ h.
      let is = passes_down x h in
      ⊎_elim
      (λ more. true≢false (sym (run x more is.2 is.0) ∙ is.1))
      (λ less. let same : x ≡ end = omega arith in true≢false (sym (ap (set.has keys) same ∙ held) ∙ is.1))
      (cases_lt end x))

  -- One key more in the run.
  pub longer_down : (end : ℕ) → IsRunDown end → 1 ≤ end → set.has keys end ≡ true → IsRunDown (end - 1)
  longer_down end run some held = λ x above up_to below. ⊎_elim
      (λ more. run x more up_to below)
      (λ less. let same : x ≡ end = omega arith in ap (set.has keys) same ∙ held)
      (cases_lt end x)

-- ---- what stands at a place below so many at or below a number

module _ (keys : List ℕ) (ascending : IsStrictlySortedBy word_order keys) (number : ℕ) where
  -- None is as high.
  pub none_up_to : set.count_up_to keys number ≡ 0 → set.has keys number ≡ false
  none_up_to none = false_from_ne_true (set.has keys number) (λ held.
      let one = up_to-member keys ascending number held in
      let never : ⊥ = omega arith in never)

  -- The last of them is the number, or the number is no key.
  pub held_below : (at : ℕ) → at < length keys → get_or keys at 0 ≡ number → set.has keys number ≡ true
  held_below at inside same = has_at keys ascending at number (slice_get-get_or keys at 0 inside ∙ ap Some same)

  pub absent_below : (at : ℕ) → at + 1 ≡ set.count_up_to keys number → get_or keys at 0 ≢ number → set.has keys number ≡ false
  absent_below at counted apart = false_from_ne_true (set.has keys number) (λ held.
      let one = up_to-member keys ascending number held in
      true≢false (sym held ∙ absent_at keys ascending number at (omega arith) (λ _. apart)))

-- ---- the same beside other names for the bound and the keys

pub first_among : (bound other : ℕ) (keys list : List ℕ) (number : ℕ) (found : Option ℕ) → bound ≡ other → keys ≡ list → IsFirst word_order (is_absent bound keys) number found →
    IsFirst word_order (is_absent other list) number found
first_among bound other keys list number found bounds same is =
    subst (λ b. IsFirst word_order (is_absent b list) number found) bounds (subst (λ ks. IsFirst word_order (is_absent bound ks) number found) same is)

pub last_among : (bound other : ℕ) (keys list : List ℕ) (number : ℕ) (found : Option ℕ) → bound ≡ other → keys ≡ list → IsLast word_order (is_absent bound keys) number found →
    IsLast word_order (is_absent other list) number found
last_among bound other keys list number found bounds same is =
    subst (λ b. IsLast word_order (is_absent b list) number found) bounds (subst (λ ks. IsLast word_order (is_absent bound ks) number found) same is)

-- Words of keys of one width are words of keys of the width that is told.
module _ (told width count : ℕ) (words other : List ℕ) (number : ℕ) (found : Option ℕ) (is_width : told ≡ width) (same : words ≡ other) where
  pub first_at : IsFirst word_order (is_absent (256 ^ width) (keys_in width count words)) number found → IsFirst word_order (is_absent (256 ^ told) (keys_in told count other)) number found
  first_at =
      first_among (256 ^ width) (256 ^ told) (keys_in width count words) (keys_in told count other) number found (ap (λ w. 256 ^ w) (sym is_width)) (λ t. keys_in (sym is_width t) count (same t))

  pub last_at : IsLast word_order (is_absent (256 ^ width) (keys_in width count words)) number found → IsLast word_order (is_absent (256 ^ told) (keys_in told count other)) number found
  last_at = last_among (256 ^ width) (256 ^ told) (keys_in width count words) (keys_in told count other) number found (ap (λ w. 256 ^ w) (sym is_width)) (λ t. keys_in (sym is_width t) count (same t))
