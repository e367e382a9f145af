-- What an array keeps that was read from key to key.
use Rattle.std.proofs.Common.{◌≡◌, ℕ, ◌-◌, ◌^◌, ◌<◌, ◌≤◌, Bool, true, false, Option, Some, None, is_some, sym, ap, subst, ◌∙◌, ⊎_elim, arith, true≢false, lt-ltb, le-leb}
use Rattle.std.specs.Cmp.{nat_cmp_total}
use Rattle.std.specs.FinMap.{FinMap, get, contains_key, len, nat_cmp-IsAntisymmetric}
use Rattle.std.proofs.lemmas.Bool.{cases_lt, ltb-true}
use Rattle.judy_model.specs.Keys.{IsWord, word_order}
use Rattle.judy_model.specs.Arrays.{ArrayOf, IsArrayOf}
use Rattle.judy_model.specs.Nearest.{IsFirst, IsNext}
use Rattle.judy_model.specs.Neighbours.{first, next}
use Rattle.judy_model.proofs.lemmas.queries.NearestLemmas.{first-IsFirst, next-IsNext}
use Rattle.judy_model.proofs.lemmas.runs.KeptLemmas.{holds-IsArrayOf}
use Rattle.judy_model.proofs.lemmas.orders.WordOrder.{is_ge_word, is_gt_word, le_from_word}
use Rattle.judy_model.proofs.lemmas.maps.Tests.{both_true, second_true}

-- the keys below the one that comes next, or all of them, were read as words, and their values
abbrev pub Seen : FinMap word_order ℕ → Option ℕ → Type 0
Seen map None = (key value : ℕ) → get map key ≡ Some value → IsWord key × IsWord value
Seen map (Some following) = (key value : ℕ) → key < following → get map key ≡ Some value → IsWord key × IsWord value

-- how far it may still be to the end
abbrev pub left_from : Option ℕ → ℕ
left_from None = 0
left_from (Some key) = 2 ^ 64 - key

never : {A : Type 0} (test : Bool) → test ≡ true → test ≡ false → A
never test so not = absurd (true≢false (sym so ∙ not))

module _ (map : FinMap word_order ℕ) where
  held : (key value : ℕ) → get map key ≡ Some value → contains_key map key ≡ true
  held key value is = ap is_some is

  -- nothing is before the first key
  start_by : (found : Option ℕ) → IsFirst word_order (contains_key map) 0 found → Seen map found
  start_by None none = λ key value is. never _ (both_true _ _ (held key value is) (is_ge_word key 0 ∙ le-leb 0 key (omega arith))) (none key)
  start_by (Some following) least = λ key value below is.
      let above = le_from_word following key (least.1 key (both_true _ _ (held key value is) (is_ge_word key 0 ∙ le-leb 0 key (omega arith)))) in
      absurd (omega arith)

  pub Seen-start : Seen map (first map 0)
  Seen-start = start_by (first map 0) (first-IsFirst nat_cmp_total nat_cmp-IsAntisymmetric map 0)

  -- a key was read, and nothing is between it and the next
  module _ (key value : ℕ) (seen : Seen map (Some key)) (small : IsWord key) (read : (held : ℕ) → get map key ≡ Some held → held ≡ value) (small_value : IsWord value) where
    here : (other held : ℕ) → other ≡ key → get map other ≡ Some held → IsWord other × IsWord held
    here other found same is =
        (subst IsWord (sym same) small, subst IsWord (sym (read found (ap (get map) (sym same) ∙ is))) small_value)

    step_by : (following : Option ℕ) → IsNext word_order (contains_key map) key following → Seen map following
    step_by None none = λ other found is. ⊎_elim
        (λ below. seen other found below is)
        (λ above. ⊎_elim
        (λ beyond. never _ (both_true _ _ (held other found is) (is_gt_word other key ∙ lt-ltb key other beyond)) (none other))
        (λ at_most. here other found (omega arith) is)
        (cases_lt key other))
        (cases_lt other key)
    step_by (Some following) least = λ other found short is. ⊎_elim
        (λ below. seen other found below is)
        (λ above. ⊎_elim
        (λ beyond. let past = le_from_word following other (least.1 other (both_true _ _ (held other found is) (is_gt_word other key ∙ lt-ltb key other beyond))) in absurd (omega arith))
        (λ at_most. here other found (omega arith) is)
        (cases_lt key other))
        (cases_lt other key)

    pub Seen-step : Seen map (next map key)
    Seen-step = step_by (next map key) (next-IsNext nat_cmp_total nat_cmp-IsAntisymmetric map key)

  falls_by : (key : ℕ) → IsWord key → (following : Option ℕ) → IsNext word_order (contains_key map) key following → left_from following < 2 ^ 64 - key
  falls_by key small None none = omega arith
  falls_by key small (Some following) least =
      let above = ltb-true key following (sym (is_gt_word following key) ∙ second_true (contains_key map following) _ least.0) in omega arith

  -- the next key is nearer to the end
  pub falls : (key : ℕ) → IsWord key → left_from (next map key) < 2 ^ 64 - key
  falls key small = falls_by key small (next map key) (next-IsNext nat_cmp_total nat_cmp-IsAntisymmetric map key)

pub IsArrayOf-seen : (array : ArrayOf word_order) → Seen array.map None → 1 ≤ array.limit → IsWord array.limit → len array.map ≤ array.limit → IsArrayOf IsWord array
IsArrayOf-seen array seen some small within = holds-IsArrayOf nat_cmp_total array IsWord some small within seen
