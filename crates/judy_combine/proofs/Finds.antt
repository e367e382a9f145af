-- What stands at a key among pairs that ascend.
use Rattle.std.proofs.Common.{◌≡◌, ◌≢◌, ℕ, zero, suc, ◌+◌, ◌<◌, ◌≤◌, true, false, cond, ◌⊎◌, inl, inr, ⊎_elim, [], ◌∷◌, ◌++◌, drop, Some, None, refl, ap, ◌∙◌, arith}
use Rattle.std.specs.Ordering.{eq_by_cmp}
use Rattle.std.specs.Option.{option_or}
use Rattle.std.specs.Cmp.{unsigned_tied}
use Rattle.std.specs.FinMap.{find}
use Rattle.std.proofs.lemmas.Bool.{eq-eqb, ne_eqb}
use Rattle.std.proofs.lemmas.Bool.Decides.{eqb_tells}
use Rattle.judy_model.specs.Keys.{word_order}
use Rattle.judy_combine.specs.Merges.{Pairs, Ascends}

pub same_or : (one other : ℕ) → (one ≡ other) ⊎ (one ≢ other)
same_or one other = ⊎_elim (λ h. inl h.1) (λ h. inr h.1) (eqb_tells one other)

pub find-same : (key : ℕ) (pair : ℕ × ℕ) (pairs : Pairs) → key ≡ pair.0 → find word_order key (pair ∷ pairs) ≡ Some pair.1
find-same key pair pairs same = ap (λ b. cond b (Some pair.1) (find word_order key pairs)) (unsigned_tied key pair.0 ∙ eq-eqb key pair.0 same)

pub find-apart : (key : ℕ) (pair : ℕ × ℕ) (pairs : Pairs) → key ≢ pair.0 → find word_order key (pair ∷ pairs) ≡ find word_order key pairs
find-apart key pair pairs apart = ap (λ b. cond b (Some pair.1) (find word_order key pairs)) (unsigned_tied key pair.0 ∙ ne_eqb key pair.0 apart)

-- Below the first nothing stands.
pub find-below : (key low : ℕ) (pairs : Pairs) → key < low → Ascends low pairs → find word_order key pairs ≡ None
find-below key low [] below up = refl
find-below key low (pair ∷ pairs) below up =
    let from = up.0 in find-apart key pair pairs (λ e. omega (arith, e, from, below)) ∙ find-below key (pair.0 + 1) pairs (omega (arith, from, below)) up.1

pub find-join : (key : ℕ) (one other : Pairs) → find word_order key (one ++ other) ≡ option_or (find word_order key one) (find word_order key other)
find-join key [] other = refl
find-join key (pair ∷ one) other =
    elim (eq_by_cmp word_order key pair.0) as (λ b. cond b (Some pair.1) (find word_order key (one ++ other)) ≡
    option_or (cond b (Some pair.1) (find word_order key one)) (find word_order key other)) [
      | true ↦ refl
      | false ↦ find-join key one other
    ]

-- From a lower word on.
pub ascends-lower : (low lower : ℕ) (pairs : Pairs) → lower ≤ low → Ascends low pairs → Ascends lower pairs
ascends-lower low lower [] less up = tt
ascends-lower low lower (pair ∷ pairs) less up = let from = up.0 in (omega (arith, from, less), up.1)

-- What is left of a front with what is behind it.
pub ascends-drop : (low n : ℕ) (pairs more : Pairs) → Ascends low (pairs ++ more) → Ascends low (drop n pairs ++ more)
ascends-drop low zero pairs more up = up
ascends-drop low (suc n) [] more up = up
ascends-drop low (suc n) (pair ∷ pairs) more up =
    let from = up.0 in ascends-lower (pair.0 + 1) low (drop n pairs ++ more) (omega (arith, from)) (ascends-drop (pair.0 + 1) n pairs more up.1)
