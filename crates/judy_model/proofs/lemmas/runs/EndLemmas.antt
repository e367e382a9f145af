-- What a fault leaves of a run begins a run that goes on.
use Rattle.std.proofs.Common.{◌≡◌, ℕ, zero, suc, ◌+◌, ◌-◌, ◌≤◌, true, List, [], ◌∷◌, ◌++◌, length, take, refl, sym, ap, subst, ◌∙◌, ⊎_elim, arith, append_assoc, append-nil}
use Rattle.std.proofs.Math.Seq.{take-append-add}
use Rattle.judy_model.specs.LineLists.{are_whole_lines, whole_lines}
use Rattle.judy_model.specs.Stores.{Store}
use Rattle.judy_model.specs.Runs.{Run, CutOff}
use Rattle.judy_model.specs.AmpleRuns.{ample_output, store_after}
use Rattle.judy_model.specs.CutRuns.{Begins}
use Rattle.judy_model.specs.RunEnds.{Fault, read, write, too_long, CutAtWrite, LeftBy}
use Rattle.judy_model.proofs.lemmas.runs.RunLaws.{Run-append, Run-ample, CutOff-goes_on}
use Rattle.judy_model.proofs.lemmas.runs.WholeLines.{whole_lines-split}

-- the output begins the one of a run of the script
abbrev GoesOn : Store → List ℕ → List ℕ → Type 0
GoesOn before script output = (whole : List ℕ) × (last : Store) × Run before script whole last × Begins output whole

-- a run of whole lines, and of more behind them
longer : (before after : Store) (front rest output : List ℕ) → are_whole_lines front ≡ true → Run before front output after → GoesOn before (front ++ rest) output
longer before after front rest output whole run = (
  output ++ ample_output after rest,
  store_after after rest,
  (Run-append before (store_after after rest) front rest (output ++ ample_output after rest) whole).1 (after, output, ample_output after rest, run, Run-ample after rest, refl),
  (ample_output after rest, refl),
)

-- a run of the whole lines of a script
of_whole_lines : (before after : Store) (script output : List ℕ) → Run before (whole_lines script) output after → GoesOn before script output
of_whole_lines before after script output run =
    let split = whole_lines-split script in
    subst (λ script. GoesOn before script output) (sym split.1) (longer before after (whole_lines script) split.0 output split.2 run)

-- a run that was cut off in the first lines
of_cut : (before after : Store) (closed rest output : List ℕ) → are_whole_lines closed ≡ true → CutOff before closed output after → GoesOn before (closed ++ rest) output
of_cut before after closed rest output whole cut =
    let goes = CutOff-goes_on before closed output after cut in
    let on = longer before goes.1 closed rest goes.0 whole goes.2 in
    (on.0, on.1, on.2, (goes.3.0 ++ on.3.0, on.3.1 ∙ ap (λ bytes. bytes ++ on.3.0) goes.3.1 ∙ append_assoc output goes.3.0 on.3.0))

take_all : (most : ℕ) (bytes : List ℕ) → length bytes ≤ most → take most bytes ≡ bytes
take_all zero [] fits = refl
take_all zero (byte ∷ bytes) fits = absurd (omega arith)
take_all (suc most) [] fits = refl
take_all (suc most) (byte ∷ bytes) fits = ap (λ rest. byte ∷ rest) (take_all most bytes (omega arith))

-- the first bytes of those that whole ones begin
take_behind : (most : ℕ) (closed later : List ℕ) → length closed ≤ most → take most (closed ++ later) ≡ closed ++ take (most - length closed) later
take_behind most closed later fits =
    let enough : most ≡ length closed + (most - length closed) = omega arith in
    ap (λ n. take n (closed ++ later)) enough ∙ take-append-add closed later (most - length closed)

module _ (before : Store) (most : ℕ) (given : List ℕ) (AtEnd : Type 0) (output : List ℕ) (after : Store) where
  at_write : CutAtWrite before most given AtEnd output after → GoesOn before (take most given) output
  at_write cut = ⊎_elim
      (λ whole. subst (λ script. GoesOn before script output) (sym (ap (take most) cut.split ∙ take_behind most cut.closed cut.later cut.fits))
      (of_cut before after cut.closed (take (most - length cut.closed) cut.later) output whole cut.ran))
      (λ end.
      let all : given ≡ cut.closed = cut.split ∙ ap (λ later. cut.closed ++ later) end.0 ∙ append-nil cut.closed in
      subst (λ script. GoesOn before script output) (sym (ap (take most) all ∙ take_all most cut.closed cut.fits)) (CutOff-goes_on before cut.closed output after cut.ran))
      cut.line_end

  pub LeftBy-goes_on : (fault : Fault) → LeftBy before most given AtEnd output after fault → GoesOn before (take most given) output
  LeftBy-goes_on read left = subst (λ script. GoesOn before script output) (sym (take_all most given left.fits)) (of_whole_lines before after given output left.ran)
  LeftBy-goes_on write left = at_write left
  LeftBy-goes_on too_long left = of_whole_lines before after (take most given) output left.ran
