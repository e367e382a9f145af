-- Closed lines and a rest without an LF are the whole lines of a script and what stands behind them.
use Rattle.std.proofs.Common.{◌≡◌, ◌↔◌, ℕ, ◌<◌, ◌≤◌, ◌⊎◌, true, false, ◌==◌, List, [], ◌∷◌, ◌++◌, length, take, refl, sym, ap, subst, ◌∙◌, inl, inr, ⊎_elim, arith, length-append}
use Rattle.std.proofs.lemmas.Bool.{eqb-true}
use Rattle.std.proofs.Math.Seq.{take-append_seam}
use Rattle.judy_model.specs.LineLists.{are_whole_lines, whole_lines}
use Rattle.judy_model.specs.Stores.{Store}
use Rattle.judy_model.specs.Runs.{Run}
use Rattle.judy_model.specs.RunEnds.{read, too_long, LeftBy}
use Rattle.judy_model.proofs.lemmas.runs.WholeLines.{whole_lines-split, whole_lines-only, ended-are_whole_lines, unended-are_whole_lines}
use Rattle.judy_laws.specs.WholeLines.{IsClosed, HasNoLineFeed}

-- closed lines are whole ones
closed-are_whole_lines : (bytes : List ℕ) → IsClosed bytes → are_whole_lines bytes ≡ true
closed-are_whole_lines bytes closed = ⊎_elim
    (λ none. ap are_whole_lines none)
    (λ ended. ap are_whole_lines ended.1 ∙ ended-are_whole_lines ended.0)
    closed

-- a list has no element, or a last one
last_of : (bytes : List ℕ) → (bytes ≡ []) ⊎ ((front : List ℕ) × (byte : ℕ) × (bytes ≡ front ++ byte ∷ []))
last_of [] = inl refl
last_of (byte ∷ bytes) = inr (⊎_elim
    (λ none. ([], byte, ap (λ rest. byte ∷ rest) none))
    (λ some. (byte ∷ some.0, some.1, ap (λ rest. byte ∷ rest) some.2))
    (last_of bytes))

-- and whole ones are closed
are_whole_lines-closed : (bytes : List ℕ) → are_whole_lines bytes ≡ true → IsClosed bytes
are_whole_lines-closed bytes whole = ⊎_elim
    (λ none. inl none)
    (λ some. inr (some.0, some.2 ∙ ap (λ byte. some.0 ++ byte ∷ []) (by_last some.0 some.1 (ap are_whole_lines (sym some.2) ∙ whole))))
    (last_of bytes)
  where
    by_last : (front : List ℕ) (byte : ℕ) → are_whole_lines (front ++ byte ∷ []) ≡ true → byte ≡ 10
    by_last front byte is =
        elim (byte == 10) as (λ b. (byte == 10) ≡ b → byte ≡ 10) [
          | true ↦ λ same. eqb-true byte 10 same
          | false ↦ λ other.
              let never : are_whole_lines (front ++ byte ∷ []) ≡ false = unended-are_whole_lines front byte (λ same. absurd (cc)) in
              absurd (cc)
        ] refl

pub closed_lines_and_rest : (bytes : List ℕ) → (lines rest : List ℕ) × (bytes ≡ lines ++ rest) × IsClosed lines × HasNoLineFeed rest
closed_lines_and_rest bytes =
    let split = whole_lines-split bytes in
    (whole_lines bytes, split.0, split.1, are_whole_lines-closed (whole_lines bytes) split.2, split.3)

module _ (before after : Store) (most : ℕ) (lines rest output : List ℕ) (AtEnd : Type 0) (closed : IsClosed lines) (open_end : HasNoLineFeed rest) where
  same_lines : whole_lines (lines ++ rest) ≡ lines
  same_lines = whole_lines-only lines rest (closed-are_whole_lines lines closed) open_end

  pub at_read : LeftBy before most (lines ++ rest) AtEnd output after read ↔ ((length (lines ++ rest) ≤ most) × Run before lines output after)
  at_read = (
    λ left. (left.fits, subst (λ script. Run before script output after) same_lines left.ran),
    λ is. record { fits = is.0; ran = subst (λ script. Run before script output after) (sym same_lines) is.1 },
  )

  -- the first bytes of those that are more
  first_bytes : (more : List ℕ) → length (lines ++ rest) ≡ most → whole_lines (take most ((lines ++ rest) ++ more)) ≡ lines
  first_bytes more long =
      ap (λ n. whole_lines (take n ((lines ++ rest) ++ more))) (sym long) ∙ ap whole_lines (take-append_seam (lines ++ rest) more) ∙ same_lines

  pub at_most : (more : List ℕ) → length (lines ++ rest) ≡ most →
      LeftBy before most ((lines ++ rest) ++ more) AtEnd output after too_long ↔ ((0 < length more) × Run before lines output after)
  at_most more long =
      let both = length-append (lines ++ rest) more in (
        λ left. let exceeds = left.exceeds in (omega arith, subst (λ script. Run before script output after) (first_bytes more long) left.ran),
        λ is. let some = is.0 in record { exceeds = omega arith; ran = subst (λ script. Run before script output after) (sym (first_bytes more long)) is.1 },
      )
