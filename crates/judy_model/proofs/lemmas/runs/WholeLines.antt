-- A script as whole lines and a rest without an LF.
use Rattle.std.proofs.Common.{◌≡◌, ◌≢◌, ℕ, ◌<◌, Bool, true, false, cond, not, ◌&&◌, ◌==◌, List, [], ◌∷◌, ◌++◌, length, refl, sym, ap, subst, ◌∙◌, arith, All, IsTrue, append_assoc}
use Rattle.std.specs.List.{list_all}
use Rattle.std.proofs.lemmas.Bool.{eqb-true, false_from_ne_true}
use Rattle.std.proofs.lemmas.List.{length_push}
use Rattle.std.proofs.lemmas.List.Folds.{list_all-append}
use Rattle.std.proofs.lemmas.List.Sums.{AllPass-from_list_all, list_all-from_AllPass}
use Rattle.judy_model.specs.Lines.{Line, lines_of, onto_first_line}
use Rattle.judy_model.specs.LineLists.{are_whole_lines, whole_lines}
use Rattle.judy_model.proofs.lemmas.runs.LineLemmas.{is_inner, all_ended, lines_of-ended, lines_of-unended, lines_of-whole_lines, whole_lines-append}
use Rattle.judy_model.proofs.lemmas.maps.Tests.{both_true}

pub record IsCut (script : List ℕ) : Type 0 where
  pub front : List ℕ
  pub rest : List ℕ
  pub split : script ≡ front ++ rest
  pub whole : are_whole_lines front ≡ true
  pub inner : list_all is_inner rest ≡ true

-- a byte before lines, at least one, doesn't change how the last of them ends
onto_ended : (byte : ℕ) (lines : List Line) → 0 < length lines → all_ended (onto_first_line byte lines) ≡ all_ended lines
onto_ended byte [] some = absurd (omega arith)
onto_ended byte (line ∷ lines) some = refl

some_lines : (byte : ℕ) (bytes : List ℕ) → 0 < length (lines_of (byte ∷ bytes))
some_lines byte bytes = elim (byte == 10) as (λ b. 0 < length (cond b (record { bytes = []; ended = true } ∷ lines_of bytes) (onto_first_line byte (lines_of bytes)))) [
  | true ↦ omega arith
  | false ↦ onto_some (lines_of bytes)
]
  where
    onto_some : (lines : List Line) → 0 < length (onto_first_line byte lines)
    onto_some [] = omega arith
    onto_some (line ∷ lines) = omega arith

-- one byte more before a script that is cut
cut_with : (byte : ℕ) (front rest : List ℕ) → are_whole_lines front ≡ true → list_all is_inner rest ≡ true → IsCut (byte ∷ (front ++ rest))
cut_with byte front rest whole inner =
    elim (byte == 10) as (λ b. (byte == 10) ≡ b → IsCut (byte ∷ (front ++ rest))) [
      | true ↦ λ is. record {
        front = byte ∷ front;
        rest = rest;
        split = refl;
        whole = ap (λ b. all_ended (cond b (record { bytes = []; ended = true } ∷ lines_of front) (onto_first_line byte (lines_of front)))) is ∙ whole;
        inner = inner;
      }
      | false ↦ λ other. inside front whole other
    ] refl
  where
    inside : (front : List ℕ) → are_whole_lines front ≡ true → (byte == 10) ≡ false → IsCut (byte ∷ (front ++ rest))
    inside [] whole other = record { front = []; rest = byte ∷ rest; split = refl; whole = refl; inner = both_true _ _ (ap not other) inner }
    inside (first ∷ front) whole other = record {
      front = byte ∷ first ∷ front;
      rest = rest;
      split = refl;
      whole = ap (λ b. all_ended (cond b (record { bytes = []; ended = true } ∷ lines_of (first ∷ front)) (onto_first_line byte (lines_of (first ∷ front))))) other
          ∙ onto_ended byte (lines_of (first ∷ front)) (some_lines first front) ∙ whole;
      inner = inner;
    }

cut : (script : List ℕ) → IsCut script
cut [] = record { front = []; rest = []; split = refl; whole = refl; inner = refl }
cut (byte ∷ script) =
    let later = cut script in
    subst (λ bytes. IsCut (byte ∷ bytes)) (sym later.split) (cut_with byte later.front later.rest later.whole later.inner)

-- no LF, by a test and as a fact
without_lf : (bytes : List ℕ) → list_all is_inner bytes ≡ true → All (λ byte. byte ≢ 10) bytes
without_lf bytes inner = λ k d within is. never (AllPass-from_list_all is_inner bytes inner k d within) is
  where
    never : {byte : ℕ} → is_inner byte ≡ true → byte ≡ 10 → ⊥
    never inner is = (cc)

inner_byte : (byte : ℕ) → byte ≢ 10 → is_inner byte ≡ true
inner_byte byte other = ap not (false_from_ne_true (byte == 10) (λ is. other (eqb-true byte 10 is)))

inner_bytes : (bytes : List ℕ) → All (λ byte. byte ≢ 10) bytes → list_all is_inner bytes ≡ true
inner_bytes bytes without = list_all-from_AllPass is_inner bytes (λ k d within. inner_byte _ (without k d within))

pub whole_lines-only : (front rest : List ℕ) → are_whole_lines front ≡ true → All (λ byte. byte ≢ 10) rest → whole_lines (front ++ rest) ≡ front
whole_lines-only front rest whole without = whole_lines-append front rest whole (lines_of-whole_lines front rest whole) (inner_bytes rest without)

pub whole_lines-split : (script : List ℕ) → (rest : List ℕ) × (script ≡ whole_lines script ++ rest) × IsTrue (are_whole_lines (whole_lines script)) × All (λ byte. byte ≢ 10) rest
whole_lines-split script =
    let is = cut script in
    let front : whole_lines script ≡ is.front = ap whole_lines is.split ∙ whole_lines-append is.front is.rest is.whole (lines_of-whole_lines is.front is.rest is.whole) is.inner in
    (is.rest, is.split ∙ ap (λ bytes. bytes ++ is.rest) (sym front), ap are_whole_lines front ∙ is.whole, without_lf is.rest is.inner)

-- the lines of a script and one byte more
lines_with : (bytes : List ℕ) (is : IsCut bytes) (last : List ℕ) → lines_of (bytes ++ last) ≡ lines_of is.front ++ lines_of (is.rest ++ last)
lines_with bytes is last =
    ap (λ front. lines_of (front ++ last)) is.split ∙ ap lines_of (append_assoc is.front is.rest last) ∙ lines_of-whole_lines is.front (is.rest ++ last) is.whole

pub ended-are_whole_lines : (bytes : List ℕ) → are_whole_lines (bytes ++ 10 ∷ []) ≡ true
ended-are_whole_lines bytes =
    let is = cut bytes in
    ap all_ended (lines_with bytes is (10 ∷ []) ∙ ap (λ lines. lines_of is.front ++ lines) (lines_of-ended is.rest [] is.inner))
    ∙ list_all-append (λ line. line.ended) (lines_of is.front) (record { bytes = is.rest; ended = true } ∷ []) ∙ both_true _ _ is.whole refl

and_false : (b : Bool) → (b && false) ≡ false
and_false true = refl
and_false false = refl

pub unended-are_whole_lines : (bytes : List ℕ) (byte : ℕ) → byte ≢ 10 → are_whole_lines (bytes ++ byte ∷ []) ≡ false
unended-are_whole_lines bytes byte other =
    let is = cut bytes in
    let inner = list_all-append is_inner is.rest (byte ∷ []) ∙ both_true _ _ is.inner (both_true _ _ (inner_byte byte other) refl) in
    ap all_ended (lines_with bytes is (byte ∷ []) ∙ ap (λ lines. lines_of is.front ++ lines) (lines_of-unended (is.rest ++ byte ∷ []) inner (omega (arith, length_push is.rest byte))))
    ∙ list_all-append (λ line. line.ended) (lines_of is.front) (record { bytes = is.rest ++ byte ∷ []; ended = false } ∷ []) ∙ and_false (all_ended (lines_of is.front))
