-- How a script is cut into lines, piece by piece.
use Rattle.std.proofs.Common.{◌≡◌, ℕ, ◌<◌, Bool, true, false, cond, not, ◌&&◌, ◌||◌, ◌==◌, nat_lt, List, [], ◌∷◌, ◌++◌, length, refl, sym, ap, ◌∙◌, arith, rules, append_assoc, append-nil}
use Rattle.std.proofs.lemmas.Bool.{ltb-true}
use Rattle.std.specs.List.{list_all}
use Rattle.judy_model.specs.Lines.{Line, lines_of, onto_first_line}
use Rattle.std.specs.Prelude.{filter}
use Rattle.std.proofs.lemmas.List.Elements.{filter-append}
use Rattle.judy_model.specs.LineLists.{whole_lines, script_of, are_lines}
use Rattle.judy_model.proofs.lemmas.maps.Tests.{first_true, second_true}

-- a byte that is no LF
abbrev pub is_inner : ℕ → Bool
is_inner byte = not (byte == 10)

-- a byte put before the first line is put before the script
script_of-onto_first_line : (byte : ℕ) (lines : List Line) → script_of (onto_first_line byte lines) ≡ byte ∷ script_of lines
script_of-onto_first_line byte [] = refl
script_of-onto_first_line byte (line ∷ lines) = refl

is_line_feed : (byte : ℕ) → (byte == 10) ≡ true → byte ≡ 10
is_line_feed byte h = search rules

pub script_of-lines_of : (script : List ℕ) → script_of (lines_of script) ≡ script
script_of-lines_of [] = refl
script_of-lines_of (byte ∷ script) =
    elim (byte == 10) as (λ b. (byte == 10) ≡ b → script_of (cond b (record { bytes = []; ended = true } ∷ lines_of script) (onto_first_line byte (lines_of script))) ≡ byte ∷ script) [
      | true ↦ λ h. rw (is_line_feed byte h) (ap (λ rest. 10 ∷ rest) (script_of-lines_of script))
      | false ↦ λ h. script_of-onto_first_line byte (lines_of script) ∙ ap (λ rest. byte ∷ rest) (script_of-lines_of script)
    ] refl

one_byte_more : (p q e a b c r : Bool) → p ≡ true → c ≡ true → ((q && (e || a && b)) && r) ≡ true → (((p && q) && (e || a && c)) && r) ≡ true
one_byte_more true true true a b c r f g h = h
one_byte_more true true false true true true r f g h = h
one_byte_more true true false true true false r f g h = cc
one_byte_more true true false true false c r f g h = cc
one_byte_more true true false false b c r f g h = cc
one_byte_more true false e a b c r f g h = cc
one_byte_more false q e a b c r f g h = cc

are_lines-onto_first_line : (byte : ℕ) (lines : List Line) → (byte == 10) ≡ false → are_lines lines ≡ true → are_lines (onto_first_line byte lines) ≡ true
are_lines-onto_first_line byte [] f h = rw f refl
are_lines-onto_first_line byte (line ∷ lines) f h =
    one_byte_more _ _ _ _ (nat_lt 0 (length line.bytes)) (nat_lt 0 (length (byte ∷ line.bytes))) _ (ap not f) (search rules) h

pub are_lines-lines_of : (script : List ℕ) → are_lines (lines_of script) ≡ true
are_lines-lines_of [] = refl
are_lines-lines_of (byte ∷ script) =
    elim (byte == 10) as (λ b. (byte == 10) ≡ b → are_lines (cond b (record { bytes = []; ended = true } ∷ lines_of script) (onto_first_line byte (lines_of script))) ≡ true) [
      | true ↦ λ h. are_lines-lines_of script
      | false ↦ λ h. are_lines-onto_first_line byte (lines_of script) h (are_lines-lines_of script)
    ] refl

inner : (byte : ℕ) → is_inner byte ≡ true → (byte == 10) ≡ false
inner byte = elim (byte == 10) as (λ b. not b ≡ true → b ≡ false) [ true ↦ λ h. sym h | false ↦ λ h. refl ]

-- bytes without an LF, and then an LF, are a line that it ends
pub lines_of-ended : (bytes rest : List ℕ) → list_all is_inner bytes ≡ true → lines_of (bytes ++ 10 ∷ rest) ≡ record { bytes = bytes; ended = true } ∷ lines_of rest
lines_of-ended [] rest h = refl
lines_of-ended (byte ∷ bytes) rest h =
    rw (inner byte (first_true _ _ h)) (ap (onto_first_line byte) (lines_of-ended bytes rest (second_true _ _ h)))

-- bytes without an LF, at least one, are a line that the script's end ends
pub lines_of-unended : (bytes : List ℕ) → list_all is_inner bytes ≡ true → 0 < length bytes → lines_of bytes ≡ record { bytes = bytes; ended = false } ∷ []
lines_of-unended [] h some = absurd (omega arith)
lines_of-unended (byte ∷ []) h some = rw (inner byte (first_true _ _ h)) refl
lines_of-unended (byte ∷ other ∷ bytes) h some =
    rw (inner byte (first_true _ _ h)) (ap (onto_first_line byte) (lines_of-unended (other ∷ bytes) (second_true _ _ h) (omega arith)))

pub no_lines : (lines : List Line) → nat_lt (length lines) 1 ≡ true → lines ≡ []
no_lines [] h = refl
no_lines (line ∷ lines) h = absurd (search rules)

pub lines_of-script_of : (lines : List Line) → are_lines lines ≡ true → lines_of (script_of lines) ≡ lines
lines_of-script_of [] h = refl
lines_of-script_of (line ∷ lines) h = cases line.bytes line.ended (lines_of-script_of lines (second_true _ _ h)) h
  where
    cases : (bytes : List ℕ) (ended : Bool) → lines_of (script_of lines) ≡ lines → are_lines (record { bytes = bytes; ended = ended } ∷ lines) ≡ true →
        lines_of ((bytes ++ cond ended (10 ∷ []) []) ++ script_of lines) ≡ record { bytes = bytes; ended = ended } ∷ lines
    cases bytes true same g =
        rw (append_assoc bytes (10 ∷ []) (script_of lines)) (lines_of-ended bytes (script_of lines) (first_true _ _ (first_true _ _ g)) ∙
        ap (λ more. record { bytes = bytes; ended = true } ∷ more) same)
    cases bytes false same g =
        let last : (nat_lt (length lines) 1 && nat_lt 0 (length bytes)) ≡ true = second_true _ _ (first_true _ _ g) in
        let none : lines ≡ [] = no_lines lines (first_true _ _ last) in
        let is_some : nat_lt 0 (length bytes) ≡ true = second_true (nat_lt (length lines) 1) _ last in
        let some : 0 < length bytes = ltb-true 0 (length bytes) is_some in
        rw none (rw (append-nil (bytes ++ []), append-nil bytes) (lines_of-unended bytes (first_true _ _ (first_true _ _ g)) some))

-- whether an LF ended each of the lines
abbrev pub all_ended : List Line → Bool
all_ended = list_all (λ line. line.ended)

filter-all_ended : (lines : List Line) → all_ended lines ≡ true → filter (λ line. line.ended) lines ≡ lines
filter-all_ended [] h = refl
filter-all_ended (line ∷ lines) h =
    let first : line.ended ≡ true = first_true line.ended (all_ended lines) h in
    ap (λ b. cond b (line ∷ filter (λ line. line.ended) lines) (filter (λ line. line.ended) lines)) first
    ∙ ap (λ rest. line ∷ rest) (filter-all_ended lines (second_true line.ended (all_ended lines) h))

-- the lines of whole lines and more are those of both
lines_of-script_of_ended : (lines : List Line) (more : List ℕ) → are_lines lines ≡ true → all_ended lines ≡ true → lines_of (script_of lines ++ more) ≡ lines ++ lines_of more
lines_of-script_of_ended [] more h k = refl
lines_of-script_of_ended (line ∷ lines) more h k =
    cases line.bytes line.ended (lines_of-script_of_ended lines more (second_true _ _ h) (second_true line.ended (all_ended lines) k)) h (first_true line.ended (all_ended lines) k)
  where
    cases : (bytes : List ℕ) (ended : Bool) → lines_of (script_of lines ++ more) ≡ lines ++ lines_of more → are_lines (record { bytes = bytes; ended = ended } ∷ lines) ≡ true →
        ended ≡ true → lines_of (((bytes ++ cond ended (10 ∷ []) []) ++ script_of lines) ++ more) ≡ record { bytes = bytes; ended = ended } ∷ (lines ++ lines_of more)
    cases bytes true same g is =
        ap lines_of (append_assoc (bytes ++ 10 ∷ []) (script_of lines) more ∙ append_assoc bytes (10 ∷ []) (script_of lines ++ more))
        ∙ lines_of-ended bytes (script_of lines ++ more) (first_true _ _ (first_true _ _ g)) ∙ ap (λ rest. record { bytes = bytes; ended = true } ∷ rest) same
    cases bytes false same g is = absurd (cc)

pub lines_of-whole_lines : (front more : List ℕ) → all_ended (lines_of front) ≡ true → lines_of (front ++ more) ≡ lines_of front ++ lines_of more
lines_of-whole_lines front more ended =
    ap (λ bytes. lines_of (bytes ++ more)) (sym (script_of-lines_of front)) ∙ lines_of-script_of_ended (lines_of front) more (are_lines-lines_of front) ended

-- what stands behind whole lines doesn't change them
pub whole_lines-append : (front rest : List ℕ) → all_ended (lines_of front) ≡ true → lines_of (front ++ rest) ≡ lines_of front ++ lines_of rest →
    list_all is_inner rest ≡ true → whole_lines (front ++ rest) ≡ front
whole_lines-append front rest ended cut without =
    ap (λ lines. script_of (filter (λ line. line.ended) lines)) cut
    ∙ ap script_of (filter-append (λ line. line.ended) (lines_of front) (lines_of rest) ∙ ap (λ lines. lines ++ filter (λ line. line.ended) (lines_of rest))
    (filter-all_ended (lines_of front) ended) ∙ ap (λ lines. lines_of front ++ lines) (none rest without) ∙ append-nil (lines_of front))
    ∙ script_of-lines_of front
  where
    none : (bytes : List ℕ) → list_all is_inner bytes ≡ true → filter (λ line. line.ended) (lines_of bytes) ≡ []
    none [] h = refl
    none (byte ∷ bytes) h = ap (filter (λ line. line.ended)) (lines_of-unended (byte ∷ bytes) h (omega arith))
