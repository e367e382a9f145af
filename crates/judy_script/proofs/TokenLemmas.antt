-- The tokens of a text by its first space.
use Rattle.std.proofs.Common.{◌≡◌, ◌≢◌, ℕ, ◌<◌, Bool, true, false, cond, not, ◌&&◌, ◌==◌, nat_lt, List, [], ◌∷◌, ◌++◌, length, Option, Some, None, refl, sym, ap, arith, take, drop}
use Rattle.std.proofs.Common.{get_or, zero, suc, ◌∙◌, ◌≤◌}
use Rattle.std.specs.Prelude.{filter, unwrap_or}
use Rattle.std.specs.List.{slice_split, onto_first}
use Rattle.std.proofs.Common.{◌+◌, add-one, drop-cons}
use Rattle.std.proofs.Math.Seq.{take-length, drop-length}
use Rattle.std.proofs.lemmas.List.{length-take-le}
use Rattle.std.proofs.lemmas.Bool.{lt-ltb, ltb-true, ltb-false}
use Rattle.judy_model.specs.Tokens.{tokens_of}
use Rattle.judy_script.proofs.CutLemmas.{around_place}
use Rattle.judy_script.specs.Cuts.{is_without, IsCutAt}

first_of_both : (a b : Bool) → (a && b) ≡ true → a ≡ true
first_of_both true b h = refl
first_of_both false b h = h

second_of_both : (a b : Bool) → (a && b) ≡ true → b ≡ true
second_of_both true b h = h
second_of_both false b h = cc

not_true : (b : Bool) → not b ≡ true → b ≡ false
not_true true h = sym h
not_true false h = refl

slice_split-at : (byte : ℕ) (front rest : List ℕ) → is_without byte front ≡ true → (byte == byte) ≡ true →
    slice_split (λ b. b == byte) (front ++ byte ∷ rest) ≡ front ∷ slice_split (λ b. b == byte) rest
slice_split-at byte [] rest h same = rw same refl
slice_split-at byte (x ∷ front) rest h same =
    rw (not_true (x == byte) (first_of_both _ _ h)) (ap (onto_first x) (slice_split-at byte front rest (second_of_both _ _ h) same))

slice_split-none : (byte : ℕ) (front : List ℕ) → is_without byte front ≡ true → slice_split (λ b. b == byte) front ≡ front ∷ []
slice_split-none byte [] h = refl
slice_split-none byte (x ∷ front) h =
    rw (not_true (x == byte) (first_of_both _ _ h)) (ap (onto_first x) (slice_split-none byte front (second_of_both _ _ h)))

-- the piece before the first space, if it is a token, and the tokens of the rest
abbrev pub tokens_from : List ℕ → Option (List ℕ) → List (List ℕ)
tokens_from piece after =
    let others = tokens_of (unwrap_or after []) in cond (nat_lt 0 (length piece)) (piece ∷ others) others

pub tokens_of-cut : (text piece : List ℕ) (after : Option (List ℕ)) → IsCutAt 32 text piece after → tokens_of text ≡ tokens_from piece after
tokens_of-cut text piece None h =
    rw h.0 (ap (filter (λ token. nat_lt 0 (length token))) (slice_split-none 32 piece h.1))
tokens_of-cut text piece (Some rest) h =
    rw h.0 (ap (filter (λ token. nat_lt 0 (length token))) (slice_split-at 32 piece rest h.1 refl))

-- what stands before the first space of a text that begins with none is its first token
pub tokens_of-front : (text : List ℕ) (count : ℕ) → 0 < count → count ≤ length text → is_without 32 (take count text) ≡ true
    → (count < length text → get_or text count 0 ≡ 32) → tokens_of text ≡ take count text ∷ tokens_of (drop count text)
tokens_of-front text count some within front end =
    elim (nat_lt count (length text)) as (λ b. nat_lt count (length text) ≡ b → tokens_of text ≡ take count text ∷ tokens_of (drop count text)) [
      | true ↦ λ inside. to_space (ltb-true count (length text) inside)
      | false ↦ λ outside. to_end (omega (arith, ltb-false count (length text) outside))
    ] refl
  where
    is_token : nat_lt 0 (length (take count text)) ≡ true
    is_token = lt-ltb 0 (length (take count text)) (omega (arith, length-take-le count text within))

    to_space : count < length text → tokens_of text ≡ take count text ∷ tokens_of (drop count text)
    to_space inside =
        let there : get_or text count 0 ≡ 32 = end inside in
        let space : (get_or text count 0 == 32) ≡ true = rw there refl in
        let rest : drop count text ≡ 32 ∷ drop (count + 1) text = drop-cons text count 0 inside ∙ rw (there, add-one) refl in
        tokens_of-cut text (take count text) (Some (drop (count + 1) text)) (around_place 32 text count inside space, front) ∙ rw (is_token, rest) refl

    to_end : count ≡ length text → tokens_of text ≡ take count text ∷ tokens_of (drop count text)
    to_end all =
        let whole : take count text ≡ text = ap (λ n. take n text) all ∙ take-length text in
        let none : drop count text ≡ [] = ap (λ n. drop n text) all ∙ drop-length text in
        tokens_of-cut text (take count text) None (sym whole, front) ∙ rw (is_token, none) refl

-- a text that begins with no space has a byte before its first space
pub token_begins : (text : List ℕ) (count : ℕ) → get_or text 0 0 ≢ 32 → 0 < length text → (count < length text → get_or text count 0 ≡ 32) → 0 < count
token_begins text zero first some end = absurd (first (end some))
token_begins text (suc count) first some end = omega arith
