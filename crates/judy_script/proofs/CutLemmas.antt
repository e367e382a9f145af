-- Cuts of a text at the first place of a byte.
use Rattle.std.proofs.Common.{◌≡◌, ◌≢◌, ℕ, zero, suc, ◌+◌, ◌<◌, ◌≤◌, Bool, true, false, not, ◌&&◌, ◌==◌, List, [], ◌∷◌, ◌++◌, length, take, drop, get_or, refl, sym, ap, ◌∙◌, arith, add-one, drop-cons}
use Rattle.std.proofs.lemmas.List.{take-append-drop, take-take, get_or-take, get_or-drop, drop-drop}
use Rattle.std.proofs.lemmas.List.Folds.{list_all-append}
use Rattle.std.proofs.lemmas.Bool.{eqb-true, and_parts}
use Rattle.std.proofs.Math.Seq.{take-add}
use Rattle.judy_script.specs.Cuts.{is_without}

other_byte : (b : Bool) → b ≢ true → not b ≡ true
other_byte true h = absurd (h refl)
other_byte false h = refl

both : (a b : Bool) → a ≡ true → b ≡ true → (a && b) ≡ true
both true b h k = k
both false b h k = h

-- bytes before the first place of a byte are without it
pub take-is_without : (byte : ℕ) (text : List ℕ) (k : ℕ) → ((j : ℕ) → j < k → (get_or text j 0 == byte) ≢ true) → k ≤ length text → is_without byte (take k text) ≡ true
take-is_without byte [] zero h l = refl
take-is_without byte [] (suc k) h l = absurd (omega arith)
take-is_without byte (x ∷ text) zero h l = refl
take-is_without byte (x ∷ text) (suc k) h l =
    both _ _ (other_byte (x == byte) (h 0 (omega arith))) (take-is_without byte text k (λ j lt. h (suc j) (omega arith)) (omega arith))

-- a text is what stands before a place, the byte there and the rest
pub around_place : (byte : ℕ) (text : List ℕ) (k : ℕ) → k < length text → (get_or text k 0 == byte) ≡ true → text ≡ take k text ++ byte ∷ drop (k + 1) text
around_place byte text k l h =
    let there : get_or text k 0 ≡ byte = eqb-true _ _ h in
    sym (take-append-drop k text) ∙ ap (λ rest. take k text ++ rest) (drop-cons text k 0 l ∙ rw (there, add-one) refl)

-- what a front is without its own front is too
pub front_is_without : (byte : ℕ) (text : List ℕ) (few many : ℕ) → few ≤ many → is_without byte (take many text) ≡ true → is_without byte (take few text) ≡ true
front_is_without byte text few many within front =
    let parts : is_without byte (take many text) ≡ (is_without byte (take few (take many text)) && is_without byte (drop few (take many text))) =
    ap (is_without byte) (sym (take-append-drop few (take many text))) ∙ list_all-append (λ other. not (other == byte)) (take few (take many text)) (drop few (take many text)) in
    ap (is_without byte) (sym (take-take few many text within)) ∙ (and_parts _ _ (sym parts ∙ front)).0

-- what stands at the front of a text and goes on in the rest behind it
module _ (byte : ℕ) (text rest : List ℕ) (count : ℕ) (rest_is : rest ≡ drop count text) where
  pub front_longer : (here : ℕ) → is_without byte (take count text) ≡ true → is_without byte (take here rest) ≡ true → is_without byte (take (count + here) text) ≡ true
  front_longer here front more =
      ap (is_without byte) (take-add count here text ∙ ap (λ t. take count text ++ take here t) (sym rest_is))
      ∙ list_all-append (λ other. not (other == byte)) (take count text) (take here rest) ∙ (λ t. front t && more t)

  pub rest_at : (here : ℕ) → get_or rest here 0 ≡ get_or text (count + here) 0
  rest_at here = ap (λ t. get_or t here 0) rest_is ∙ get_or-drop count text here 0

  pub rest_behind : (here : ℕ) → drop here rest ≡ drop (count + here) text
  rest_behind here = ap (drop here) rest_is ∙ drop-drop here count text

  -- a byte that stands first among the first of the rest
  module _ (size : ℕ) (chunk : List ℕ) (is : chunk ≡ take size rest) (long : size ≤ length rest) (here : ℕ) (first : (at : ℕ) → at < size → at < here → get_or chunk at 0 ≢ byte) where
    pub chunk_without : (some : ℕ) → some ≤ size → some ≤ here → is_without byte (take some rest) ≡ true
    chunk_without some within before =
        take-is_without byte rest some (λ at lt same. first at (omega arith) (omega arith) (ap (λ t. get_or t at 0) is ∙ get_or-take size rest at 0 (omega arith) ∙
        eqb-true (get_or rest at 0) byte same)) (omega arith)

    pub chunk_at : here < size → get_or chunk here 0 ≡ get_or text (count + here) 0
    chunk_at inside = ap (λ t. get_or t here 0) is ∙ get_or-take size rest here 0 inside ∙ rest_at here
