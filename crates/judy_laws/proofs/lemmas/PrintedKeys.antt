-- A key is printed as it stands where each of its bytes is a sign.
use Rattle.std.proofs.Common.{◌≡◌, ℕ, ◌<◌, ◌≤◌, ◌⊎◌, Bool, true, false, cond, ◌&&◌, List, [], ◌∷◌, ◌++◌, refl, ap, ◌∙◌, ⊎_elim, arith, All}
use Rattle.std.specs.List.{list_all}
use Rattle.std.proofs.lemmas.Bool.{le-leb, leb-true, false_from_ne_true}
use Rattle.std.proofs.lemmas.List.Sums.{list_all-from_AllPass}
use Rattle.judy_model.specs.KeyTokens.{is_shown, digits_of, printed_key}
use Rattle.judy_model.proofs.lemmas.maps.Tests.{both_true, first_true, second_true}

shown : (byte : ℕ) → (33 ≤ byte) × (byte ≤ 126) → is_shown byte ≡ true
shown byte sign = both_true _ _ (le-leb 33 byte sign.0) (le-leb byte 126 sign.1)

hidden : (byte : ℕ) → (byte < 33) ⊎ (126 < byte) → is_shown byte ≡ false
hidden byte other = false_from_ne_true (is_shown byte) (λ is.
    let low : 33 ≤ byte = leb-true 33 byte (first_true _ _ is) in
    let high : byte ≤ 126 = leb-true byte 126 (second_true _ _ is) in
    ⊎_elim (λ below. let h : byte < 33 = below in omega arith) (λ above. let h : 126 < byte = above in omega arith) other)

pub printed-signs : (key : List ℕ) → All (λ byte. (33 ≤ byte) × (byte ≤ 126)) key → printed_key key ≡ 61 ∷ key
printed-signs key signs =
    ap (λ b. cond b (61 ∷ key) (35 ∷ digits_of key)) (list_all-from_AllPass is_shown key (λ k d within. shown _ (signs k d within)))

one_hidden : (front later : List ℕ) (byte : ℕ) → is_shown byte ≡ false → list_all is_shown (front ++ byte ∷ later) ≡ false
one_hidden [] later byte is = ap (λ b. b && list_all is_shown later) is
one_hidden (first ∷ front) later byte is =
    ap (λ b. is_shown first && b) (one_hidden front later byte is) ∙ and_false (is_shown first)
  where
    and_false : (b : Bool) → (b && false) ≡ false
    and_false true = refl
    and_false false = refl

pub printed-digits : (front later : List ℕ) (byte : ℕ) → (byte < 33) ⊎ (126 < byte) → printed_key (front ++ byte ∷ later) ≡ 35 ∷ digits_of (front ++ byte ∷ later)
printed-digits front later byte other =
    let key = front ++ byte ∷ later in
    ap (λ b. cond b (61 ∷ key) (35 ∷ digits_of key)) (one_hidden front later byte (hidden byte other))
