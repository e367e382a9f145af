-- Sixteen decimal digits as lanes: two in each, and pairs of these.
use Rattle.std.proofs.Common.{◌≡◌, ℕ, ◌+◌, ◌-◌, ◌*◌, ◌/◌, ◌%◌, ◌≤◌, true, List, [], ◌∷◌, length, refl, ◌∙◌, arith}
use Rattle.std.specs.List.{list_all}
use Rattle.std.specs.Char.{is_ascii_digit, digit_value}
use Rattle.std.specs.Str.Parse.{digits_value_after}
use Rattle.std.specs.Simd.Lanes.{zip2}
use Rattle.std.proofs.lemmas.Bool.{and_parts}
use Rattle.judy_command.proofs.DigitLemmas.{least_digit, most_digit, digit_value_is}
use Rattle.std.proofs.lemmas.Simd.{Each2-splat}
use lib.Lanes.{Each1, Each2, number_l}

-- A byte that writes a digit.
record IsDigit (byte : ℕ) : Type 0 where
  least : 48 ≤ byte
  most : byte - 48 ≤ 9
  value : digit_value byte ≡ byte - 48

is_digit : (byte : ℕ) → is_ascii_digit byte ≡ true → IsDigit byte
is_digit byte is =
    let least = least_digit byte is in
    let most = most_digit byte is in
    record { least = least; most = omega arith; value = digit_value_is byte is }

-- Four bytes in front of others.
by_four : (P : List ℕ → Type 0) (n : ℕ)
    → ((a b c d : ℕ) (rest : List ℕ) → IsDigit a → IsDigit b → IsDigit c → IsDigit d → length rest ≡ n → list_all is_ascii_digit rest ≡ true → P (a ∷ b ∷ c ∷ d ∷ rest))
    → (digits : List ℕ) → length digits ≡ n + 4 → list_all is_ascii_digit digits ≡ true → P digits
by_four P n each (a ∷ b ∷ c ∷ d ∷ rest) long digits =
    let one = and_parts (is_ascii_digit a) (list_all is_ascii_digit (b ∷ c ∷ d ∷ rest)) digits in
    let two = and_parts (is_ascii_digit b) (list_all is_ascii_digit (c ∷ d ∷ rest)) one.1 in
    let three = and_parts (is_ascii_digit c) (list_all is_ascii_digit (d ∷ rest)) two.1 in
    let four = and_parts (is_ascii_digit d) (list_all is_ascii_digit rest) three.1 in
    each a b c d rest (is_digit a one.0) (is_digit b two.0) (is_digit c three.0) (is_digit d four.0) (omega arith) four.1
by_four P n each (a ∷ b ∷ c ∷ []) long digits = absurd (omega arith)
by_four P n each (a ∷ b ∷ []) long digits = absurd (omega arith)
by_four P n each (a ∷ []) long digits = absurd (omega arith)
by_four P n each [] long digits = absurd (omega arith)

abbrev zeros : List ℕ
zeros = 48 ∷ 48 ∷ 48 ∷ 48 ∷ 48 ∷ 48 ∷ 48 ∷ 48 ∷ 48 ∷ 48 ∷ 48 ∷ 48 ∷ 48 ∷ 48 ∷ 48 ∷ 48 ∷ []

abbrev number : List ℕ → ℕ
number digits = number_l 256 (zip2 (λ x y. x - y) digits zeros)

-- What a lane of two digits holds at last, and what such a lane and the next give.
abbrev pair : ℕ → ℕ
pair lane = lane * 2561 % 65536 / 256

abbrev four : ℕ → ℕ
four lanes = pair (lanes % 65536) * 100 + pair (lanes / 65536 % 65536) * 1

abbrev behind : ℕ → ℕ
behind lanes = lanes / 65536 / 65536

abbrev packed : ℕ → ℕ → ℕ → ℕ → ℕ → ℕ
packed a b c d rest = a + 256 * (b + 256 * (c + 256 * (d + 256 * rest)))

above : (digits : List ℕ) → list_all is_ascii_digit digits ≡ true → Each1 (λ byte. 48 ≤ byte) digits
above [] are = tt
above (byte ∷ digits) are =
    let both = and_parts (is_ascii_digit byte) (list_all is_ascii_digit digits) are in (least_digit byte both.0, above digits both.1)

at_end : (P : List ℕ → Type 0) → P [] → (rest : List ℕ) → length rest ≡ 0 → P rest
at_end P there [] none = there
at_end P there (byte ∷ rest) none = absurd (omega arith)

pair_is : (a b : ℕ) → a ≤ 9 → b ≤ 9 → pair (a + 256 * b) ≡ a * 10 + b
pair_is a b one two = omega arith

four_is : (a b c d rest : ℕ) → a ≤ 9 → b ≤ 9 → c ≤ 9 → d ≤ 9 → four (packed a b c d rest) ≡ a * 1000 + b * 100 + c * 10 + d
four_is a b c d rest one two three last =
    let front : packed a b c d rest % 65536 ≡ a + 256 * b = omega arith in
    let back : packed a b c d rest / 65536 % 65536 ≡ c + 256 * d = omega arith in
    rw (front, back, pair_is a b one two, pair_is c d three last) (omega arith)

behind_is : (a b c d rest : ℕ) → a ≤ 9 → b ≤ 9 → c ≤ 9 → d ≤ 9 → behind (packed a b c d rest) ≡ rest
behind_is a b c d rest one two three last = omega arith

abbrev value : ℕ → ℕ
value lanes = (four lanes * 10000 + four (behind lanes)) * 100000000 + (four (behind (behind lanes)) * 10000 + four (behind (behind (behind lanes))))

pub above_zeros : (digits : List ℕ) → length digits ≡ 16 → list_all is_ascii_digit digits ≡ true → Each2 (λ x y. y ≤ x) digits zeros
above_zeros digits long are = Each2-splat (λ x y. y ≤ x) digits 16 48 (above digits are)

value_is : (first second third last : ℕ) (w x y z : ℕ)
    → four first ≡ w → behind first ≡ second → four second ≡ x → behind second ≡ third → four third ≡ y → behind third ≡ last → four last ≡ z
    → value first ≡ (w * 10000 + x) * 100000000 + (y * 10000 + z)
value_is first second third last w x y z one two three four five six seven =
    rw (two, four, six, one, three, five, seven) refl

pub sixteen : (digits : List ℕ) → length digits ≡ 16 → list_all is_ascii_digit digits ≡ true → value (number digits) ≡ digits_value_after 10 0 digits
sixteen = by_four (λ digits. value (number digits) ≡ digits_value_after 10 0 digits) 12 (λ a b c d rest xa xb xc xd.
    by_four (λ rest. value (number (a ∷ b ∷ c ∷ d ∷ rest)) ≡ digits_value_after 10 0 (a ∷ b ∷ c ∷ d ∷ rest)) 8 (λ e f g h rest xe xf xg xh.
    by_four (λ rest. value (number (a ∷ b ∷ c ∷ d ∷ e ∷ f ∷ g ∷ h ∷ rest)) ≡ digits_value_after 10 0 (a ∷ b ∷ c ∷ d ∷ e ∷ f ∷ g ∷ h ∷ rest)) 4 (λ i j k l rest xi xj xk xl.
    by_four (λ rest. value (number (a ∷ b ∷ c ∷ d ∷ e ∷ f ∷ g ∷ h ∷ i ∷ j ∷ k ∷ l ∷ rest)) ≡ digits_value_after 10 0 (a ∷ b ∷ c ∷ d ∷ e ∷ f ∷ g ∷ h ∷ i ∷ j ∷ k ∷ l ∷ rest)) 0
    (λ m n o p rest xm xn xo xp none are.
    at_end (λ rest. value (number (a ∷ b ∷ c ∷ d ∷ e ∷ f ∷ g ∷ h ∷ i ∷ j ∷ k ∷ l ∷ m ∷ n ∷ o ∷ p ∷ rest)) ≡
    digits_value_after 10 0 (a ∷ b ∷ c ∷ d ∷ e ∷ f ∷ g ∷ h ∷ i ∷ j ∷ k ∷ l ∷ m ∷ n ∷ o ∷ p ∷ rest))
    (let last = packed (m - 48) (n - 48) (o - 48) (p - 48) 0 in
    let third = packed (i - 48) (j - 48) (k - 48) (l - 48) last in
    let second = packed (e - 48) (f - 48) (g - 48) (h - 48) third in
    let first = packed (a - 48) (b - 48) (c - 48) (d - 48) second in
    value_is first second third last _ _ _ _
    (four_is _ _ _ _ second xa.most xb.most xc.most xd.most) (behind_is _ _ _ _ second xa.most xb.most xc.most xd.most)
    (four_is _ _ _ _ third xe.most xf.most xg.most xh.most) (behind_is _ _ _ _ third xe.most xf.most xg.most xh.most)
    (four_is _ _ _ _ last xi.most xj.most xk.most xl.most) (behind_is _ _ _ _ last xi.most xj.most xk.most xl.most)
    (four_is _ _ _ _ 0 xm.most xn.most xo.most xp.most)
    ∙ rw (xa.value, xb.value, xc.value, xd.value, xe.value, xf.value, xg.value, xh.value, xi.value, xj.value, xk.value, xl.value, xm.value, xn.value, xo.value, xp.value) (omega arith))
    rest none) rest) rest) rest)
