-- Shifts by whole bytes.
use Rattle.std.proofs.Common.{◌≡◌, ℕ, zero, suc, ◌+◌, ◌*◌, ◌/◌, ◌%◌, ◌^◌, ◌<◌, ◌≤◌, refl, ap, sym, ◌∙◌, arith}
use Rattle.std.proofs.Math.Nat.{pow-suc, div-div-eq-div-mul, mul_assoc, mod-eq_of_lt, le-mul_of_pos_right}
use Rattle.std.proofs.lemmas.Nat.{pow-add, pow_pos}

-- Eight binary digits are one byte.
pub byte_digits : (count : ℕ) → 2 ^ (8 * count) ≡ 256 ^ count
byte_digits zero = refl
byte_digits (suc count) =
    let more : 8 * suc count ≡ 8 * count + 8 = omega arith in
    ap (λ n. 2 ^ n) more ∙ pow-add 2 (8 * count) 8 ∙ ap (λ n. n * 256) (byte_digits count) ∙ sym (pow-suc 256 count)

-- Two shifts by half of the bits.
pub shifted_twice : (word width : ℕ) → word / 2 ^ (4 * width) / 2 ^ (4 * width) ≡ word / 256 ^ width
shifted_twice word width =
    let both : 4 * width + 4 * width ≡ 8 * width = omega arith in
    div-div-eq-div-mul word (2 ^ (4 * width)) (2 ^ (4 * width)) ∙ ap (λ unit. word / unit) (sym (pow-add 2 (4 * width) (4 * width)) ∙ ap (λ n. 2 ^ n) both ∙ byte_digits width)

-- Two shifts up by half of the bits, where nothing is lost.
pub moved_twice : (word width : ℕ) → word * 256 ^ width < 2 ^ 64 → word * 2 ^ (4 * width) % 2 ^ 64 * 2 ^ (4 * width) % 2 ^ 64 ≡ word * 256 ^ width
moved_twice word width within =
    let half = 2 ^ (4 * width) in
    let both : word * half * half ≡ word * 256 ^ width =
    mul_assoc word half half ∙ ap (λ unit. word * unit) (sym (pow-add 2 (4 * width) (4 * width)) ∙ ap (λ n. 2 ^ n) (let e : 4 * width + 4 * width ≡ 8 * width = omega arith in e) ∙
    byte_digits width) in
    let most : word * half ≤ word * half * half = le-mul_of_pos_right (word * half) (pow_pos (4 * width)) in
    let first : word * half % 2 ^ 64 ≡ word * half = mod-eq_of_lt (omega arith) in
    ap (λ n. n * half % 2 ^ 64) first ∙ mod-eq_of_lt (omega arith) ∙ both
