-- Whether no byte is zero, of bytes that are compared many at once.
use Rattle.std.proofs.Common.{◌≡◌, ℕ, zero, suc, ◌+◌, ◌-◌, ◌*◌, ◌<◌, ◌≤◌, ◌==◌, ◌&&◌, Bool, true, false, cond, not, nat_eq, List, [], ◌∷◌, map, take, drop, get_or, refl, sym, ap, ◌∙◌, arith, ne_eqb}
use Rattle.std.specs.List.{list_all}
use Rattle.std.proofs.Math.Seq.{take-add}
use Rattle.std.proofs.lemmas.List.{take-append-drop, drop-drop}
use Rattle.std.proofs.lemmas.List.Folds.{list_all-append}
use Rattle.std.specs.Simd.{first_chunks}
use lib.Lanes.{mask_l}

abbrev pub are : List ℕ → Bool
are = list_all (λ byte. not (byte == 0))

-- An even number is zero where its half is.
half : (n : ℕ) → nat_eq (0 + 2 * n) 0 ≡ nat_eq n 0
half zero = refl
half (suc n) = ne_eqb (0 + 2 * suc n) 0 (λ e. omega arith) ∙ sym (ne_eqb (suc n) 0 (λ e. omega arith))

-- A comparison with zero sets no bit where no byte is zero.
pub no_bit : (bytes : List ℕ) → nat_eq (mask_l (map (λ byte. nat_eq byte 0) bytes)) 0 ≡ are bytes
no_bit [] = refl
no_bit (byte ∷ bytes) =
    elim (nat_eq byte 0) as (λ b. nat_eq (cond b 1 0 + 2 * mask_l (map (λ byte. nat_eq byte 0) bytes)) 0 ≡ (not b && are bytes)) [
      | true ↦ ne_eqb (1 + 2 * mask_l (map (λ byte. nat_eq byte 0) bytes)) 0 (λ e. omega arith)
      | false ↦ half (mask_l (map (λ byte. nat_eq byte 0) bytes)) ∙ no_bit bytes
    ]

both : (front middle back : Bool) → ((front && middle) && (middle && back)) ≡ ((front && middle) && back)
both true true back = refl
both true false back = refl
both false middle back = refl

parts : (count : ℕ) (bytes : List ℕ) → are bytes ≡ (are (take count bytes) && are (drop count bytes))
parts count bytes = ap are (sym (take-append-drop count bytes)) ∙ list_all-append (λ byte. not (byte == 0)) (take count bytes) (drop count bytes)

-- Some more bytes behind those that were tested.
pub more : (front count : ℕ) (bytes : List ℕ) → (are (take front bytes) && are (take count (drop front bytes))) ≡ are (take (front + count) bytes)
more front count bytes = sym (ap are (take-add front count bytes) ∙ list_all-append (λ byte. not (byte == 0)) (take front bytes) (take count (drop front bytes)))

-- All bytes are tested where those before a place are and those from another one on that isn't behind it.
pub overlapping : (front back : ℕ) (bytes : List ℕ) → back ≤ front → (are (take front bytes) && are (drop back bytes)) ≡ are bytes
overlapping front back bytes within =
    let middle = front - back in
    let e : back + middle ≡ front = omega arith in
    let whole = parts front bytes in
    let first : are (take front bytes) ≡ (are (take back bytes) && are (take middle (drop back bytes))) = ap (λ n. are (take n bytes)) (sym e) ∙ sym (more back middle bytes) in
    let last : are (drop back bytes) ≡ (are (take middle (drop back bytes)) && are (drop front bytes)) =
    parts middle (drop back bytes) ∙ ap (λ rest. are (take middle (drop back bytes)) && are rest) (drop-drop middle back bytes ∙ ap (λ n. drop n bytes) e) in
    (λ i. first i && last i)
    ∙ both (are (take back bytes)) (are (take middle (drop back bytes))) (are (drop front bytes))
    ∙ ap (λ b. b && are (drop front bytes)) (sym first)
    ∙ sym whole

-- A chunk has sixteen of the bytes.
pub chunk_is : (i count : ℕ) (bytes : List ℕ) → i < count → get_or (first_chunks 16 count bytes) i [] ≡ take 16 (drop (16 * i) bytes)
chunk_is i zero bytes inside = absurd (omega arith)
chunk_is zero (suc count) bytes inside = refl
chunk_is (suc i) (suc count) bytes inside =
    let e : 16 + 16 * i ≡ 16 * suc i = omega arith in
    chunk_is i count (drop 16 bytes) (omega arith) ∙ ap (take 16) (drop-drop (16 * i) 16 bytes ∙ ap (λ n. drop n bytes) e)
