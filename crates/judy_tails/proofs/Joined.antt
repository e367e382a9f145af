-- The first bytes of one word and the last of another: as one number has them, and where they are written over the other.
use Rattle.std.proofs.Common.{◌≡◌, ℕ, zero, suc, ◌+◌, ◌-◌, ◌*◌, ◌<◌, ◌≤◌, ◌/◌, ◌%◌, ◌^◌, List, ◌∷◌, ◌++◌, length, take, drop, sym, refl, ap, ◌∙◌, subst, arith}
use borrow.Rule.Slice.PartMut.{put_mid}
use Rattle.std.specs.Int.{to_be_bytes, w64}
use Rattle.std.specs.Int.Bits.{bit_and}
use Rattle.std.proofs.Math.Nat.{div-div-eq-div-mul, div-lt_iff_lt-mul, mul_comm}
use Rattle.std.proofs.lemmas.List.{take-append-drop, drop-append-le, append_assoc, length-take-le, length-drop}
use Rattle.std.proofs.lemmas.Nat.{and_mask, one_shl, mul-add-lt, pow-add, div-mul-add, div-add-mod', mod_below}
use Rattle.judy_model.specs.WordBytes.{low_bytes}
use Rattle.judy_records.proofs.BackLemmas.{be-low_bytes}
use Rattle.judy_tails.proofs.LastBytes.{bytes-bits}
use Rattle.judy_model.proofs.lemmas.orders.ByteLemmas.{unit_pos, low_bytes-above}

-- Of the lowest bytes of a number, the first and the others.
take-high : (width total number : ℕ) → width ≤ total → take width (low_bytes total number) ≡ low_bytes width (number / 256 ^ (total - width))
take-high zero total number within = refl
take-high (suc width) zero number within = absurd (omega (arith, within))
take-high (suc width) (suc total) number within =
    let behind = total - width in
    let same : suc total - suc width ≡ behind = omega arith in
    let unit : 256 ^ total ≡ 256 ^ behind * 256 ^ width = ap (λ n. 256 ^ n) (let e : total ≡ behind + width = omega (arith, within) in e) ∙ pow-add 256 behind width in
    let digit = ap (λ u. number / u % 256) unit ∙ ap (λ n. n % 256) (sym (div-div-eq-div-mul number (256 ^ behind) (256 ^ width))) in
    let all : take (suc width) (low_bytes (suc total) number) ≡ low_bytes (suc width) (number / 256 ^ behind) = (λ t. digit t ∷ take-high width total number (omega (arith, within)) t) in
    all ∙ ap (λ n. low_bytes (suc width) (number / 256 ^ n)) (sym same)

drop-low : (width total number : ℕ) → width ≤ total → drop width (low_bytes total number) ≡ low_bytes (total - width) number
drop-low zero total number within = ap (λ n. low_bytes n number) (let e : total ≡ total - 0 = omega arith in e)
drop-low (suc width) zero number within = absurd (omega (arith, within))
drop-low (suc width) (suc total) number within =
    drop-low width total number (omega (arith, within)) ∙ ap (λ n. low_bytes n number) (let e : total - width ≡ suc total - suc width = omega arith in e)

low-rest : (width number : ℕ) → low_bytes width (number % 256 ^ width) ≡ low_bytes width number
low-rest width number =
    sym (low_bytes-above width (number / 256 ^ width) (number % 256 ^ width)) ∙ ap (low_bytes width) (div-add-mod' number (256 ^ width))

-- A number that has the one above its lowest bytes, and these of the other.
mixed : (width total word other : ℕ) → width ≤ total → low_bytes total (word / 256 ^ (total - width) * 256 ^ (total - width) + other % 256 ^ (total - width)) ≡
    take width (low_bytes total word) ++ drop width (low_bytes total other)
mixed width total word other within =
    let behind = total - width in
    let unit = 256 ^ behind in
    let number = word / unit * unit + other % unit in
    let high = take-high width total number within ∙ ap (low_bytes width) (div-mul-add (word / unit) unit (other % unit) (mod_below other unit (unit_pos behind))) ∙
    sym (take-high width total word within) in
    let low = drop-low width total number within ∙ low_bytes-above behind (word / unit) (other % unit) ∙ low-rest behind other ∙ sym (drop-low width total other within) in
    sym (take-append-drop width (low_bytes total number)) ∙ (λ t. high t ++ low t)

module _ (count word other mask : ℕ) (few : count ≤ 8) (mask_is : mask ≡ 2 ^ (64 - 8 * count) - 1) where
  masked : (n : ℕ) → bit_and n mask ≡ n % 256 ^ (8 - count)
  masked n =
      ap (bit_and n) mask_is ∙ and_mask n (64 - 8 * count) ∙ ap (λ u. n % u) (ap (λ k. 2 ^ k) (let e : 64 - 8 * count ≡ 8 * (8 - count) = omega (arith, few) in e) ∙ sym (bytes-bits (8 - count)))

  -- By a mask it is this number.
  pub joined-is : word - bit_and word mask + bit_and other mask ≡ word / 256 ^ (8 - count) * 256 ^ (8 - count) + other % 256 ^ (8 - count)
  joined-is =
      let whole = div-add-mod' word (256 ^ (8 - count)) in
      let left = masked word in
      let right = masked other in
      omega (arith, whole, left, right)

  pub joined-fits : word < 2 ^ 64 → word - bit_and word mask + bit_and other mask < 2 ^ 64
  joined-fits fits =
      let unit = 256 ^ (8 - count) in
      let whole : 256 ^ count * unit ≡ 2 ^ 64 = sym (pow-add 256 count (8 - count)) ∙ ap (λ n. 256 ^ n) (let e : count + (8 - count) ≡ 8 = omega (arith, few) in e) in
      let less : word / unit < 256 ^ count = (div-lt_iff_lt-mul (unit_pos (8 - count))).1 (subst (λ n. word < n) (sym whole) fits) in
      subst (λ n. n < 2 ^ 64) (sym joined-is) (subst (λ n. word / unit * unit + other % unit < n) (mul_comm unit (256 ^ count) ∙ whole)
      (mul-add-lt (word / unit) unit (other % unit) (256 ^ count) less (mod_below other unit (unit_pos (8 - count)))))

  pub joined-bytes : to_be_bytes w64 (word - bit_and word mask + bit_and other mask) ≡ take count (to_be_bytes w64 word) ++ drop count (to_be_bytes w64 other)
  joined-bytes =
      ap (to_be_bytes w64) joined-is
      ∙ be-low_bytes (word / 256 ^ (8 - count) * 256 ^ (8 - count) + other % 256 ^ (8 - count))
      ∙ mixed count 8 word other few
      ∙ sym (λ t. take count (be-low_bytes word t) ++ drop count (be-low_bytes other t))

-- The mask of the bytes behind the first ones, of which there are some.
pub mask-is : (count : ℕ) → 0 < count → 1 * 2 ^ (64 - 8 * count) % 2 ^ 64 - 1 ≡ 2 ^ (64 - 8 * count) - 1
mask-is count some = ap (λ n. n - 1) (one_shl (64 - 8 * count) 64 (omega (arith, some)))

-- Where they are written over the others, those that stand behind the first ones stay.
pub put-first : (len count : ℕ) (all stand first both : List ℕ) → count ≤ 8 → len + 8 ≤ length all → stand ≡ take 8 (drop len all) → both ≡ first ++ drop count stand →
    put_mid len (len + 8 - len) all both ≡ put_mid len count all first
put-first len count all stand first both few room stands are =
    let left = drop len all in
    let more = length-drop len all in
    let eight = length-take-le 8 left (omega (arith, more, room)) in
    let eights : len + 8 - len ≡ 8 = omega arith in
    let behind : drop count stand ++ drop (len + 8 - len) left ≡ drop count left =
    (λ t. drop count (stands t) ++ drop (eights t) left) ∙ sym (drop-append-le count (take 8 left) (drop 8 left) (omega (arith, few, eight))) ∙ ap (drop count) (take-append-drop 8 left) in
    (λ t. take len all ++ (are t ++ drop (len + 8 - len) left)) ∙ ap (λ (rest : List ℕ). take len all ++ rest)
    (append_assoc first (drop count stand) (drop (len + 8 - len) left) ∙ ap (λ (rest : List ℕ). first ++ rest) behind)
