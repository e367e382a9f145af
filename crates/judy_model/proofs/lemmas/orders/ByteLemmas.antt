-- Words and their bytes.
use Rattle.std.proofs.Common.{◌≡◌, ℕ, zero, suc, ◌+◌, ◌-◌, ◌*◌, ◌/◌, ◌%◌, ◌^◌, ◌<◌, List, [], ◌∷◌, length, sym, refl, ap, ◌∙◌, subst, ⊎_elim, arith, Ordering, Less, Equal, Greater, nat_cmp}
use Rattle.std.specs.Cmp.{nat_cmp_is, nat_cmp_total, tied_itself}
use Rattle.std.specs.Ordering.{ordering_then}
use Rattle.std.proofs.Math.Arith.{mod-mul}
use Rattle.std.proofs.Math.Nat.{mul-div-le, div-lt_iff_lt-mul, add_comm, mul_assoc, add-mul-div_right, add-mul-mod_self_right, pow-suc, pow-succ', mod-eq_of_lt}
use Rattle.std.proofs.lemmas.Nat.{div-mul-add, div-add-mod', mul-add-lt, mod_below}
use Rattle.std.proofs.lemmas.List.Elements.{All-head, All-tail}
use Rattle.std.proofs.lemmas.Bool.{cases_order}
use Rattle.judy_model.specs.Keys.{IsByteString, word_order, byte_order}
use Rattle.judy_model.specs.WordBytes.{byte_of, low_bytes, number_of}

pub unit_pos : (width : ℕ) → 0 < 256 ^ width
unit_pos zero = omega arith
unit_pos (suc width) = omega (arith, pow-suc 256 width, unit_pos width)

-- The rest of a word that is one byte longer.
pub mod-one_more : (word width : ℕ) → word % 256 ^ suc width ≡ (word / 256 ^ width % 256) * 256 ^ width + word % 256 ^ width
mod-one_more word width = ap (λ unit. word % unit) (pow-succ' 256 width) ∙ mod-mul word (omega arith) (unit_pos width)

pub length-low_bytes : (width word : ℕ) → length (low_bytes width word) ≡ width
length-low_bytes zero word = refl
length-low_bytes (suc width) word = ap suc (length-low_bytes width word)

pub number_of-low_bytes : (width word : ℕ) → number_of (low_bytes width word) ≡ word % 256 ^ width
number_of-low_bytes zero word = omega arith
number_of-low_bytes (suc width) word =
    (λ t. (word / 256 ^ width % 256) * 256 ^ length-low_bytes width word t + number_of-low_bytes width word t) ∙ sym (mod-one_more word width)

-- Bytes spell a number that has no more bytes than they are.
pub number_of-lt : (bytes : List ℕ) → IsByteString bytes → number_of bytes < 256 ^ length bytes
number_of-lt [] are = omega arith
number_of-lt (byte ∷ bytes) are =
    let rest = number_of-lt bytes (All-tail (λ b. b < 256) byte bytes are) in
    let here : byte * 256 ^ length bytes + number_of bytes < 256 ^ length bytes * 256 = mul-add-lt byte (256 ^ length bytes) (number_of bytes) 256 (All-head (λ b. b < 256) byte bytes are) rest in
    subst (λ bound. byte * 256 ^ length bytes + number_of bytes < bound) (sym (pow-suc 256 (length bytes))) here

-- What stands above the lowest bytes leaves these.
pub low_bytes-above : (width high low : ℕ) → low_bytes width (high * 256 ^ width + low) ≡ low_bytes width low
low_bytes-above zero high low = refl
low_bytes-above (suc width) high low =
    let unit = 256 ^ width in
    let moved : high * 256 ^ suc width + low ≡ (high * 256) * unit + low =
    ap (λ n. n + low) (ap (λ n. high * n) (pow-succ' 256 width) ∙ sym (mul_assoc high 256 unit)) in
    let digit : (high * 256 ^ suc width + low) / unit % 256 ≡ low / unit % 256 =
    ap (λ n. n / unit % 256) (moved ∙ add_comm ((high * 256) * unit) low)
    ∙ ap (λ n. n % 256) (add-mul-div_right low (high * 256) (unit_pos width))
    ∙ add-mul-mod_self_right (low / unit) high 256 in
    let rest : low_bytes width (high * 256 ^ suc width + low) ≡ low_bytes width low = ap (low_bytes width) moved ∙ low_bytes-above width (high * 256) low in
    λ t. digit t ∷ rest t

-- The bytes of the number that bytes spell are these.
pub low_bytes-number_of : (bytes : List ℕ) → IsByteString bytes → low_bytes (length bytes) (number_of bytes) ≡ bytes
low_bytes-number_of [] are = refl
low_bytes-number_of (byte ∷ bytes) are =
    let later = All-tail (λ b. b < 256) byte bytes are in
    let digit : number_of (byte ∷ bytes) / 256 ^ length bytes % 256 ≡ byte =
    ap (λ n. n % 256) (div-mul-add byte (256 ^ length bytes) (number_of bytes) (number_of-lt bytes later)) ∙ mod-eq_of_lt (All-head (λ b. b < 256) byte bytes are) in
    let rest : low_bytes (length bytes) (number_of (byte ∷ bytes)) ≡ bytes = low_bytes-above (length bytes) byte (number_of bytes) ∙ low_bytes-number_of bytes later in
    λ t. digit t ∷ rest t

-- The bytes of a number are those of its rest.
low_bytes-rest : (width word : ℕ) → low_bytes width word ≡ low_bytes width (word % 256 ^ width)
low_bytes-rest width word = ap (low_bytes width) (sym (div-add-mod' word (256 ^ width))) ∙ low_bytes-above width (word / 256 ^ width) (word % 256 ^ width)

-- A number whose higher bytes are less is less.
less_high : (unit left right : ℕ) → 0 < unit → left / unit < right / unit → left < right
less_high unit left right some above =
    let split = div-add-mod' left unit in
    let rest : left % unit < unit = mod_below left unit some in
    let here : left / unit * unit + left % unit < unit * (right / unit) = mul-add-lt (left / unit) unit (left % unit) (right / unit) above rest in
    let within = mul-div-le right unit in
    omega arith

-- The same numbers above, and the rests decide.
same_high : (unit left right : ℕ) → left / unit ≡ right / unit → nat_cmp left right ≡ nat_cmp (left % unit) (right % unit)
same_high unit left right same =
    let left_is = div-add-mod' left unit in
    let right_is = div-add-mod' right unit in
    let one : left / unit * unit ≡ right / unit * unit = ap (λ n. n * unit) same in
    ⊎_elim
    (λ e. let both : left ≡ right = omega arith in sym (nat_cmp_is left right Equal both) ∙ nat_cmp_is (left % unit) (right % unit) Equal e)
    (λ apart. ⊎_elim
    (λ less. sym (nat_cmp_is left right Less (omega arith)) ∙ nat_cmp_is (left % unit) (right % unit) Less less)
    (λ more. sym (nat_cmp_is left right Greater (omega arith)) ∙ nat_cmp_is (left % unit) (right % unit) Greater more)
    apart)
    (cases_order (left % unit) (right % unit))

-- The first byte of two numbers decides, and where it is one, the rests do.
by_first : (unit left right : ℕ) (later : Ordering) → 0 < unit → (left / unit ≡ right / unit → nat_cmp (left % unit) (right % unit) ≡ later)
    → nat_cmp left right ≡ ordering_then (nat_cmp (left / unit) (right / unit)) later
by_first unit left right later some decides = ⊎_elim
    (λ same. same_high unit left right same ∙ decides same ∙ ap (λ answer. ordering_then answer later) (nat_cmp_is (left / unit) (right / unit) Equal same))
    (λ apart. ⊎_elim
    (λ less. sym (nat_cmp_is left right Less (less_high unit left right some less)) ∙ ap (λ answer. ordering_then answer later) (nat_cmp_is (left / unit) (right / unit) Less less))
    (λ more. sym (nat_cmp_is left right Greater (less_high unit right left some more)) ∙ ap (λ answer. ordering_then answer later) (nat_cmp_is (left / unit) (right / unit) Greater more))
    apart)
    (cases_order (left / unit) (right / unit))

-- The first byte of a number of one byte more than a width is all that stands above the width.
first_byte : (width word : ℕ) → word < 256 ^ suc width → word / 256 ^ width % 256 ≡ word / 256 ^ width
first_byte width word below = mod-eq_of_lt ((div-lt_iff_lt-mul (unit_pos width)).1 (subst (λ bound. word < bound) (pow-succ' 256 width) below))

-- Two numbers of a width compare as their bytes do.
pub order-low_bytes : (width left right : ℕ) → left < 256 ^ width → right < 256 ^ width → word_order left right ≡ byte_order (low_bytes width left) (low_bytes width right)
order-low_bytes zero left right p q = ap (λ n. nat_cmp n right) (let e : left ≡ right = omega arith in e) ∙ tied_itself nat_cmp_total right
order-low_bytes (suc width) left right p q =
    let unit = 256 ^ width in
    let rests : nat_cmp (left % unit) (right % unit) ≡ byte_order (low_bytes width left) (low_bytes width right) =
    order-low_bytes width (left % unit) (right % unit) (mod_below left unit (unit_pos width)) (mod_below right unit (unit_pos width))
    ∙ (λ t. byte_order (sym (low_bytes-rest width left) t) (sym (low_bytes-rest width right) t)) in
    by_first unit left right (byte_order (low_bytes width left) (low_bytes width right)) (unit_pos width) (λ _. rests)
    ∙ (λ t. ordering_then (nat_cmp (sym (first_byte width left p) t) (sym (first_byte width right q) t)) (byte_order (low_bytes width left) (low_bytes width right)))

-- The byte at a place, and what stands below it.
pub mod-byte_of : (word width : ℕ) → width < 8 → word % 256 ^ (width + 1) ≡ byte_of word (7 - width) * 256 ^ width + word % 256 ^ width
mod-byte_of word width within =
    let one : width + 1 ≡ suc width = omega arith in
    let back : width ≡ 7 - (7 - width) = omega arith in
    ap (λ n. word % 256 ^ n) one ∙ mod-one_more word width ∙ ap (λ n. (word / 256 ^ n % 256) * 256 ^ width + word % 256 ^ width) back
