-- Where a key goes at a branch.
use Rattle.std.proofs.Common.{◌≡◌, ℕ, zero, suc, ◌+◌, ◌-◌, ◌*◌, ◌/◌, ◌%◌, ◌^◌, ◌<◌, ◌≤◌, true, false, cond, IsFalse, List, [], ◌∷◌, length, Some, None, slice_get, get_or, Less, is_lt}
use Rattle.std.proofs.Common.{sym, refl, ap, ◌∙◌, subst, arith}
use Rattle.std.proofs.Math.Nat.{add-mul, pow-le-pow_right}
use Rattle.std.proofs.lemmas.Nat.{div-add-mod', mod_below, mul-le}
use Rattle.std.proofs.lemmas.List.Elements.{All-nil, All-cons}
use Rattle.std.proofs.lemmas.Option.{slice_get-get_or}
use Rattle.std.specs.List.{AllByRecursion}
use Rattle.std.specs.List.Sorted.{IsStrictlySortedBy}
use Rattle.judy_model.specs.Keys.{IsByteString, word_order}
use Rattle.judy_model.specs.WordBytes.{number_of}
use Rattle.judy_model.proofs.lemmas.orders.ByteLemmas.{unit_pos, number_of-lt}
use Rattle.judy_model.proofs.lemmas.orders.WordOrder.{less_word}
use Rattle.judy_model.proofs.lemmas.maps.Ascending.{all_from_among}
use Rattle.judy_model.proofs.lemmas.queries.Places.{filter_none}
use Rattle.judy_bits.specs.ByteSets.{IsByteSet, place, has, rank}
use Rattle.judy_bits.proofs.SetLaws.{place-nth}
use Rattle.judy_bits.proofs.SetLemmas.{not_below}
use Rattle.judy_node.specs.Trees.{Tree, AreChildren, IsBranch}
use Rattle.judy_node.specs.Steps.{IsKeyOf}
use Rattle.judy_node.proofs.Maps.{children-few, children-length}

bytes_above : (words width low byte : ℕ) (bytes : List ℕ) (kids : List Tree) → byte < low → AreChildren words width low bytes kids → AllByRecursion (λ other. word_order byte other ≡ Less) bytes
bytes_above words width low byte [] [] below are = tt
bytes_above words width low byte [] (kid ∷ kids) below are = absurd are
bytes_above words width low byte (other ∷ bytes) [] below are = absurd are
bytes_above words width low byte (other ∷ bytes) (kid ∷ kids) below are =
    let first = are.0 in
    (less_word byte other (omega arith), bytes_above words width (other + 1) byte bytes kids (omega arith) are.3)

pub children-ascend : (words width low : ℕ) (bytes : List ℕ) (kids : List Tree) → AreChildren words width low bytes kids → IsStrictlySortedBy word_order bytes
unfolding IsStrictlySortedBy
children-ascend words width low [] [] are = tt
children-ascend words width low [] (kid ∷ kids) are = absurd are
children-ascend words width low (byte ∷ bytes) [] are = absurd are
children-ascend words width low (byte ∷ bytes) (kid ∷ kids) are = (bytes_above words width (byte + 1) byte bytes kids (omega arith) are.3, children-ascend words width (byte + 1) bytes kids are.3)

children-IsByteString : (words width low : ℕ) (bytes : List ℕ) (kids : List Tree) → AreChildren words width low bytes kids → IsByteString bytes
children-IsByteString words width low [] [] are = All-nil (λ byte. byte < 256)
children-IsByteString words width low [] (kid ∷ kids) are = absurd are
children-IsByteString words width low (byte ∷ bytes) [] are = absurd are
children-IsByteString words width low (byte ∷ bytes) (kid ∷ kids) are = All-cons (λ byte. byte < 256) byte bytes are.1 (children-IsByteString words width (byte + 1) bytes kids are.3)

-- The bytes of children are a set.
pub children-IsByteSet : (words width low : ℕ) (bytes : List ℕ) (kids : List Tree) → AreChildren words width low bytes kids → IsByteSet bytes
children-IsByteSet words width low bytes kids are = record { ascending = children-ascend words width low bytes kids are; bytes = children-IsByteString words width low bytes kids are }

-- No byte is below 0.
pub rank_zero : (bytes : List ℕ) → rank bytes 0 ≡ 0
rank_zero bytes =
    ap length (filter_none (λ byte. is_lt (word_order byte 0)) bytes (all_from_among (λ byte. is_lt (word_order byte 0) ≡ false) bytes (λ byte here. not_below byte 0 (omega arith))))

-- Where a child stands for each byte from one on, a byte is its place.
every_byte : (words width low : ℕ) (bytes : List ℕ) (kids : List Tree) (at : ℕ) → AreChildren words width low bytes kids → low + length bytes ≡ 256 → at < length bytes →
    slice_get bytes at ≡ Some (low + at)
every_byte words width low [] kids at are all within = let never : ⊥ = omega arith in absurd never
every_byte words width low (byte ∷ bytes) [] at are all within = absurd are
every_byte words width low (byte ∷ bytes) (kid ∷ kids) zero are all within =
    let first = are.0 in
    let last = are.1 in
    let rest = children-few words width (byte + 1) bytes kids (omega arith) are.3 in
    ap Some (let e : byte ≡ low + 0 = omega arith in e)
every_byte words width low (byte ∷ bytes) (kid ∷ kids) (suc at) are all within =
    let first = are.0 in
    let last = are.1 in
    let rest = children-few words width (byte + 1) bytes kids (omega arith) are.3 in
    every_byte words width (byte + 1) bytes kids at are.3 (omega arith) (omega arith) ∙ ap Some (let e : byte + 1 + at ≡ low + suc at = omega arith in e)

pub place_of_all : (words width : ℕ) (skipped bytes : List ℕ) (kids : List Tree) (count byte : ℕ) → IsBranch words width skipped bytes kids count → length kids ≡ 256 →
    byte < 256 → place bytes byte ≡ Some byte
place_of_all words width skipped bytes kids count byte is all below =
    let are = is.parts.children in
    let long = children-length words width 0 bytes kids are in
    (place-nth bytes byte byte (children-IsByteSet words width 0 bytes kids are)).1
    (every_byte words width 0 bytes kids byte are (omega arith) (omega arith) ∙ ap Some (let e : 0 + byte ≡ byte = omega arith in e))

pub byte_of_all : (words width : ℕ) (skipped bytes : List ℕ) (kids : List Tree) (count at : ℕ) → IsBranch words width skipped bytes kids count → length kids ≡ 256 →
    at < length kids → slice_get bytes at ≡ Some at
byte_of_all words width skipped bytes kids count at is all inside =
    let are = is.parts.children in
    let long = children-length words width 0 bytes kids are in
    every_byte words width 0 bytes kids at are (omega arith) (omega arith) ∙ ap Some (let e : 0 + at ≡ at = omega arith in e)

-- Each child has a byte.
pub byte_there : (words width : ℕ) (skipped bytes : List ℕ) (kids : List Tree) (count at : ℕ) → IsBranch words width skipped bytes kids count → at < length kids →
    slice_get bytes at ≡ Some (get_or bytes at 0)
byte_there words width skipped bytes kids count at is inside =
    let long = children-length words width 0 bytes kids is.parts.children in
    slice_get-get_or bytes at 0 (omega arith)

-- What the skipped bytes come to, in units.
pub block_fits : (skipped : List ℕ) → IsByteString skipped → length skipped ≤ 6 → number_of skipped * 256 < 2 ^ 64
block_fits skipped are short =
    let below = number_of-lt skipped are in
    let most : 256 ^ length skipped ≤ 256 ^ 6 = pow-le-pow_right {n = 256} (omega arith) short in
    omega arith

pub below_block : (key unit block : ℕ) → 0 < unit → key / unit < block → key < block * unit
below_block key unit block some less =
    let split = div-add-mod' key unit in
    let rest = mod_below key unit some in
    let whole : (key / unit + 1) * unit ≤ block * unit = mul-le (key / unit + 1) unit block unit (omega arith) (omega arith) in
    let spread = add-mul (key / unit) 1 unit in
    omega arith

pub key_of : (unit front key byte rest block : ℕ) → 0 < unit → block ≡ key / unit → rest ≡ key % unit → front ≤ block → byte ≡ block - front → byte < 256 → IsKeyOf unit front key byte rest
key_of unit front key byte rest block some is_block is_rest above is_byte below =
    let split = div-add-mod' key unit in
    let sum : front + byte ≡ key / unit = omega arith in
    record { byte_is = below; rest_is = subst (λ n. n < unit) (sym is_rest) (mod_below key unit some); key_is = sym split ∙ (λ t. sym sum t * unit + sym is_rest t) }

-- The same of what a call reads on its way.
pub key_read : (width number key block : ℕ) {w front rest : ℕ} → front ≡ number → w ≡ width → block ≡ key / 256 ^ w → rest ≡ key % 256 ^ w → front * 256 ≤ block → block - front * 256 < 256
    → IsKeyOf (256 ^ width) (number * 256) key (block - front * 256) rest
key_read width number key block is_front is_width is_block is_rest above below =
    let front = ap (λ n. n * 256) is_front in
    key_of (256 ^ width) (number * 256) key _ _ _ (unit_pos width) (is_block ∙ ap (λ w. key / 256 ^ w) is_width) (is_rest ∙ ap (λ w. key % 256 ^ w) is_width)
    (omega arith) (ap (λ n. block - n) front) below

pub absent_place : (members : List ℕ) (byte : ℕ) → place members byte ≡ None → IsFalse (has members byte)
absent_place members byte none =
    elim (has members byte) as (λ b. cond b (Some (rank members byte)) None ≡ None → IsFalse b) [
      | true ↦ λ never. cc
      | false ↦ λ _. refl
    ] none

pub present_place : (words width : ℕ) (bytes : List ℕ) (kids : List Tree) (byte at : ℕ) → AreChildren words width 0 bytes kids → place bytes byte ≡ Some at → slice_get bytes at ≡ Some byte
present_place words width bytes kids byte at are some = (place-nth bytes byte at (children-IsByteSet words width 0 bytes kids are)).0 some
