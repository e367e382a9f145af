-- The bytes of pieces: the pieces of a text spell it.
use Rattle.std.proofs.Common.{◌≡◌, ◌≢◌, ◌==◌, Bool, ◌&&◌, not, true, false, ℕ, zero, suc, ◌+◌, ◌*◌, ◌/◌, ◌%◌, ◌^◌, ◌<◌, cond, nat_lt, inl, inr, List, [], ◌∷◌, ◌++◌, length, take}
use Rattle.std.proofs.Common.{drop, filter, sym, refl, ap, ◌∙◌, arith, lt-ltb}
use Rattle.std.specs.Int.{to_be_bytes, w64}
use Rattle.std.specs.List.{list_all}
use Rattle.std.proofs.Math.Nat.{mod-eq_of_lt}
use Rattle.std.proofs.lemmas.Nat.{div-mul-add}
use Rattle.std.proofs.lemmas.List.{length-drop, take_all, take-append-drop, append-nil, append_assoc}
use Rattle.std.proofs.lemmas.List.Elements.{All-head, All-tail}
use Rattle.judy_model.specs.WordBytes.{low_bytes}
use Rattle.judy_model.proofs.lemmas.maps.Ascending.{Among, Among-filter}
use Rattle.judy_model.proofs.lemmas.orders.ByteLemmas.{low_bytes-above, unit_pos}
use Rattle.judy_records.specs.Texts.{spelled}
use Rattle.judy_sl.specs.Pieces.{piece_of, pieces_in, pieces, piece_bytes, spelling, IsInner, IsText}
use Rattle.judy_sl.proofs.lemmas.pieces.PieceLemmas.{spelled-lt, text-drop}

-- No bytes spell 0, whose bytes are zeros.
none : (unit : ℕ) → 0 < unit → 0 / unit ≡ 0
none unit some = let e : 0 ≡ 0 * unit + 0 = omega arith in ap (λ n. n / unit) e ∙ div-mul-add 0 unit 0 some

zero_bytes : (width : ℕ) → filter (λ byte. nat_lt 0 byte) (low_bytes width 0) ≡ []
zero_bytes zero = refl
zero_bytes (suc width) =
    ap (λ byte. cond (nat_lt 0 byte) (byte ∷ filter (λ b. nat_lt 0 b) (low_bytes width 0)) (filter (λ b. nat_lt 0 b) (low_bytes width 0)))
    (ap (λ n. n % 256) (none (256 ^ width) (unit_pos width))) ∙ zero_bytes width

-- The bytes that aren't zero of the number that a text spells are its first bytes.
bytes-spelled : (width : ℕ) (bytes : List ℕ) → IsText bytes → filter (λ byte. nat_lt 0 byte) (low_bytes width (spelled width bytes)) ≡ take width bytes
bytes-spelled zero bytes text = refl
bytes-spelled (suc width) [] text = zero_bytes (suc width)
bytes-spelled (suc width) (byte ∷ bytes) text =
    let here = All-head (λ b. (b < 256) × (b ≢ 0)) byte bytes text in
    let later = All-tail (λ b. (b < 256) × (b ≢ 0)) byte bytes text in
    let unit = 256 ^ width in
    let first : (byte * unit + spelled width bytes) / unit % 256 ≡ byte = ap (λ n. n % 256) (div-mul-add byte unit (spelled width bytes) (spelled-lt width bytes later)) ∙ mod-eq_of_lt here.0 in
    let rest : filter (λ b. nat_lt 0 b) (low_bytes width (byte * unit + spelled width bytes)) ≡ take width bytes = ap (filter (λ b. nat_lt 0 b))
    (low_bytes-above width byte (spelled width bytes)) ∙ bytes-spelled width bytes later in
    (λ t. cond (nat_lt 0 (first t)) (first t ∷ rest t) (rest t)) ∙ ap (λ b. cond b (byte ∷ take width bytes) (take width bytes)) (lt-ltb 0 byte (omega (arith, here.1)))

-- The bytes of the piece with which a text begins are its first eight.
pub bytes-piece : (bytes : List ℕ) → IsText bytes → piece_bytes (piece_of bytes) ≡ take 8 bytes
unfolding piece_of piece_bytes
bytes-piece bytes text = bytes-spelled 8 bytes text

spelling-in : (count : ℕ) (bytes : List ℕ) → IsText bytes → length bytes / 8 ≡ count → spelling (pieces_in count bytes) ≡ bytes
spelling-in zero bytes text e = append-nil (piece_bytes (piece_of bytes)) ∙ bytes-piece bytes text ∙ take_all 8 bytes (omega arith)
spelling-in (suc count) bytes text e =
    let left = length-drop 8 bytes in
    (λ t. bytes-piece bytes text t ++ spelling-in count (drop 8 bytes) (text-drop 8 bytes text) (omega arith) t) ∙ take-append-drop 8 bytes

-- The pieces of a text spell it.
pub spelling-pieces : (bytes : List ℕ) → IsText bytes → spelling (pieces bytes) ≡ bytes
unfolding pieces
spelling-pieces bytes text = spelling-in (length bytes / 8) bytes text refl

-- Pieces spell what the first of them spell, and then the others.
pub spelling-append : (front later : List ℕ) → spelling (front ++ later) ≡ spelling front ++ spelling later
spelling-append [] later = refl
spelling-append (piece ∷ front) later = ap (λ bytes. piece_bytes piece ++ bytes) (spelling-append front later) ∙ sym (append_assoc (piece_bytes piece) (spelling front) (spelling later))

-- The lowest byte of a piece stands among its bytes.
lowest_among : (width word : ℕ) → Among (low_bytes (suc width) word) (word % 256)
lowest_among zero word = inl (let e : word % 256 ≡ word / 256 ^ 0 % 256 = omega arith in e)
lowest_among (suc width) word = inr (lowest_among width word)

some_length : (bytes : List ℕ) (byte : ℕ) → Among bytes byte → 0 < length bytes
some_length [] byte here = absurd here
some_length (first ∷ rest) byte here = omega arith

-- So an inner piece has a byte.
pub inner_bytes : (piece : ℕ) → IsInner piece → 0 < length (piece_bytes piece)
unfolding piece_bytes
inner_bytes piece inner =
    some_length (filter (λ byte. nat_lt 0 byte) (low_bytes 8 piece)) (piece % 256) (Among-filter (λ byte. nat_lt 0 byte) (low_bytes 8 piece) (piece % 256)
    (lowest_among 7 piece) (lt-ltb 0 (piece % 256) (omega (arith, inner))))

-- The bytes of a piece as it stands in memory, the highest first.
pub piece_bytes-be : (piece : ℕ) → piece_bytes piece ≡ filter (λ byte. nat_lt 0 byte) (to_be_bytes w64 piece)
unfolding piece_bytes
piece_bytes-be piece =
    let lowest : piece / 1 ≡ piece = omega arith in ap (λ low. filter (λ byte. nat_lt 0 byte) (piece / 72057594037927936 % 256 ∷ piece / 281474976710656 %
    256 ∷ piece / 1099511627776 % 256 ∷ piece / 4294967296 % 256 ∷ piece / 16777216 % 256 ∷ piece / 65536 % 256 ∷ piece / 256 % 256 ∷ low % 256 ∷ [])) lowest

both-right : (a b : Bool) → (a && b) ≡ true → b ≡ true
both-right true b are = are
both-right false b are = cc

-- Where none of its bytes is zero, a piece spells all of them.
all-kept : (bytes : List ℕ) → list_all (λ byte. not (byte == 0)) bytes ≡ true → filter (λ byte. nat_lt 0 byte) bytes ≡ bytes
all-kept [] are = refl
all-kept (zero ∷ bytes) are = cc
all-kept (suc byte ∷ bytes) are =
    ap (λ passes. cond passes (suc byte ∷ filter (λ b. nat_lt 0 b) bytes) (filter (λ b. nat_lt 0 b) bytes)) (lt-ltb 0 (suc byte) (omega arith))
    ∙ ap (λ rest. suc byte ∷ rest) (all-kept bytes (both-right (not (suc byte == 0)) (list_all (λ b. not (b == 0)) bytes) are))

pub whole_bytes : (piece : ℕ) (bytes : List ℕ) → bytes ≡ to_be_bytes w64 piece → list_all (λ byte. not (byte == 0)) bytes ≡ true → piece_bytes piece ≡ bytes
whole_bytes piece bytes is are = piece_bytes-be piece ∙ ap (filter (λ byte. nat_lt 0 byte)) (sym is) ∙ all-kept bytes are
