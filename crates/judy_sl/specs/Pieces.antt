-- Keys as pieces of eight bytes. (This project's own.)
use Rattle.std.specs.Prelude.{◌≡◌, ◌≢◌, ℕ, zero, suc, ◌-◌, ◌/◌, ◌%◌, ◌<◌, nat_lt, List, [], ◌∷◌, length, drop, slice_get, Some, filter, All}
use Rattle.std.specs.List.{flat_map}
use Rattle.judy_model.specs.WordBytes.{low_bytes}
use Rattle.judy_records.specs.Texts.{spelled}
use Rattle.judy_sl.specs.Strings.{IsString}

-- The piece with which bytes begin: the number that their first eight spell.
unfoldable pub piece_of : List ℕ → ℕ
piece_of = spelled 8

-- So many whole pieces, and the one that is left after them.
abbrev pub pieces_in : ℕ → List ℕ → List ℕ
pieces_in zero bytes = piece_of bytes ∷ []
pieces_in (suc count) bytes = piece_of bytes ∷ pieces_in count (drop 8 bytes)

-- The pieces of bytes: each eight of them in turn, and then what is left, fewer than eight.
unfoldable pub pieces : List ℕ → List ℕ
pieces bytes = pieces_in (length bytes / 8) bytes

-- A piece is final where its lowest byte is zero: no key holds a zero byte, so a key ends in it.
abbrev pub IsFinal : ℕ → Type 0
IsFinal piece = piece % 256 ≡ 0

-- A piece that isn't final: keys go on behind it.
abbrev pub IsInner : ℕ → Type 0
IsInner piece = piece % 256 ≢ 0

-- Pieces none of which is final.
abbrev pub AreInner : List ℕ → Type 0
AreInner [] = Unit {0}
AreInner (piece ∷ rest) = IsInner piece × AreInner rest

-- Exactly the last of the pieces is final.
abbrev pub ArePieces : List ℕ → Type 0
ArePieces [] = ⊥
ArePieces (piece ∷ []) = IsFinal piece
ArePieces (piece ∷ next ∷ rest) = IsInner piece × ArePieces (next ∷ rest)

-- Bytes of which none is zero.
abbrev pub IsText : List ℕ → Type 0
IsText bytes = All (λ byte. (byte < 256) × (byte ≢ 0)) bytes

-- The last byte isn't zero, where there is one.
abbrev pub EndsWell : List ℕ → Type 0
EndsWell bytes = slice_get bytes (length bytes - 1) ≢ Some 0

-- The pieces are those of a key.
pub record SpellKey (ps : List ℕ) : Type 0 where
  pub key : List ℕ
  pub is_key : IsString key
  pub spells : pieces key ≡ ps

-- The bytes that a piece spells: those of the word that aren't zero.
unfoldable pub piece_bytes : ℕ → List ℕ
piece_bytes piece = filter (λ byte. nat_lt 0 byte) (low_bytes 8 piece)

-- The bytes that pieces spell.
abbrev pub spelling : List ℕ → List ℕ
spelling = flat_map piece_bytes
