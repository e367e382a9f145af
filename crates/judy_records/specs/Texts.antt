-- The words of a text: its bytes by eights, each eight as a word, and the last one padded with zeros.
use Rattle.std.specs.Prelude.{◌≢◌, ℕ, zero, suc, ◌+◌, ◌-◌, ◌*◌, ◌/◌, ◌^◌, ◌<◌, List, [], ◌∷◌, length, take, drop, filter, nat_lt, slice_get, Some, All}
use Rattle.std.specs.List.{flat_map}
use Rattle.judy_model.specs.WordBytes.{low_bytes}

-- The number that the first so many bytes spell, the first byte the highest; where bytes are missing, zeros stand in their place.
abbrev pub spelled : ℕ → List ℕ → ℕ
spelled zero bytes = 0
spelled (suc width) [] = 0
spelled (suc width) (byte ∷ bytes) = byte * 256 ^ width + spelled width bytes

-- The word that the first eight bytes spell.
unfoldable pub first_word : List ℕ → ℕ
first_word = spelled 8

-- How many words so many bytes take.
abbrev pub words_for : ℕ → ℕ
words_for bytes = (bytes + 7) / 8

-- The first so many words of bytes.
abbrev pub words_in : ℕ → List ℕ → List ℕ
words_in zero bytes = []
words_in (suc count) bytes = first_word bytes ∷ words_in count (drop 8 bytes)

-- The words of bytes: as many as they take.
abbrev pub words_of : List ℕ → List ℕ
words_of bytes = words_in (words_for (length bytes)) bytes

-- The first so many bytes that words spell, eight each.
abbrev pub bytes_in : ℕ → List ℕ → List ℕ
bytes_in count words = take count (flat_map (λ word. low_bytes 8 word) words)

-- The text that words spell: their bytes that aren't zero.
unfoldable pub text_in : List ℕ → List ℕ
text_in words = filter (λ byte. nat_lt 0 byte) (flat_map (λ word. low_bytes 8 word) words)

-- Bytes of which the last, where there is one, isn't zero.
abbrev pub EndsWell : List ℕ → Type 0
EndsWell bytes = slice_get bytes (length bytes - 1) ≢ Some 0

-- Bytes of which none is zero.
abbrev pub IsText : List ℕ → Type 0
IsText bytes = All (λ byte. (byte < 256) × (byte ≢ 0)) bytes
