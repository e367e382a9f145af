-- The tokens of a script line, and what a token says. (This project's own script.)
use Rattle.std.specs.Prelude.{ℕ, ◌^◌, Bool, ◌&&◌, ◌||◌, ◌==◌, nat_lt, nat_le, if◌then◌else◌, List, length, Option, Some, None, filter}
use Rattle.std.specs.List.{slice_split, list_all}
use Rattle.std.specs.Char.{is_ascii_digit, is_ascii_alphanumeric}
use Rattle.std.specs.Str.Parse.{digits_value}

-- The tokens are what stands between runs of spaces. Every other byte, tab included, belongs to a token.
abbrev pub tokens_of : List ℕ → List (List ℕ)
tokens_of text = filter (λ token. nat_lt 0 (length token)) (slice_split (λ byte. byte == 32) text)

-- A word token is 1 to 20 decimal digits whose number is below 2^64; leading zeros are taken.
abbrev pub is_word_token : List ℕ → Bool
is_word_token token =
    nat_lt 0 (length token) && nat_le (length token) 20 && list_all is_ascii_digit token && nat_lt (digits_value 10 token) (2 ^ 64)

-- The word that a token says, if it is a word token.
abbrev pub word_of : List ℕ → Option ℕ
word_of token = if is_word_token token then Some (digits_value 10 token) else None

-- The bytes of names: ASCII letters, digits, `_` (95) and `-` (45).
abbrev pub is_name_byte : ℕ → Bool
is_name_byte byte = is_ascii_alphanumeric byte || byte == 95 || byte == 45

-- A name is 1 to 32 of these bytes.
abbrev pub is_name : List ℕ → Bool
is_name token = nat_lt 0 (length token) && nat_le (length token) 32 && list_all is_name_byte token

-- The name that a token says, if it is one.
abbrev pub name_of : List ℕ → Option (List ℕ)
name_of token = if is_name token then Some token else None
