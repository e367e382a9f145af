-- Byte strings as key tokens say them, and as they are printed. (This project's own script.)
use Rattle.std.specs.Prelude.{ℕ, ◌+◌, ◌-◌, ◌*◌, ◌/◌, ◌%◌, Bool, not, ◌&&◌, ◌==◌, nat_lt, nat_le, if◌then◌else◌, List, [], ◌∷◌, length, Option, Some, None}
use Rattle.std.specs.List.{list_all}
use Rattle.std.specs.Char.{is_ascii_graphic}
use Rattle.judy_model.specs.declared.keys.TheConstants.{LONGEST_KEY}

-- The bytes that stand for themselves in a key token: 33 to 126, the ASCII signs without the space.
abbrev pub is_shown : ℕ → Bool
is_shown byte = is_ascii_graphic byte

-- The number of a hexadecimal digit: `0` to `9` (48 to 57), `A` to `F` (65 to 70) or `a` to `f` (97 to 102).
abbrev pub digit_value : ℕ → Option ℕ
digit_value sign =
    if nat_le 48 sign && nat_le sign 57 then Some (sign - 48)
    else if nat_le 65 sign && nat_le sign 70 then Some (sign - 55)
    else if nat_le 97 sign && nat_le sign 102 then Some (sign - 87)
    else None

-- The byte of two digits, the higher one first, before other bytes; none where one of these isn't there.
abbrev pub with_byte : Option ℕ → Option ℕ → Option (List ℕ) → Option (List ℕ)
with_byte (Some high) (Some low) (Some bytes) = Some ((high * 16 + low) ∷ bytes)
with_byte high low bytes = None

-- The bytes that hexadecimal digits write, two digits a byte; none where a sign is no digit, or one is left.
abbrev pub bytes_of_digits : List ℕ → Option (List ℕ)
bytes_of_digits [] = Some []
bytes_of_digits (sign ∷ []) = None
bytes_of_digits (high ∷ low ∷ signs) = with_byte (digit_value high) (digit_value low) (bytes_of_digits signs)

-- The byte string that a token says, if it is a key token: `=` (61) and bytes that stand for themselves, or
-- `#` (35) and hexadecimal digits, two a byte.
abbrev pub key_of : List ℕ → Option (List ℕ)
key_of [] = None
key_of (sign ∷ signs) =
    if sign == 61 then (if list_all is_shown signs then Some signs else None)
    else if sign == 35 then bytes_of_digits signs
    else None

-- Whether a byte string may be a key of a judyhs array: it has at most 1,024 bytes.
abbrev pub is_bytes_key : List ℕ → Bool
is_bytes_key key = nat_le (length key) LONGEST_KEY

-- Whether it may be one of a judysl array: it has no zero byte either.
abbrev pub is_string_key : List ℕ → Bool
is_string_key key = is_bytes_key key && list_all (λ byte. not (byte == 0)) key

-- The byte string that was said, if it passes a test.
abbrev pub passing : (List ℕ → Bool) → Option (List ℕ) → Option (List ℕ)
passing test None = None
passing test (Some key) = if test key then Some key else None

-- The key of a judyhs array that a token says.
abbrev pub bytes_key_of : List ℕ → Option (List ℕ)
bytes_key_of token = passing is_bytes_key (key_of token)

-- The key of a judysl array that it says.
abbrev pub string_key_of : List ℕ → Option (List ℕ)
string_key_of token = passing is_string_key (key_of token)

-- The digit of a number below 16, with lower-case letters.
abbrev pub digit_of : ℕ → ℕ
digit_of value = if nat_lt value 10 then value + 48 else value + 87

-- Two digits for each byte, the higher one first.
abbrev pub digits_of : List ℕ → List ℕ
digits_of [] = []
digits_of (byte ∷ bytes) = digit_of (byte / 16) ∷ digit_of (byte % 16) ∷ digits_of bytes

-- A key as it is printed: `=` and its bytes where all of them stand for themselves, else `#` and digits.
abbrev pub printed_key : List ℕ → List ℕ
printed_key key = if list_all is_shown key then 61 ∷ key else 35 ∷ digits_of key
