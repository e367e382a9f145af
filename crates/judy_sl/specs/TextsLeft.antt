-- What is left of a text that is read a piece at a time.
use Rattle.std.specs.Prelude.{◌≡◌, ℕ, nat_lt, if◌then◌else◌, List, length, drop, Option, None, Some}
use Rattle.judy_records.specs.Texts.{words_of, text_in}

-- What is left behind the next piece.
abbrev pub left_behind : Option (List ℕ) → Option (List ℕ)
left_behind None = None
left_behind (Some bytes) = if nat_lt (length bytes) 8 then None else Some (drop 8 bytes)

-- What is left of a text of which these words are left.
abbrev pub text_left : Option (List ℕ) → Option (List ℕ)
text_left None = None
text_left (Some words) = Some (text_in words)

-- They are the words of a text.
abbrev pub IsTextOf : List ℕ → Type 0
IsTextOf words = words ≡ words_of (text_in words)
