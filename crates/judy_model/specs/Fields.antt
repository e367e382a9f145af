-- Reading bytes field by field, from left to right, up to the first flaw.
use Rattle.std.specs.Prelude.{ℕ, Bool, nat_lt, if◌then◌else◌, List, [], ◌∷◌, length, take, drop, Result, Ok, Err}
use Rattle.judy_model.specs.WordBytes.{number_of}

-- Why bytes are no dump. (This project's own.)
pub data Flaw : Type 0 where
  truncated : Flaw
  bad_magic : Flaw
  too_many : Flaw
  bad_name : Flaw
  same_name : Flaw
  bad_kind : Flaw
  bad_limit : Flaw
  bad_count : Flaw
  bad_key : Flaw
  bad_order : Flaw
  trailing : Flaw
  bad_prefix : Flaw

-- What reads a value from the front of bytes: it gives the value and the bytes after it, or the first flaw.
abbrev pub Parser : Type 0 → Type 0
Parser A = List ℕ → Result (A × List ℕ) Flaw

-- What is read after a value, by that value; a flaw ends all.
abbrev pub followed_by : {A B : Type 0} → Result (A × List ℕ) Flaw → (A → Parser B) → Result (B × List ℕ) Flaw
followed_by (Ok read) rest = rest read.0 read.1
followed_by (Err flaw) rest = Err flaw

-- One parser after another, which the first one's value tells.
infixl 10 ◌>>=◌
abbrev pub ◌>>=◌ : {A B : Type 0} → Parser A → (A → Parser B) → Parser B
parser >>= rest = λ bytes. followed_by (parser bytes) rest

-- A value for which nothing is read.
abbrev pub done : {A : Type 0} → A → Parser A
done value = λ bytes. Ok (value, bytes)

-- So many bytes. Bytes that end before are cut off there.
abbrev pub bytes : ℕ → Parser (List ℕ)
bytes count = λ input. if nat_lt (length input) count then Err truncated else Ok (take count input, drop count input)

-- The number that so many bytes spell, the highest first.
abbrev pub number : ℕ → Parser ℕ
number width = do
  spelled ← bytes width
  done (number_of spelled)

-- A value that passes each of the tests, or else the flaw of the first that it doesn't pass.
abbrev pub checked : {A : Type 0} → List ((A → Bool) × Flaw) → A → Parser A
checked [] value = done value
checked (check ∷ checks) value = λ input. if check.0 value then checked checks value input else Err check.1

-- A field with its checks: it is read whole, and then checked in turn.
abbrev pub field : {A : Type 0} → Parser A → List ((A → Bool) × Flaw) → Parser A
field parser checks = do
  value ← parser
  checked checks value

-- The end of the bytes.
abbrev pub end : Parser (Unit {0})
end [] = Ok (tt, [])
end (byte ∷ bytes) = Err trailing

-- What a parser gives, without the bytes after it.
abbrev pub value_of : {A : Type 0} → Result (A × List ℕ) Flaw → Result A Flaw
value_of (Ok read) = Ok read.0
value_of (Err flaw) = Err flaw

-- What was read has no flaw, and this holds of its value and of the bytes behind it.
abbrev pub Behind : {A : Type 0} → Result (A × List ℕ) Flaw → (A → List ℕ → Type 0) → Type 0
Behind (Ok read) Holds = Holds read.0 read.1
Behind (Err flaw) Holds = ⊥

-- The parser reads such a value from the front of bytes.
abbrev pub Begins : {A : Type 0} → Parser A → (A → List ℕ → Type 0) → List ℕ → Type 0
Begins parser Holds = λ bytes. Behind (parser bytes) Holds
