-- Finite maps that are given by what they answer: the map of a function over all keys of a sort. The lists
-- of all keys are definitions, and never computed.
use Rattle.std.specs.Prelude.{ℕ, zero, suc, nat_lt, List, [], ◌∷◌, map, filter, Option}
use Rattle.std.specs.List.{filter_map, flat_map}
use Rattle.std.specs.Option.{option_map}
use Rattle.std.specs.FinMap.{FinMap, from_entries}
use Rattle.judy_model.specs.Keys.{byte_order}
use Rattle.judy_model.specs.Empties.{numbers_below}
use Rattle.judy_model.specs.declared.keys.TheConstants.{LONGEST_KEY}

-- All strings of at most so many bytes, each of an alphabet: the empty one, and each byte of the alphabet
-- before each string of at most one byte less.
unfoldable pub strings_to : List ℕ → ℕ → List (List ℕ)
strings_to alphabet zero = [] ∷ []
strings_to alphabet (suc most) = [] ∷ flat_map (λ byte. map (λ rest. byte ∷ rest) (strings_to alphabet most)) alphabet

-- All keys of arrays over byte strings whose longest key has so many bytes.
unfoldable pub bytes_keys : ℕ → List (List ℕ)
bytes_keys longest = strings_to (numbers_below 256) longest

-- All keys of judysl arrays: those that hold no zero byte.
unfoldable pub string_keys : List (List ℕ)
string_keys = strings_to (filter (λ byte. nat_lt 0 byte) (numbers_below 256)) LONGEST_KEY

-- The same whose longest key has so many bytes.
unfoldable pub string_keys_to : ℕ → List (List ℕ)
string_keys_to longest = strings_to (filter (λ byte. nat_lt 0 byte) (numbers_below 256)) longest

-- The keys for which a function has an answer, each with that answer.
abbrev pub tabled : (List ℕ → Option ℕ) → List (List ℕ) → List (List ℕ × ℕ)
tabled answer = filter_map (λ key. option_map (λ value. (key, value)) (answer key))

-- The table of a function over a list of keys: the finite map that answers as the function does at each of
-- these keys, and holds no other.
unfoldable pub table : List (List ℕ) → (List ℕ → Option ℕ) → FinMap byte_order ℕ
table keys answer = from_entries (tabled answer keys)
