-- The text of a store: its dump in one of two formats, each number with its highest byte first. (This project's own.)
use Rattle.std.specs.Prelude.{ℕ, suc, ◌==◌, if◌then◌else◌, List, [], ◌∷◌, ◌++◌, length, drop, codes, flat_map}
use Rattle.std.specs.declared.cmp.Ordering.{Ordering}
use Rattle.std.specs.Ordering.{nat_cmp, ordering_then}
use Rattle.std.specs.FinMap.{FinMap, entries, from_entries}
use Rattle.judy_model.specs.Keys.{byte_order}
use Rattle.judy_model.specs.WordBytes.{low_bytes}
use Rattle.judy_model.specs.Arrays.{ArrayValue, judy1, judyl, judysl, judyhs, limit_of, len_of}
use Rattle.judy_model.specs.Stores.{Store}

-- The formats. They differ in their names, and in how a key of a judysl array is written.
pub data Version : Type 0 where
  jdy1 : Version
  jdy2 : Version

-- A dump begins with the name of its format.
abbrev pub magic : Version → List ℕ
magic jdy1 = codes "JDY1"
magic jdy2 = codes "JDY2"

-- A word takes eight bytes.
abbrev pub word : ℕ → List ℕ
word = low_bytes 8

-- A byte string is preceded by its length, in two bytes.
abbrev pub string : List ℕ → List ℕ
string key = low_bytes 2 (length key) ++ key

-- How many bytes the longest front has that two byte strings share.
abbrev pub shared_length : List ℕ → List ℕ → ℕ
shared_length [] right = 0
shared_length (byte ∷ left) [] = 0
shared_length (byte ∷ left) (other ∷ right) = if byte == other then suc (shared_length left right) else 0

-- A key of a judysl array, by the key before it: whole in the first format. In the second it is how many bytes it shares with
-- that key, in two bytes, and the byte string behind these.
abbrev pub string_key : Version → List ℕ → List ℕ → List ℕ
string_key jdy1 before key = string key
string_key jdy2 before key = low_bytes 2 (shared_length before key) ++ string (drop (shared_length before key) key)

-- Entries, each beside the key before it, which is this one for the first.
abbrev pub beside_before : List ℕ → List (List ℕ × ℕ) → List (List ℕ × (List ℕ × ℕ))
beside_before before [] = []
beside_before before (entry ∷ entries) = (before, entry) ∷ beside_before entry.0 entries

-- A dump lists the keys of a judyhs array by their lengths, and those of one length by their bytes.
abbrev pub length_order : List ℕ → List ℕ → Ordering
length_order left right = ordering_then (nat_cmp (length left) (length right)) (byte_order left right)

-- The keys of a map, each with its value, in another order.
abbrev pub entries_by : {K : Type 0} {order : K → K → Ordering} → (K → K → Ordering) → FinMap order ℕ → List (K × ℕ)
entries_by other map = entries (from_entries {R = other} (entries map))

-- The keys of an array in their order. Each is followed by its value, but for the keys of a set. Before the first key of a
-- judysl array there is none, with which it shares nothing.
abbrev pub contents : Version → ArrayValue → List ℕ
contents version (judy1 set) = flat_map (λ entry. word entry.0) (entries set.map)
contents version (judyl array) = flat_map (λ entry. word entry.0 ++ word entry.1) (entries array.map)
contents version (judysl array) = flat_map (λ beside. string_key version beside.0 beside.1.0 ++ word beside.1.1) (beside_before [] (entries array.map))
contents version (judyhs array) = flat_map (λ entry. string entry.0 ++ word entry.1) (entries_by length_order array.map)

-- The number of an array's kind.
abbrev pub kind_number : ArrayValue → ℕ
kind_number (judy1 set) = 1
kind_number (judyl array) = 2
kind_number (judysl array) = 3
kind_number (judyhs array) = 4

-- A name is preceded by its length, in one byte.
abbrev pub name_text : List ℕ → List ℕ
name_text name = low_bytes 1 (length name) ++ name

-- An array is its kind, its limit, the number of its keys, and these.
abbrev pub body : Version → ArrayValue → List ℕ
body version array = low_bytes 1 (kind_number array) ++ word (limit_of array) ++ word (len_of array) ++ contents version array

-- Its name, and then the array.
abbrev pub array_text : Version → List ℕ × ArrayValue → List ℕ
array_text version array = name_text array.0 ++ body version array.1

-- The dump of a store: the format's name, the number of its arrays in four bytes, and each array in the order of making.
abbrev pub dump_of : Version → Store → List ℕ
dump_of version store = magic version ++ low_bytes 4 (length store) ++ flat_map (array_text version) store
