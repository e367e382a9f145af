-- Stores of one array `a` that holds keys, of which the examples of commands speak, and maps for those of ranks. Keys stand in their order.
use Rattle.std.specs.Prelude.{◌≡◌, ℕ, List, [], ◌∷◌, ◌++◌, map, filter, codes}
use Rattle.std.specs.List.{range_with_len}
use Rattle.std.specs.FinMap.{FinMap, from_sorted}
use Rattle.judy_model.specs.Keys.{word_order, byte_order}
use Rattle.judy_model.specs.Arrays.{ArrayValue, judy1, judyl, judysl, judyhs, empty_array}
use Rattle.judy_model.specs.Tokens.{is_name_byte}
use Rattle.judy_model.specs.Stores.{Store}
use Rattle.judy_model.specs.Replies.{Reply}
use Rattle.judy_model.specs.Steps.{step}
use Rattle.judy_model.specs.Examples.{line}

-- A store of one array.
abbrev pub holding : ArrayValue → Store
holding array = (codes "a", array) ∷ []

-- A judy1 array of a limit and its keys.
abbrev pub set : ℕ → List ℕ → Store
set limit keys = holding (judy1 (record { limit = limit; map = from_sorted (map (λ key. (key, 0)) keys) }))

-- A judyl array of a limit, and its keys with their values.
abbrev pub words : ℕ → List (ℕ × ℕ) → Store
words limit pairs = holding (judyl (record { limit = limit; map = from_sorted pairs }))

-- A judysl array.
abbrev pub strings : ℕ → List (List ℕ × ℕ) → Store
strings limit pairs = holding (judysl (record { limit = limit; map = from_sorted pairs }))

-- A judyhs array.
abbrev pub bytes : ℕ → List (List ℕ × ℕ) → Store
bytes limit pairs = holding (judyhs (record { limit = limit; map = from_sorted pairs }))

-- Two keys, and what they are mapped to, of each kind; the array is full where its limit is 2.
abbrev pub two_keys : ℕ → Store
two_keys limit = set limit (2 ∷ 4 ∷ [])

abbrev pub two_words : ℕ → Store
two_words limit = words limit ((2, 20) ∷ (4, 40) ∷ [])

abbrev pub two_strings : ℕ → Store
two_strings limit = strings limit ((codes "ab", 20) ∷ (codes "b", 40) ∷ [])

abbrev pub two_bytes : ℕ → Store
two_bytes limit = bytes limit ((0 ∷ [], 20) ∷ (codes "b", 40) ∷ [])

-- The store with an array of each name of one byte, which are 64: the letters, the digits, `-` and `_`.
abbrev pub names_of_one_byte : Store
names_of_one_byte = map (λ byte. (byte ∷ [], judyl (empty_array 1))) (filter is_name_byte (range_with_len 0 256))

-- Three words and what they are mapped to.
abbrev pub three_words : FinMap word_order ℕ
three_words = from_sorted ((2, 20) ∷ (4, 40) ∷ (7, 70) ∷ [])

-- Three byte strings; the second is the first with a zero byte behind it.
abbrev pub ab_and_zero : List ℕ
ab_and_zero = codes "ab" ++ 0 ∷ []

abbrev pub three_byte_strings : FinMap byte_order ℕ
three_byte_strings = from_sorted ((codes "ab", 20) ∷ (ab_and_zero, 30) ∷ (codes "b", 40) ∷ [])

-- What a line is replied, and which store it leaves.
abbrev pub Becomes : Store → List ℕ → Reply → Store → Type 0
Becomes before text reply after = step before (line text) ≡ (reply, after)

-- What a line is replied that leaves the store as it was.
abbrev pub IsReplied : Store → List ℕ → Reply → Type 0
IsReplied store text reply = Becomes store text reply store
