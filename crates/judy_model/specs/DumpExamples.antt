-- What the examples of dumps speak of.
use Rattle.std.specs.Prelude.{ℕ, ◌+◌, List, length, [], ◌∷◌, ◌++◌, codes, take, drop}
use Rattle.std.specs.FinMap.{from_entries}
use Rattle.judy_model.specs.Arrays.{judy1, judyl, judysl, judyhs}
use Rattle.judy_model.specs.Stores.{Store}

-- A number of eight bytes, of which it needs the lowest alone.
abbrev pub small : ℕ → List ℕ
small n = 0 ∷ 0 ∷ 0 ∷ 0 ∷ 0 ∷ 0 ∷ 0 ∷ n ∷ []

-- The greatest limit, in eight bytes.
abbrev pub greatest : List ℕ
greatest = 0 ∷ 0 ∷ 0 ∷ 0 ∷ 255 ∷ 255 ∷ 255 ∷ 255 ∷ []

-- The beginning of a dump of so many arrays.
abbrev pub heading : ℕ → List ℕ
heading count = codes "JDY1" ++ 0 ∷ 0 ∷ 0 ∷ count ∷ []

-- And of one in the second format.
abbrev pub second_heading : ℕ → List ℕ
second_heading count = codes "JDY2" ++ 0 ∷ 0 ∷ 0 ∷ count ∷ []

-- The store with the judy1 array `a`, which holds 1 and may hold as many keys as any.
abbrev pub set_of_one : Store
set_of_one = (codes "a", judy1 (record { limit = 4294967295; map = from_entries ((1, 0) ∷ []) })) ∷ []

-- Its dump, of 35 bytes.
abbrev pub dump_of_one : List ℕ
dump_of_one = heading 1 ++ 1 ∷ 97 ∷ 1 ∷ greatest ++ small 1 ++ small 1

-- Bytes with others written over them from a place on.
abbrev pub overwritten : List ℕ → ℕ → List ℕ → List ℕ
overwritten dump place bytes = take place dump ++ bytes ++ drop (place + length bytes) dump

-- The store of a judyl array, a judysl array with three places and a judyhs array.
abbrev pub three_arrays : Store
three_arrays =
    (codes "l", judyl (record { limit = 4294967295; map = from_entries ((5, 9) ∷ []) }))
    ∷ (codes "s", judysl (record { limit = 3; map = from_entries (([], 1) ∷ (codes "ab", 2) ∷ []) }))
    ∷ (codes "h", judyhs (record { limit = 4294967295; map = from_entries (([], 9) ∷ (0 ∷ [], 7) ∷ (codes "b", 8) ∷ []) }))
    ∷ []

-- Its dump, of 135 bytes.
abbrev pub dump_of_three : List ℕ
dump_of_three =
    heading 3
    ++ 1 ∷ 108 ∷ 2 ∷ greatest ++ small 1 ++ small 5 ++ small 9
    ++ 1 ∷ 115 ∷ 3 ∷ small 3 ++ small 2 ++ 0 ∷ 0 ∷ small 1 ++ 0 ∷ 2 ∷ 97 ∷ 98 ∷ small 2
    ++ 1 ∷ 104 ∷ 4 ∷ greatest ++ small 3 ++ 0 ∷ 0 ∷ small 9 ++ 0 ∷ 1 ∷ 0 ∷ small 7 ++ 0 ∷ 1 ∷ 98 ∷ small 8

-- The store of a judysl array with three places, of whose keys each begins the next.
abbrev pub three_prefixes : Store
three_prefixes = (codes "s", judysl (record { limit = 3; map = from_entries (([], 1) ∷ (codes "ab", 2) ∷ (codes "abc", 3) ∷ []) })) ∷ []

-- What stands in both of its dumps between the heading and the entries.
abbrev pub head_of_prefixes : List ℕ
head_of_prefixes = 1 ∷ 115 ∷ 3 ∷ small 3 ++ small 3

-- Its dump in the first format, of 62 bytes.
abbrev pub first_dump_of_prefixes : List ℕ
first_dump_of_prefixes = heading 1 ++ head_of_prefixes ++ 0 ∷ 0 ∷ small 1 ++ 0 ∷ 2 ∷ codes "ab" ++ small 2 ++ 0 ∷ 3 ∷ codes "abc" ++ small 3

-- In the second format its first two entries, and its dump, of 66 bytes.
abbrev pub two_entries : List ℕ
two_entries = second_heading 1 ++ head_of_prefixes ++ 0 ∷ 0 ∷ 0 ∷ 0 ∷ small 1 ++ 0 ∷ 0 ∷ 0 ∷ 2 ∷ codes "ab" ++ small 2

abbrev pub second_dump_of_prefixes : List ℕ
second_dump_of_prefixes = two_entries ++ 0 ∷ 2 ∷ 0 ∷ 1 ∷ codes "c" ++ small 3
