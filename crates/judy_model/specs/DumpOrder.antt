-- A judyhs array whose two keys have different lengths, and dumps with its keys in both orders.
use Rattle.std.specs.Prelude.{ℕ, List, [], ◌∷◌, ◌++◌, codes}
use Rattle.std.specs.FinMap.{from_entries}
use Rattle.judy_model.specs.Arrays.{judyhs}
use Rattle.judy_model.specs.Stores.{Store}
use Rattle.judy_model.specs.DumpExamples.{small, greatest, heading}

-- The store with the judyhs array `h`, which holds `b` with 2 and `aa` with 1.
abbrev pub two_lengths : Store
two_lengths = (codes "h", judyhs (record { limit = 4294967295; map = from_entries ((codes "b", 2) ∷ (codes "aa", 1) ∷ []) })) ∷ []

-- What stands in front of its entries.
abbrev pub head_of_two : List ℕ
head_of_two = heading 1 ++ 1 ∷ 104 ∷ 4 ∷ greatest ++ small 2

-- Its entries.
abbrev pub entry_of_b : List ℕ
entry_of_b = 0 ∷ 1 ∷ codes "b" ++ small 2

abbrev pub entry_of_aa : List ℕ
entry_of_aa = 0 ∷ 2 ∷ codes "aa" ++ small 1

-- The shorter key before the longer one, and the other way round.
abbrev pub shorter_first : List ℕ
shorter_first = head_of_two ++ entry_of_b ++ entry_of_aa

abbrev pub longer_first : List ℕ
longer_first = head_of_two ++ entry_of_aa ++ entry_of_b
