-- What the laws say of counts over a level.
use Rattle.std.specs.Prelude.{◌≡◌, ◌<◌, ◌+◌, ℕ, Bool, nat_lt, List, [], ◌∷◌, length, filter, slice_get}
use Rattle.std.specs.List.{flat_map, sum_by}
use Rattle.std.specs.FinMap.{FinMap, entries, find}
use Rattle.judy_model.specs.Keys.{word_order}
use Rattle.judy_model.specs.Counts.{rank}
use Rattle.judy_sums.specs.Pairs.{Pairs, sum_of, sum_below}
use Rattle.judy_sums.specs.Chunks.{Ascends}
use Rattle.judy_sums.specs.Levels.{entries_below, keys_below, extras, AreWeighed, part_of, part_len, ArePartedBy}

-- The keys below a word are the entries below it, and the sum below it in the list.
abbrev pub KeysBelowAreEntriesAndExtras : Type 0
KeysBelowAreEntriesAndExtras =
    (leads : ℕ × ℕ → Bool) (behind : ℕ × ℕ → ℕ) (level : Pairs) (word : ℕ) → AreWeighed leads behind level →
    keys_below behind level word ≡ entries_below level word + sum_below (extras leads behind level) word

-- All keys are all entries, and the sum of the list.
abbrev pub KeysAreEntriesAndExtras : Type 0
KeysAreEntriesAndExtras =
    (leads : ℕ × ℕ → Bool) (behind : ℕ × ℕ → ℕ) (level : Pairs) → AreWeighed leads behind level → sum_by behind level ≡ length level + sum_of (extras leads behind level)

-- The entries below a word are as many as its rank among a level's words.
abbrev pub EntriesBelowAreARank : Type 0
EntriesBelowAreARank = (words : FinMap word_order ℕ) (word : ℕ) → rank words word ≡ entries_below (entries words) word

module _ (K : Type 0) where
  -- The keys that pass a test are those below a word, and those of its own part that pass.
  abbrev pub KeysThatPass : Type 0
  KeysThatPass =
      (part : ℕ × ℕ → List K) (passes : K → Bool) (word : ℕ) (level : Pairs) → Ascends level → ArePartedBy part passes word level
      → length (filter passes (flat_map part level)) ≡ keys_below (part_len part) level word + length (filter passes (part_of part word (find word_order word level)))

  -- A key stands as many places behind those below its word as it stands in its part.
  abbrev pub KeyAtAPlace : Type 0
  KeyAtAPlace =
      (part : ℕ × ℕ → List K) (word at : ℕ) (level : Pairs) → Ascends level → at < length (part_of part word (find word_order word level))
      → slice_get (flat_map part level) (keys_below (part_len part) level word + at) ≡ slice_get (part_of part word (find word_order word level)) at

-- A level of four entries, each with the number of keys behind it: behind two of them stand levels, of 5 and of 3 keys.
abbrev pub four_entries : Pairs
four_entries = (10, 1) ∷ (20, 5) ∷ (30, 1) ∷ (40, 3) ∷ []

-- How many keys stand behind an entry of it, and whether it leads to a level.
abbrev pub its_keys : ℕ × ℕ → ℕ
its_keys entry = entry.1

abbrev pub has_more : ℕ × ℕ → Bool
has_more entry = nat_lt 1 entry.1
