-- The entries of a level, pairs of a word and the place to which it leads: the keys behind them, and what a list of sums is to
-- hold of their numbers.
use Rattle.std.specs.Prelude.{◌≡◌, ◌<◌, ◌≤◌, ◌-◌, ℕ, Bool, false, nat_lt, if◌then◌else◌, List, [], ◌∷◌, length, filter, Option, None, Some}
use Rattle.std.specs.List.{sum_by, AllByRecursion}
use Rattle.judy_sums.specs.Pairs.{Pairs}

-- How many entries have words less than the given one.
abbrev pub entries_below : Pairs → ℕ → ℕ
entries_below entries word = sum_by (λ entry. if nat_lt entry.0 word then 1 else 0) entries

-- How many keys stand behind those, where so many stand behind each entry.
abbrev pub keys_below : (ℕ × ℕ → ℕ) → Pairs → ℕ → ℕ
keys_below behind entries word = sum_by (λ entry. if nat_lt entry.0 word then behind entry else 0) entries

module _ (leads : ℕ × ℕ → Bool) (behind : ℕ × ℕ → ℕ) where
  -- The words that lead to a level, each with the number of keys behind it, less one.
  abbrev pub extras : Pairs → Pairs
  extras [] = []
  extras (entry ∷ rest) = if leads entry then (entry.0, behind entry - 1) ∷ extras rest else extras rest

  -- Behind each entry stands a key, and behind one that leads to no level that one alone.
  abbrev pub AreWeighed : Pairs → Type 0
  AreWeighed entries = AllByRecursion (λ entry. (1 ≤ behind entry) × (leads entry ≡ false → behind entry ≡ 1)) entries

module _ {K : Type 0} (part : ℕ × ℕ → List K) where
  -- The keys behind a word that leads to a place; where it leads to none there are none.
  abbrev pub part_of : ℕ → Option ℕ → List K
  part_of word None = []
  part_of word (Some place) = part (word, place)

  -- How many keys stand behind an entry.
  abbrev pub part_len : ℕ × ℕ → ℕ
  part_len entry = length (part entry)

  -- Of the keys behind lesser words each passes a test, and of those behind greater words none.
  abbrev pub ArePartedBy : (K → Bool) → ℕ → Pairs → Type 0
  ArePartedBy passes word entries = AllByRecursion (λ entry. (entry.0 < word → filter passes (part entry) ≡ part entry) × (word < entry.0 → filter passes (part entry) ≡ [])) entries
