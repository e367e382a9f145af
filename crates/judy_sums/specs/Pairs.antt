-- Pairs of a word and its number, in the order of their words, and what their numbers sum up to.
use Rattle.std.specs.Prelude.{ℕ, ◌+◌, ◌-◌, ◌==◌, not, nat_lt, if◌then◌else◌, List, unwrap_or}
use Rattle.std.specs.List.{sum_by}
use Rattle.std.specs.Ordering.{eq_by_cmp}
use Rattle.std.specs.FinMap.{FinMap, find, put, get, insert, remove}
use Rattle.std.specs.FinMap.Entries.{where_key}
use Rattle.judy_model.specs.Keys.{word_order}

-- Pairs of a word and its number.
abbrev pub Pairs : Type 0
Pairs = List (ℕ × ℕ)

-- The sum of all numbers.
abbrev pub sum_of : Pairs → ℕ
sum_of pairs = sum_by (λ pair. pair.1) pairs

-- What a pair adds to the sum below a word: its number where its own word is less.
abbrev pub part_below : ℕ → ℕ × ℕ → ℕ
part_below word pair = if nat_lt pair.0 word then pair.1 else 0

-- The sum of the numbers whose words are less than the given one.
abbrev pub sum_below : Pairs → ℕ → ℕ
sum_below pairs word = sum_by (part_below word) pairs

-- The number of a word among pairs, and 0 where it has none.
abbrev pub number_in : Pairs → ℕ → ℕ
number_in pairs word = unwrap_or (find word_order word pairs) 0

-- The pairs without a word.
abbrev pub without : ℕ → Pairs → Pairs
without word pairs = where_key word_order (λ other. not (eq_by_cmp word_order word other)) pairs

-- One less at a word, which goes with its last one.
abbrev pub put_less : ℕ → Pairs → Pairs
put_less word pairs = if number_in pairs word == 1 then without word pairs else put word_order word (number_in pairs word - 1) pairs

-- The number of a word, and 0 where it has none.
abbrev pub number_at : FinMap word_order ℕ → ℕ → ℕ
number_at map word = unwrap_or (get map word) 0

-- One more at a text.
abbrev pub raised : FinMap word_order ℕ → ℕ → FinMap word_order ℕ
raised map word = insert map word (number_at map word + 1)

-- One less, and the text goes with its last one.
abbrev pub lowered : FinMap word_order ℕ → ℕ → FinMap word_order ℕ
lowered map word = if number_at map word == 1 then remove map word else insert map word (number_at map word - 1)
