-- The arrays that the rows are played on, by one form.
use Rattle.std.specs.Prelude.{ℕ, ◌-◌}
use Rattle.std.specs.FinMap.{FinMap}
use Rattle.judy_model.specs.Keys.{word_order}
use Rattle.judy_model.specs.Arrays.{ins, write}
use Rattle.judy_word.specs.WordArrays.{WordArray}
use Rattle.judy_loose.specs.declared.array.PlayedArray.{PlayedArray}
use Rattle.judy_loose.specs.declared.array.PlayedArray.TheVariants.{Set, Map}

-- The array with its nodes.
abbrev pub seen : PlayedArray → WordArray
seen (Set set) = set
seen (Map words) = words

-- The value that a key gets in a map: the word whose bits are the others.
abbrev pub value_of : ℕ → ℕ
value_of word = 18446744073709551615 - word

-- Its map with a key put in.
abbrev pub with_key : PlayedArray → ℕ → FinMap word_order ℕ
with_key (Set set) word = ins set.map word
with_key (Map words) word = write words.map word (value_of word)
