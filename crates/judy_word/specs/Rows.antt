-- A set and a map as types.
use Rattle.std.specs.Prelude.{ℕ}
use denote.Param.{number}
use denote.RattleType.{RattleType}
use Rattle.judy_leaf.specs.contracts.words.ValueWords as value_words
use Rattle.judy_leaf.specs.contracts.words.ValueWordsWords.TheImpl as words
use Rattle.judy_word.specs.contracts.word_array.WordArray as array

-- With so many words of value a key.
abbrev array_row : ℕ → RattleType
array_row count = array.the_row (value_words.the_row (number count)) (words.ghosts (number count))

abbrev pub judy1_row : RattleType
judy1_row = array_row 0

abbrev pub judyl_row : RattleType
judyl_row = array_row 1
