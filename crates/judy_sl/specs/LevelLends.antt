-- What the list of levels becomes, for whatever is left in the entries of one.
use Rattle.std.specs.Prelude.{ℕ}
use Rattle.std.specs.Borrow.{Lends, MutBor, Fml}
use Rattle.judy_model.specs.Keys.{word_order}
use Rattle.judy_model.specs.Arrays.{ArrayOf}
use Rattle.slab.specs.Slab.{Slab}
use Rattle.judy_word.specs.contracts.word_map.WordMap as word_map
use Rattle.judy_sl.specs.LevelLists.{LevelParts, with_words}
use Rattle.judy_sl.specs.contracts.level_list.LevelList.{the_row}

-- The entries of the level are those last left there, and all else stays.
abbrev pub LendsWords : MutBor (Slab LevelParts) → ℕ → MutBor (ArrayOf word_order) → Fml
LendsWords levels index words = Lends the_row word_map.the_row levels words (with_words levels.now index)
