use Rattle.std.proofs.Common.{◌≡◌, ℕ, ◌⊎◌, Some, Contains}
use Rattle.slab.specs.Slab as slab
use Rattle.judy_model.specs.Keys.{IsWord, word_order}
use Rattle.judy_model.specs.Arrays.{ArrayOf, IsArrayOf}
use Rattle.judy_sl.specs.LevelLists.{words_in}
use Rattle.judy_sl.proofs.level_list.LevelList.law.Given as goal

-- Each level is still to come, or has words alone.
abbrev pub invariant-loop-words : goal.invariant-loop-words
invariant-loop-words l =
    (goal.iterator-loop-words).can_next l.words-iterator ×
    (goal.iterator-loop-words).is_finite l.words-iterator ×
    ((index : ℕ) (words : ArrayOf word_order) → words_in (slab.get l.self index) ≡ Some words → Contains l.words-iterator (index, words) ⊎ IsArrayOf IsWord words)
