use Rattle.std.proofs.Common.{◌+◌, length}
use Rattle.judy_model.specs.Keys.{word_order}
use Rattle.judy_model.specs.Arrays.{ArrayOf}
use Rattle.judy_sets.specs.Fills.{IsFilled}
use Rattle.judy_combine.specs.Merges.{Ascends}
use Rattle.judy_sets.specs.Pages.{rest}
use Rattle.judy_sets.proofs.fills.fill.Given as goal

-- to put in what is kept of those that are left comes to what putting in all that is kept does
abbrev pub invariant-pages : goal.invariant-pages
invariant-pages g l = record {
  left_up : Ascends 0 (rest l.left);
  right_up : Ascends 0 (rest l.right);
  later : (new : ArrayOf word_order) → IsFilled g.V.Words.WORDS l.keep l.made new (rest l.left) (rest l.right) → IsFilled g.V.Words.WORDS l.keep l.fn.made new (rest l.fn.left) (rest l.fn.right);
}

abbrev pub decreases-pages : goal.decreases-pages
decreases-pages g l = length (rest l.left) + length (rest l.right)
