use Rattle.std.proofs.Common.{length}
use Rattle.judy_model.specs.Keys.{word_order}
use Rattle.judy_model.specs.Arrays.{ArrayOf}
use Rattle.judy_sets.specs.Fills.{IsFrontPut}
use Rattle.judy_combine.specs.Merges.{Ascends}
use Rattle.judy_sets.specs.Pages.{rest}
use Rattle.judy_sets.proofs.range_puts.put_up_to.Given as goal

-- to put in those that are left up to the key comes to what putting in all of them up to it does
abbrev pub invariant-pages : goal.invariant-pages
invariant-pages g l = record {
  up : Ascends 0 (rest l.pages);
  later : (new : ArrayOf word_order) → IsFrontPut g.V.Words.WORDS l.to l.made new (rest l.pages) → IsFrontPut g.V.Words.WORDS l.to l.fn.made new (rest l.fn.pages);
}

abbrev pub decreases-pages : goal.decreases-pages
decreases-pages g l = length (rest l.pages)
