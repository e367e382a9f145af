use Rattle.std.proofs.Common.{length}
use Rattle.judy_model.specs.Keys.{word_order}
use Rattle.judy_model.specs.Arrays.{ArrayOf}
use Rattle.judy_sets.specs.Fills.{IsPut}
use Rattle.judy_sets.specs.Pages.{rest}
use Rattle.judy_sets.proofs.fills.put_rest.Given as goal

-- to put in those that are left comes to what putting in all of them does
abbrev pub invariant-pages : goal.invariant-pages
invariant-pages g l = (new : ArrayOf word_order) → IsPut g.V.Words.WORDS l.made new (rest l.pages) → IsPut g.V.Words.WORDS l.fn.made new (rest l.fn.pages)

abbrev pub decreases-pages : goal.decreases-pages
decreases-pages g l = length (rest l.pages)
