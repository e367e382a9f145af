use Rattle.std.proofs.Common.{length}
use Rattle.judy_model.specs.Keys.{word_order}
use Rattle.judy_model.specs.Arrays.{ArrayOf}
use Rattle.std.specs.FinMap.{entries}
use Rattle.judy_sets.specs.LookUps.{IsCommonPut}
use Rattle.judy_sets.specs.Pages.{rest}
use Rattle.judy_sets.proofs.lookups.put_common.Given as goal

-- to put in those that are left comes to what putting in all of them does
abbrev pub invariant-pages : goal.invariant-pages
invariant-pages g l = (new : ArrayOf word_order) → IsCommonPut g.V.Words.WORDS l.theirs l.made new (rest l.pages) l.many.map
    → IsCommonPut g.V.Words.WORDS l.theirs l.fn.made new (entries l.few.map) l.many.map

abbrev pub decreases-pages : goal.decreases-pages
decreases-pages g l = length (rest l.pages)
