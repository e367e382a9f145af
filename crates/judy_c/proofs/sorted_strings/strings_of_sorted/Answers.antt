use Rattle.std.proofs.Common.{ap, ◌∙◌}
use Rattle.judy_sl.specs.Sorted.{pairs_in}
use Rattle.judy_sl.specs.declared.sorted.SlSortedError.TheVariants.{NoMemory}
use Rattle.judy_c.specs.KeyWalks.{page_of}
use Rattle.judy_c.proofs.SortedStrings.{list_unfit, handed_on}
use Rattle.judy_c.proofs.sorted_strings.strings_of_sorted.Goals as goal

pub returns-in_err-array-clause-refused : goal.returns-in_err-array-clause-refused
returns-in_err-array-clause-refused c =
    let page = page_of c.args.bytes.now c.args.entries.now in
    let fault = c.in_err-array.field-0.0 in
    handed_on page fault c.from_residual.result c.from_residual.ensures.1
    (list_unfit page c.deref.result.now fault c.in-Ok.ensures.whole (ap pairs_in c.deref.ensures.value ∙ c.in-Ok.ensures.listed) c.in_err-array.ensures.refused)

pub returns-in_default-clause-refused : goal.returns-in_default-clause-refused
returns-in_default-clause-refused c =
    list_unfit (page_of c.args.bytes.now c.args.entries.now) c.deref.result.now NoMemory c.in-Ok.ensures.whole (ap pairs_in c.deref.ensures.value ∙ c.in-Ok.ensures.listed) c.in_ok-array.ensures.sorted
