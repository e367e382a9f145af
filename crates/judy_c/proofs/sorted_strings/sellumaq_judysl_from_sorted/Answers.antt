use Rattle.std.proofs.Common.{refl, ap, ◌∙◌, Option}
use Rattle.std.specs.FinMap as finmap
use Rattle.judy_model.specs.Keys.{byte_order}
use Rattle.judy_model.specs.Arrays.{ArrayOf}
use Rattle.judy_c.specs.KeyWalks.{page_of}
use Rattle.judy_c.specs.StringMaps.{array_of}
use Rattle.judy_c.proofs.SortedStrings.{unfit_answered}
use Rattle.judy_c.proofs.sorted_strings.sellumaq_judysl_from_sorted.Goals as goal

pub returns-in-Ok : goal.returns-in-Ok
returns-in-Ok c = (
  c.in-Ok.ensures.whole,
  ap (λ (o : Option (ArrayOf byte_order)). finmap.entries (array_of o).map) c.fill.ensures ∙ c.in-Ok.ensures.made,
  ap (λ (o : Option (ArrayOf byte_order)). (array_of o).limit) c.fill.ensures ∙ c.in-Ok.ensures.limit,
  refl,
)

pub returns-in-Err : goal.returns-in-Err
returns-in-Err c = unfit_answered (page_of c.args.bytes.now c.args.entries.now) _ _ c.in-Err.fault _ _ _ c.in-Err.ensures.refused c.refused.ensures.number c.refused.ensures.place refl
