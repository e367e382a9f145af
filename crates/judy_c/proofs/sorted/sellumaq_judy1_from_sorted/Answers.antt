use Rattle.std.proofs.Common.{refl, ap, ◌∙◌, Option, arith}
use Rattle.std.specs.FinMap as finmap
use Rattle.judy_word.specs.WordArrays.{WordArray}
use Rattle.judy_c.specs.Maps.{array_of}
use Rattle.judy_c.proofs.SortedAnswers.{fault_told}
use Rattle.judy_c.proofs.sorted.sellumaq_judy1_from_sorted.Goals as goal

pub returns-in-Ok : goal.returns-in-Ok
returns-in-Ok c = (
  ap (λ (o : Option WordArray). finmap.keys (array_of o).map) c.fill.ensures ∙ c.in-Ok.ensures.made,
  ap (λ (o : Option WordArray). (array_of o).limit) c.fill.ensures ∙ c.in-Ok.ensures.limit,
  refl,
)

pub returns-in-Err : goal.returns-in-Err
returns-in-Err c = fault_told c.args.keys.now _ _ _ c.in-Err.fault _ _ _ (omega arith) c.in-Err.ensures.refused refl c.refused.ensures
