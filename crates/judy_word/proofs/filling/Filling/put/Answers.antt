use Rattle.std.proofs.Common.{subst}
use Rattle.judy_model.specs.Keys.{word_order}
use Rattle.judy_model.specs.Arrays.{ArrayOf, with_map}
use Rattle.judy_word.specs.Held.{with_new}
use Rattle.judy_word.specs.Refusals.{IsRefusalOfAll}
use Rattle.judy_word.proofs.filling.Filling.put.Goals as goal

pub returns-in_default-clause-refused : goal.returns-in_default-clause-refused
returns-in_default-clause-refused g c =
    subst (λ (array : ArrayOf word_order). IsRefusalOfAll (with_map array (with_new array.map c.args.key c.args.value)) c.refusal_of.result) c.in_default.ensures.unchanged
    (c.refusal_of.ensures c.args.value)
