-- `set_first`: the key is absent, since a null handle stands for the set without keys, and the set that was made has it alone.
use Rattle.std.proofs.Common.{Some, refl, ap, ◌∙◌}
use Rattle.judy_model.specs.Keys.{word_order}
use Rattle.judy_model.specs.Arrays.{ArrayOf, with_map, ins}
use Rattle.judy_word.specs.WordArrays.{WordArray}
use Rattle.judy_c.proofs.WordHandles.{null_has_none, changed_first}
use Rattle.judy_c.proofs.judy1.set_first.Goals as goal

pub returns-in-Ok : goal.returns-in-Ok
returns-in-Ok c = (
  null_has_none _ c.args.key c.requires,
  changed_first (λ (array : ArrayOf word_order). with_map array (ins array.map c.args.key)) _ _ _ c.requires
      (c.fill.ensures ∙ ap (λ (array : WordArray). Some array) (c.of.ensures ∙ c.in-Ok.ensures.ok))
      c.of_one.ensures.set,
)

pub returns : goal.returns
returns c = (null_has_none _ c.args.key c.requires, refl)
