use Rattle.std.proofs.Common.{◌+◌, sym, subst, ap, set, ◌∙◌, refl}
use Rattle.std.specs.List.{insert}
use Rattle.judy_block.specs.Contents.{Contents, with_gap}
use Rattle.judy_leaf.specs.ValueChanges.{IsValueChange}
use Rattle.judy_leaf.proofs.ValueSteps.{value_put}
use Rattle.judy_leaf.proofs.values.insert.Goals as goal

pub returns : goal.returns
returns c =
    let before = c.args.block.now in
    let written : Contents → Contents = λ block. record block { words = set block.words c.args.at c.args.value } in
    subst (IsValueChange c.args.count c.args.count (c.args.count + 1) (λ values. insert values c.args.at c.args.value) before) (sym (c.put.ensures ∙ ap written c.open_gap.ensures))
    (value_put c.args.count c.args.at c.args.value before (set (with_gap c.args.at 1 before.words) c.args.at c.args.value) c.requires.place c.requires.keys refl)
