use Rattle.std.proofs.Common.{◌≡◌, ◌+◌, ◌-◌, sym, subst, refl, arith}
use Rattle.std.specs.List.{remove}
use Rattle.judy_block.specs.Contents.{without_gap}
use Rattle.judy_leaf.specs.Leaves.{AreKeysFrom}
use Rattle.judy_leaf.specs.ValueChanges.{IsValueChange}
use Rattle.judy_leaf.proofs.ValueSteps.{value_taken}
use Rattle.judy_leaf.proofs.values.remove.Goals as goal

pub returns : goal.returns
returns c =
    let before = c.args.block.now in
    let fewer = c.args.count - 1 in
    let inside = c.requires.inside in
    let e : c.args.count ≡ fewer + 1 = omega arith in
    subst (IsValueChange fewer c.args.count fewer (λ values. remove values c.args.at) before) (sym c.close_gap.ensures)
    (subst (λ n. IsValueChange fewer n fewer (λ values. remove values c.args.at) before (record before { words = without_gap c.args.at 1 before.words })) (sym e)
    (value_taken fewer c.args.at before (without_gap c.args.at 1 before.words) (omega arith) (subst (λ n. AreKeysFrom before.tag fewer n before) e c.requires.keys) refl))
