use Rattle.std.proofs.Common.{◌≡◌, ◌+◌, ◌-◌, ◌*◌, sym, subst, ◌∙◌, arith}
use Rattle.std.specs.List.{remove}
use Rattle.judy_leaf.specs.Leaves.{AreKeysFrom}
use Rattle.judy_leaf.specs.KeyChanges.{IsKeyChange}
use Rattle.judy_leaf.specs.ValueChanges.{IsValueChange}
use Rattle.judy_leaf.proofs.PairSteps.{take_with_value, take_without}
use Rattle.judy_leaf.proofs.pairs.take.Goals as goal

pub returns-then-WORDS-eq1 : goal.returns-then-WORDS-eq1
returns-then-WORDS-eq1 g c =
    let before = c.args.block.now in
    let mid = c.remove.new.block in
    let left = c.args.count - 1 in
    let inside = c.requires.inside in
    let e : c.args.count ≡ left + 1 = omega arith in
    take_with_value g.V.Words.WORDS left c.args.at before mid c.remove-then-WORDS-eq1.new.block (sym c.WORDS.ensures ∙ c.if-WORDS-eq1.true) (omega arith)
    (subst (λ n. AreKeysFrom before.tag n (g.V.Words.WORDS * n) before) e (subst (λ w. AreKeysFrom w c.args.count (g.V.Words.WORDS * c.args.count) before) (sym c.requires.tag) c.requires.keys))
    (subst (λ n. IsKeyChange before.tag n n left (λ keys. remove keys c.args.at) before mid) e (subst
    (λ w. IsKeyChange w c.args.count c.args.count left (λ keys. remove keys c.args.at) before mid) (sym c.requires.tag) c.remove.ensures))
    (subst (λ n. IsValueChange left n left (λ values. remove values c.args.at) mid c.remove-then-WORDS-eq1.new.block) e c.remove-then-WORDS-eq1.ensures)

pub returns-else-WORDS-eq1 : goal.returns-else-WORDS-eq1
returns-else-WORDS-eq1 g c =
    let before = c.args.block.now in
    let left = c.args.count - 1 in
    let inside = c.requires.inside in
    let is = c.WORDS.ensures in
    let most = c.requires.one in
    let apart = c.if-WORDS-eq1.false in
    let e : c.args.count ≡ left + 1 = omega arith in
    take_without g.V.Words.WORDS left c.args.at before c.remove-else-WORDS-eq1.new.block (omega arith) (omega arith)
    (subst (λ n. AreKeysFrom before.tag n (g.V.Words.WORDS * n) before) e (subst (λ w. AreKeysFrom w c.args.count (g.V.Words.WORDS * c.args.count) before) (sym c.requires.tag) c.requires.keys))
    (subst (λ n. IsKeyChange before.tag 0 n left (λ keys. remove keys c.args.at) before c.remove-else-WORDS-eq1.new.block) e
    (subst (λ w. IsKeyChange w 0 c.args.count left (λ keys. remove keys c.args.at) before c.remove-else-WORDS-eq1.new.block) (sym c.requires.tag) c.remove-else-WORDS-eq1.ensures))
