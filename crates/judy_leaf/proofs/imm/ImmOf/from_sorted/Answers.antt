use Rattle.std.proofs.Common.{◌%◌, ◌^◌, ◌<◌, get_or, refl, ap, sym, subst, ◌∙◌}
use Rattle.std.proofs.lemmas.Nat.{mod_below}
use Rattle.judy_model.proofs.lemmas.orders.ByteLemmas.{unit_pos}
use Rattle.judy_leaf.proofs.OneKey.{one_low, first_none}
use Rattle.judy_leaf.proofs.imm.ImmOf.from_sorted.Goals as goal

pub one-requires-clause-below : goal.one-requires-clause-below
one-requires-clause-below g c =
    let key = (get_or c.args.pairs.now 0 (0, 0)).0 in
    let low = c.low_part.ensures ∙ ap (λ w. key % 256 ^ w) c.from.ensures in
    subst (λ k. k < 256 ^ c.args.width) (sym low) (mod_below key (256 ^ c.args.width) (unit_pos c.args.width))

pub one-requires-clause-no_value : goal.one-requires-clause-no_value
one-requires-clause-no_value g c = λ none. first_none c.args.pairs.now c.if-pairs-eq1.true (c.requires.no_values none)

pub returns-then-pairs-eq1 : goal.returns-then-pairs-eq1
returns-then-pairs-eq1 g c =
    let pair = get_or c.args.pairs.now 0 (0, 0) in
    let low = c.low_part.ensures ∙ ap (λ w. pair.0 % 256 ^ w) c.from.ensures in
    c.one.ensures ∙ ap (λ ps. record { width = c.args.width; pairs = ps }) (one_low (256 ^ c.args.width) c.low_part.result pair.1 c.args.pairs.now c.if-pairs-eq1.true low refl)
