use Rattle.std.proofs.Common.{◌-◌, ◌^◌, length, sym, ◌∙◌, arith}
use Rattle.std.proofs.lemmas.Bool.{eqb-true, eqb-false}
use Rattle.judy_word.proofs.FrontFacts.{none_below, last_below}
use Rattle.judy_word.proofs.filling.is_above.Goals as goal

pub returns-then-is_empty : goal.returns-then-is_empty
returns-then-is_empty g c = λ _. none_below c.args.key c.args.pairs.now (eqb-true (length c.args.pairs.now) 0 (sym c.is_empty.ensures ∙ c.if-is_empty.true))

pub returns : goal.returns
returns g c =
    let some = eqb-false (length c.args.pairs.now) 0 (sym c.is_empty.ensures ∙ c.if-is_empty.false) in
    λ _. last_below g.V.Words.WORDS 0 (256 ^ 8) c.args.key (length c.args.pairs.now - 1) c.args.pairs.now (0, 0) c.requires (omega (arith, some)) c.if-key-pairs.false
