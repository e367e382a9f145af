use Rattle.std.proofs.Common.{sym, ap, subst, ◌∙◌, arith}
use Rattle.judy_records.specs.Texts.{words_of}
use Rattle.judy_records.proofs.PadLemmas.{text-back}
use Rattle.judy_tails.specs.Inside.{pair_of, IsRecord}
use Rattle.judy_tails.proofs.long.LongTail.new.Goals as goal

pub invariant_of-result : goal.invariant_of-result
invariant_of-result c =
    subst IsRecord (sym c.in_ok-words.ensures) (record { some = omega arith; whole = ap words_of (sym (text-back c.args.text.now c.requires)) })

pub returns : goal.returns
returns c = ap pair_of c.in_ok-words.ensures ∙ (λ t. (text-back c.args.text.now c.requires t, c.args.value))
