use Rattle.std.proofs.Common.{◌-◌, ◌%◌, ◌^◌, ap, ◌∙◌, arith}
use Rattle.std.proofs.lemmas.Bool.{leb-true}
use Rattle.judy_change.proofs.AroundFacts.{last_word}
use Rattle.judy_change.proofs.around.spans.Goals as goal

pub overflow_sub-result : goal.overflow_sub-result
overflow_sub-result c =
    let last = last_word c.args.width c.requires.width in
    let rest = c.requires.rest in
    let is = c.low_part-last.ensures ∙ ap (λ n. 18446744073709551615 % 256 ^ n) c.from.ensures in
    omega (arith, last, rest, is)

pub returns : goal.returns
returns c = λ so.
    let near = leb-true (c.low_part-last.result - c.args.rest) c.args.span.after so in
    let last = last_word c.args.width c.requires.width in
    let rest = c.requires.rest in
    let is = c.low_part-last.ensures ∙ ap (λ n. 18446744073709551615 % 256 ^ n) c.from.ensures in
    (c.if-rest-span.false, omega (arith, last, rest, is, near))
