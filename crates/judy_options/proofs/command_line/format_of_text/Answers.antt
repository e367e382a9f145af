use Rattle.std.proofs.Common.{arith}
use Rattle.judy_options.proofs.FormatLemmas.{format_spelled, no_format_spelled}
use Rattle.judy_options.proofs.command_line.format_of_text.Goals as goal

pub returns-in-Ok : goal.returns-in-Ok
returns-in-Ok c =
    let parsed = c.in-Ok.ensures.value.0 in
    let same = parsed.1 in
    let low = c.if-number-ge1.true in
    let high = c.if-number-le2.true in
    format_spelled c.args.text.now c.in-Ok.number same (parsed.0.0, parsed.0.1, omega (arith, same, low), omega (arith, same, high))

pub returns-in_default-3 : goal.returns-in_default-3
returns-in_default-3 c = no_format_spelled c.args.text.now (λ is. c.in_default.ensures.value.0 (is.0, is.1))
