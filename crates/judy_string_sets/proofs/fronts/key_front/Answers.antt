use Rattle.std.proofs.Common.{length, inl, inr, arith, ◌∙◌}
use Rattle.std.proofs.lemmas.Bool.{cases_lt}
use Rattle.judy_string_sets.proofs.FrontFacts.{begins_within, begins_at}
use Rattle.judy_string_sets.proofs.fronts.key_front.Goals as goal

pub returns-else-bytes-count-ne0-clause-most : goal.returns-else-bytes-count-ne0-clause-most
returns-else-bytes-count-ne0-clause-most c = λ key is begins.
    let count = c.bytes.count in
    elim (cases_lt count (length key)) [
      | inl inside ↦ absurd (is.without_zero count 0 inside (begins_at key c.args.bytes.now count begins inside ∙ c.if-bytes-count-ne0.false))
      | inr short ↦ omega (arith, short)
    ]

pub returns-after-bytes-clause-most : goal.returns-after-bytes-clause-most
returns-after-bytes-clause-most c = λ key is begins.
    let within = begins_within key c.args.bytes.now begins in
    omega (arith, within, c.bytes-test.false)
