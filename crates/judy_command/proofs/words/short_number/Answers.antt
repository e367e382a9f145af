use Rattle.std.proofs.Common.{◌-◌, length, sym, ◌∙◌, ap, arith}
use Rattle.std.proofs.Math.Nat.{pow-le-pow_right}
use Rattle.judy_command.specs.Digits.{number_after}
use Rattle.judy_command.proofs.DigitLemmas.{front_small, front_read, front_refused}
use Rattle.judy_command.proofs.words.short_number.Goals as goal

pub returns-then-not-are_digits : goal.returns-then-not-are_digits
returns-then-not-are_digits c =
    let cut = c.in-Some.ensures.cases in
    front_refused c.args.digits.now c.in-Some.front.now c.in-Some.rest.now 16 cut.0 cut.1 (sym c.are_digits.ensures ∙ c.if-not-are_digits.true)

pub after_digits-requires-clause-small : goal.after_digits-requires-clause-small
after_digits-requires-clause-small c =
    let cut = c.in-Some.ensures.cases in
    let digits = sym c.are_digits.ensures ∙ c.if-not-are_digits.false in
    rw c.value_of_sixteen.ensures (front_small c.args.digits.now c.in-Some.front.now c.in-Some.rest.now 16 cut.0 cut.1 (omega (arith, cut.2)) c.requires digits)

pub returns-in-Some : goal.returns-in-Some
returns-in-Some c =
    let cut = c.in-Some.ensures.cases in
    let digits = sym c.are_digits.ensures ∙ c.if-not-are_digits.false in
    c.after_digits.ensures ∙ ap (λ n. number_after n c.in-Some.rest.now) c.value_of_sixteen.ensures
    ∙ front_read c.args.digits.now c.in-Some.front.now c.in-Some.rest.now 16 cut.0 cut.1 digits

pub returns-then-not-are_digits-2 : goal.returns-then-not-are_digits-2
returns-then-not-are_digits-2 c =
    let found = c.in-Some-split_first_chunk in
    let cut = found.ensures.cases in
    front_refused c.args.digits.now found.front.now found.rest.now 8 cut.0 cut.1 (sym c.are_digits-in-Some-split_first_chunk.ensures ∙ c.if-not-are_digits-2.true)

pub after_digits-requires-in-Some-split_first_chunk-clause-small : goal.after_digits-requires-in-Some-split_first_chunk-clause-small
after_digits-requires-in-Some-split_first_chunk-clause-small c =
    let found = c.in-Some-split_first_chunk in
    let cut = found.ensures.cases in
    let digits = sym c.are_digits-in-Some-split_first_chunk.ensures ∙ c.if-not-are_digits-2.false in
    rw c.value_of_eight.ensures (front_small c.args.digits.now found.front.now found.rest.now 8 cut.0 cut.1 (omega (arith, cut.2)) c.requires digits)

pub returns-in-Some-split_first_chunk : goal.returns-in-Some-split_first_chunk
returns-in-Some-split_first_chunk c =
    let found = c.in-Some-split_first_chunk in
    let cut = found.ensures.cases in
    let digits = sym c.are_digits-in-Some-split_first_chunk.ensures ∙ c.if-not-are_digits-2.false in
    c.after_digits-in-Some-split_first_chunk.ensures ∙ ap (λ n. number_after n found.rest.now) c.value_of_eight.ensures
    ∙ front_read c.args.digits.now found.front.now found.rest.now 8 cut.0 cut.1 digits

pub after_digits-requires-2-clause-small : goal.after_digits-requires-2-clause-small
after_digits-requires-2-clause-small c =
    let one = pow-le-pow_right {n = 10} (omega arith) {i = 0} {j = 19 - length c.args.digits.now} (omega arith) in omega arith
