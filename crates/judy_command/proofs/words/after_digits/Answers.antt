use Rattle.std.proofs.Common.{◌+◌, ◌-◌, ◌*◌, ◌<◌, ◌^◌, length, get_or, sym, subst, arith, refl}
use Rattle.std.specs.Char.{is_ascii_digit, digit_value}
use Rattle.std.proofs.lemmas.List.Folds.{list_all_at}
use Rattle.judy_command.proofs.Numerals.{failed, passed, one_more, next_power, fits_word}
use Rattle.judy_command.proofs.DigitLemmas.{after_more}
use Rattle.judy_command.proofs.words.after_digits.Goals as goal

pub overflow_mul-number : goal.overflow_mul-number
overflow_mul-number c =
    let fits = fits_word c.loop-byte.number 0 (19 - length c.args.digits.now + c.loop-byte.byte-index) c.loop-byte.invariant.small (omega arith) (omega (arith, c.loop-byte-test.true)) in omega arith

pub overflow_add-number : goal.overflow_add-number
overflow_add-number c =
    let fits = fits_word c.loop-byte.number c.in-Some.digit (19 - length c.args.digits.now + c.loop-byte.byte-index) c.loop-byte.invariant.small c.in-Some.ensures.small
    (omega (arith, c.loop-byte-test.true)) in omega arith

pub loop-byte-preserved : goal.loop-byte-preserved
loop-byte-preserved c =
    let digits = c.args.digits.now in
    let i = c.loop-byte.byte-index in
    let here = c.loop-byte-test.true in
    let is = passed (is_ascii_digit (get_or digits i 0)) (digit_value (get_or digits i 0)) c.in-Some.digit c.digit_of.result c.digit_of.ensures.value c.in-Some.is in
    record {
      within = omega arith;
      digits = one_more digits i here c.loop-byte.invariant.digits is.0;
      number = rw (c.loop-byte.invariant.number, is.1) (sym (after_more c.args.number digits i here));
      small =
          subst (λ n. c.loop-byte.number * 10 + c.in-Some.digit < 10 ^ n) (omega arith) (next_power c.loop-byte.number c.in-Some.digit
          (19 - length digits + i) c.loop-byte.invariant.small c.in-Some.ensures.small);
    }

pub returns-in_default : goal.returns-in_default
returns-in_default c =
    let digits = c.args.digits.now in
    let i = c.loop-byte.byte-index in
    let not = failed (is_ascii_digit (get_or digits i 0)) (digit_value (get_or digits i 0)) c.digit_of.result c.digit_of.ensures.value c.in_default.is in
    rw (list_all_at is_ascii_digit digits i 0 c.loop-byte-test.true not) refl
