use Rattle.std.proofs.Common.{rules, sym, ap, ◌∙◌}
use Rattle.judy_command.specs.KeyReads.{key_or_refusal}
use Rattle.judy_command.proofs.KeyReadLemmas.{digits-too_long, digits-decoded, digits-refused}
use Rattle.judy_command.proofs.keys.read_digits.Goals as goal

pub returns-then-count-gt-LONGEST_KEY : goal.returns-then-count-gt-LONGEST_KEY
returns-then-count-gt-LONGEST_KEY c = digits-too_long c.args.digits.now (search rules)

pub returns-then-is_err : goal.returns-then-is_err
returns-then-is_err c =
    ap key_or_refusal (sym (digits-refused c.args.digits.now c.decode_to_slice.new.out _ (search rules) c.decode_to_slice.result c.decode_to_slice.ensures.value
    (sym c.is_err.ensures.value ∙ c.if-is_err.true)))

pub returns : goal.returns
returns c =
    c.put.ensures
    ∙ ap key_or_refusal (sym (digits-decoded c.args.digits.now c.decode_to_slice.new.out _ (search rules) c.decode_to_slice.result c.decode_to_slice.ensures.value
    (sym c.is_err.ensures.value ∙ c.if-is_err.false)))
