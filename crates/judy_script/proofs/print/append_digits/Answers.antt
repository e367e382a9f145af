use Rattle.std.proofs.Common.{◌++◌, rules, ap, ◌∙◌}
use Rattle.judy_script.proofs.KeyTexts.{encode_lower-digits_of, of_success}
use Rattle.judy_script.proofs.print.append_digits.Goals as goal

pub returns-clause-items : goal.returns-clause-items
returns-clause-items c =
    let written = of_success c.encode_to_slice.result (c.encode_to_slice.ensures.fits.1 (search rules)) c.encode_to_slice.ensures.written in
    c.append.ensures.items ∙ ap (λ digits. c.args.text.now ++ digits) (written ∙ encode_lower-digits_of c.args.bytes.now (λ i. (c.type_inv.bytes i).fits))
