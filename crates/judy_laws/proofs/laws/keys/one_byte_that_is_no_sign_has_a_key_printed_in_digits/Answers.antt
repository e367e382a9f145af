use Rattle.judy_laws.proofs.lemmas.PrintedKeys.{printed-signs, printed-digits}
use Rattle.judy_laws.proofs.laws.keys.one_byte_that_is_no_sign_has_a_key_printed_in_digits.Goals as goal

pub returns : goal.returns
returns c = record { signs = printed-signs; digits = printed-digits }
