use Rattle.std.proofs.Common.{arith}
use Rattle.judy_laws.proofs.laws.key_lengths.a_string_is_a_key_from_its_length_on.Goals as goal

pub returns : goal.returns
returns c = record {
  fits = λ key bytes no_zero. record { is_bytes_key = record { is_byte_string = bytes; within_limit = omega arith }; without_zero = no_zero };
  too_long = λ longest key longer is. let short = is.is_bytes_key.within_limit in omega (arith, longer, short);
}
