use Rattle.std.proofs.Common.{arith}
use Rattle.judy_laws.proofs.laws.key_lengths.a_greater_length_admits_more.Goals as goal

pub returns : goal.returns
returns c = λ shorter longer key less is.
    let short = is.is_bytes_key.within_limit in
    record { is_bytes_key = record { is_byte_string = is.is_bytes_key.is_byte_string; within_limit = omega (arith, less, short) }; without_zero = is.without_zero }
