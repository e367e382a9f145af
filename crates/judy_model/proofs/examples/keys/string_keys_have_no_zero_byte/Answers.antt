use Rattle.std.proofs.Common.{◌<◌, ◌≢◌, arith}
use Rattle.std.proofs.lemmas.List.Elements.{All-replicate}
use Rattle.judy_model.proofs.examples.keys.string_keys_have_no_zero_byte.Goals as goal

pub returns-clause-longest : goal.returns-clause-longest
returns-clause-longest c = record {
  is_bytes_key = record { is_byte_string = All-replicate (λ byte. byte < 256) 1024 255 (omega arith); within_limit = omega arith };
  without_zero = All-replicate (λ byte. byte ≢ 0) 1024 255 (omega arith);
}
