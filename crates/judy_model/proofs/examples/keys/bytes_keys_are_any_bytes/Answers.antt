use Rattle.std.proofs.Common.{◌<◌, arith}
use Rattle.std.proofs.lemmas.List.Elements.{All-replicate}
use Rattle.judy_model.proofs.examples.keys.bytes_keys_are_any_bytes.Goals as goal

pub returns-clause-longest : goal.returns-clause-longest
returns-clause-longest c = record { is_byte_string = All-replicate (λ byte. byte < 256) 1024 0 (omega arith); within_limit = omega arith }
