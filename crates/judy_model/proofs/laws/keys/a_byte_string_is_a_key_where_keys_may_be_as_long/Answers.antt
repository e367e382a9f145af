use Rattle.std.proofs.Common.{◌≤◌, arith}
use Rattle.judy_model.proofs.lemmas.orders.KeyLengthLemmas.{judyhs_key, key_of_judyhs}
use Rattle.judy_model.proofs.laws.keys.a_byte_string_is_a_key_where_keys_may_be_as_long.Goals as goal

pub returns : goal.returns
returns c = record {
  as_long = λ key bytes. record { is_byte_string = bytes; within_limit = omega arith };
  longer = λ longest more key most is. record { is_byte_string = is.is_byte_string; within_limit = let within = is.within_limit in omega arith };
  judyhs = λ key. (key_of_judyhs key, judyhs_key key);
  shorter = λ longest key over is. let within = is.within_limit in omega arith;
}
