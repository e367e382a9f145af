-- Keys of at most 1,024 bytes are those of judyhs arrays.
use Rattle.std.proofs.Common.{ℕ, List}
use Rattle.judy_model.specs.Keys.{IsBytesKey, byte_order}
use Rattle.judy_model.specs.KeyLengths.{IsBytesKeyTo}
use Rattle.judy_model.specs.Arrays.{ArrayOf, IsArrayOf, IsArray, judyhs}
use Rattle.judy_model.specs.declared.keys.TheConstants.{LONGEST_KEY}

pub key_of_judyhs : (key : List ℕ) → IsBytesKey key → IsBytesKeyTo LONGEST_KEY key
key_of_judyhs key is = record { is_byte_string = is.is_byte_string; within_limit = is.within_limit }

pub judyhs_key : (key : List ℕ) → IsBytesKeyTo LONGEST_KEY key → IsBytesKey key
judyhs_key key is = record { is_byte_string = is.is_byte_string; within_limit = is.within_limit }

pub is_judyhs : (array : ArrayOf byte_order) → IsArrayOf (IsBytesKeyTo LONGEST_KEY) array → IsArray (judyhs array)
is_judyhs array is = record {
  holds_some = is.holds_some;
  limit_is_word = is.limit_is_word;
  within_limit = is.within_limit;
  keys_are = λ k d within. judyhs_key _ (is.keys_are k d within);
  values_are = is.values_are;
}
