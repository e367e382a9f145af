-- What arrays know of how long their keys may be: of a store's, and of those of any length.
use Rattle.std.specs.Prelude.{◌≤◌, ℕ, List, refl}
use Rattle.std.proofs.Common.{le_refl}
use Rattle.std.proofs.lemmas.Bool.{ltb-false}
use Rattle.judy_model.specs.Keys.{IsStringKey}
use Rattle.judy_model.specs.KeyLengths.{IsStringKeyTo}
use Rattle.judy_model.specs.declared.keys.TheConstants.{LONGEST_KEY, LONGEST_STRING}

-- Both are no longer than a slice may be.
pub store_longest : LONGEST_KEY ≤ LONGEST_STRING
store_longest = ltb-false LONGEST_STRING LONGEST_KEY refl

pub any_longest : LONGEST_STRING ≤ LONGEST_STRING
any_longest = le_refl LONGEST_STRING

-- A store's key is a string of at most 1,024 bytes, and the other way round.
pub store_string : (key : List ℕ) → IsStringKey key → IsStringKeyTo LONGEST_KEY key
store_string key is = record {
  is_bytes_key = record { is_byte_string = is.is_bytes_key.is_byte_string; within_limit = is.is_bytes_key.within_limit };
  without_zero = is.without_zero;
}

pub store_key : (key : List ℕ) → IsStringKeyTo LONGEST_KEY key → IsStringKey key
store_key key is = record {
  is_bytes_key = record { is_byte_string = is.is_bytes_key.is_byte_string; within_limit = is.is_bytes_key.within_limit };
  without_zero = is.without_zero;
}

-- Among keys of any length each string is one.
pub any_string : (key : List ℕ) → IsStringKeyTo LONGEST_STRING key → IsStringKeyTo LONGEST_STRING key
any_string key is = is
