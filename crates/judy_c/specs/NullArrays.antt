-- The arrays without keys for which null handles stand.
use Rattle.judy_model.specs.Keys.{byte_order}
use Rattle.judy_model.specs.Arrays.{ArrayOf, empty_array}
use Rattle.judy_word.specs.WordArrays.{WordArray, no_keys}

-- Of words: the one that may hold any number of keys.
abbrev pub unbounded : WordArray
unbounded = no_keys 18446744073709551615

-- Of strings or of byte strings: the one that may hold the most keys.
abbrev pub empty_keyed : ArrayOf byte_order
empty_keyed = empty_array 4294967295
