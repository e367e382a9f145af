-- An array of words as its callers see it: the map that it is, and its nodes.
use Rattle.std.specs.Prelude.{◌≡◌, ℕ, Bool, true, false, []}
use Rattle.std.specs.FinMap.{FinMap, empty, contains_key}
use Rattle.judy_model.specs.Keys.{word_order}
use Rattle.judy_model.specs.Arrays.{ArrayOf, write}
use Rattle.judy_model.specs.Forms.{Form}
use Rattle.judy_word.specs.Held.{Held, map_in}
use Rattle.judy_word.specs.Writes as writes

-- How many keys it may hold; the map from its keys to their values; its nodes, each before its children; and whether one of them
-- may be larger than its keys need.
pub record WordArray : Type 0 where
  pub limit : ℕ
  pub map : FinMap word_order ℕ
  pub form : Form
  pub loose : Bool

-- The array of the definitions that it is, whatever its nodes are.
abbrev pub array_of : WordArray → ArrayOf word_order
array_of array = record { limit = array.limit; map = array.map }

-- The array without keys, so without nodes, and not loose.
abbrev pub no_keys : ℕ → WordArray
no_keys limit = record { limit = limit; map = empty; form = []; loose = false }

-- The array with a value written at a key that is there: its nodes stay.
abbrev pub with_value : WordArray → ℕ → ℕ → WordArray
with_value array key value = record array { map = write array.map key value }

-- What an array is after an insert, a value being left in the slot of the key: that key has the value, all else is as it was, but
-- for the nodes of an array that lacked the key. It is loose where it was, and only there.
pub record IsWritten (before : WordArray) (key value : ℕ) (after : WordArray) : Type 0 where
  pub array : array_of after ≡ writes.with_value (array_of before) key value
  pub loose : after.loose ≡ before.loose
  pub present : contains_key before.map key ≡ true → after ≡ with_value before key value

-- A tree with its limit, as callers see it: its pairs are the map.
abbrev pub seen_as : Held → WordArray
seen_as held = record { limit = held.limit; map = map_in held; form = held.tree.form; loose = held.loose }
