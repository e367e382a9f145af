-- A walk up through the keys of an array, and which of them are meant beside another array.
use Rattle.std.specs.Prelude.{◌≡◌, ℕ, Bool, true, false, not, if◌then◌else◌, List, Some}
use Rattle.std.specs.Ordering.{is_gt, is_ge}
use Rattle.std.specs.FinMap.{FinMap, empty, get, contains_key, remove, retain_keys}
use Rattle.judy_model.specs.Keys.{byte_order}
use Rattle.judy_model.specs.TwoMaps.{union, intersection, difference}
use Rattle.judy_sl.specs.Cursors.{Standing}
use Rattle.judy_string_sets.specs.declared.which.Which.{Which}
use Rattle.judy_string_sets.specs.declared.which.Which.TheVariants.{All, Common, Alone}

abbrev pub Strings : Type 0
Strings = FinMap byte_order ℕ

-- What a cursor has still before it: the keys from its bytes on, and once it has begun, those above them.
abbrev pub to_come : Bool → Strings → List ℕ → Strings
to_come false map key = retain_keys map (λ other. is_ge (byte_order other key))
to_come true map key = retain_keys map (λ other. is_gt (byte_order other key))

abbrev pub ahead : Bool → Standing → Standing
ahead begun at = record { map = to_come begun at.map at.key; key = at.key }

-- A key with its value was taken out of a map.
pub record IsTaken (before : Strings) (key : List ℕ) (value : ℕ) (after : Strings) : Type 0 where
  pub held : get before key ≡ Some value
  pub left : after ≡ remove before key

-- Whether a key of the one is meant: any, one that the other has too, one that the other lacks.
abbrev pub passes : Which → Strings → List ℕ → Bool
passes All other key = true
passes Common other key = contains_key other key
passes Alone other key = not (contains_key other key)

-- The keys of the one that are meant.
abbrev pub picked : Which → Strings → Strings → Strings
picked All one other = one
picked Common one other = intersection one other
picked Alone one other = difference one other

-- Those that the other has alone, where they are wanted.
abbrev pub rest_of : Bool → Strings → Strings → Strings
rest_of rest one other = if rest then difference other one else empty

-- Both.
abbrev pub kept : Which → Bool → Strings → Strings → Strings
kept which rest one other = union (picked which one other) (rest_of rest one other)
