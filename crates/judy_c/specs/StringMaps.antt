-- The array over strings that a handle stands for.
use Rattle.std.specs.Prelude.{Option, unwrap_or}
use Rattle.judy_c.specs.declared.strings.Strings.{Strings}
use Rattle.judy_c.specs.NullArrays.{empty_keyed}
use Rattle.judy_model.specs.Keys.{byte_order}
use Rattle.judy_model.specs.Arrays.{ArrayOf}

-- The array that a handle holds; one that holds none stands for the empty array that may hold the most keys.
abbrev pub array_of : Option (ArrayOf byte_order) → ArrayOf byte_order
array_of held = unwrap_or held empty_keyed

-- The array of a handle.
abbrev pub array_in : Strings → ArrayOf byte_order
array_in handle = array_of handle.array
