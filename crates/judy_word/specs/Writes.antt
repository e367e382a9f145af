-- A value written through a slot.
use Rattle.std.specs.Prelude.{ℕ}
use Rattle.judy_model.specs.Keys.{word_order}
use Rattle.judy_model.specs.Arrays.{ArrayOf, with_map, write}

-- The array with a value written at a key.
abbrev pub with_value : ArrayOf word_order → ℕ → ℕ → ArrayOf word_order
with_value array key value = with_map array (write array.map key value)
