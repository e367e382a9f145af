-- An array that is read as the set of its keys.
use Rattle.std.specs.Prelude.{◌≡◌, All}
use Rattle.std.specs.FinMap.{values}
use Rattle.judy_model.specs.Keys.{word_order}
use Rattle.judy_model.specs.Arrays.{ArrayOf}

-- Each value is 0.
abbrev pub IsSet : ArrayOf word_order → Type 0
IsSet array = All (λ value. value ≡ 0) (values array.map)
