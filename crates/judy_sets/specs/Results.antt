-- What is made of two maps.
use Rattle.std.specs.Prelude.{ℕ, ◌+◌, ◌-◌, if◌then◌else◌}
use Rattle.std.specs.FinMap.{FinMap, empty, contains_key, retain_keys}
use Rattle.judy_model.specs.Keys.{word_order}
use Rattle.judy_model.specs.TwoMaps.{union, difference}
use Rattle.judy_combine.specs.declared.keep.Keep.{Keep}

-- The keys that are kept; of a key that both have the left one's value.
unfoldable pub kept : Keep → FinMap word_order ℕ → FinMap word_order ℕ → FinMap word_order ℕ
kept keep one other =
    union (retain_keys one (λ key. if contains_key other key then keep.both else keep.left)) (if keep.right then difference other one else empty)

-- How many those are, of so many keys that each has and so many that both have.
abbrev pub kept_count : Keep → ℕ → ℕ → ℕ → ℕ
kept_count keep one other common = (if keep.both then common else 0) + (if keep.left then one - common else 0) + (if keep.right then other - common else 0)
