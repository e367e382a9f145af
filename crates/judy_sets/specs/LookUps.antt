-- The keys of one array, looked up in another.
use Rattle.std.specs.Prelude.{ℕ, Bool, not, Option, Some, None, if◌then◌else◌}
use Rattle.std.specs.Option.{option_map}
use Rattle.std.specs.FinMap.{FinMap, find, get, contains_key}
use Rattle.judy_model.specs.Keys.{word_order}
use Rattle.judy_model.specs.Arrays.{ArrayOf}
use Rattle.judy_combine.specs.Merges.{Pairs}
use Rattle.judy_sets.specs.Fills.{worth, IsAdded}

-- Whether a key is looked for: one that the map has, or one that it lacks.
abbrev pub is_wanted : Bool → FinMap word_order ℕ → ℕ → Bool
is_wanted wanted map key = if wanted then contains_key map key else not (contains_key map key)

-- Of what the one and the other have at a key, what is taken where both have it: the other's value, or the one's.
abbrev pub common : Bool → Option ℕ → Option ℕ → Option ℕ
common theirs (Some v) (Some w) = Some (if theirs then w else v)
common theirs (Some v) None = None
common theirs None o = None

-- The pairs whose keys a map has were put in.
abbrev pub IsCommonPut : ℕ → Bool → ArrayOf word_order → ArrayOf word_order → Pairs → FinMap word_order ℕ → Type 0
IsCommonPut words theirs before after pairs map = IsAdded before after (λ key. option_map (worth words) (common theirs (find word_order key pairs) (get map key)))
