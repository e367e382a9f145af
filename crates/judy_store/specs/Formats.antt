-- The format of a dump by its number.
use Rattle.std.specs.Prelude.{ℕ, ◌==◌, if◌then◌else◌}
use Rattle.judy_model.specs.DumpText.{Version, jdy1, jdy2}

-- The second format is 2, and the first every other number.
abbrev pub version_of : ℕ → Version
version_of format = if format == 2 then jdy2 else jdy1
