-- What is kept of two sets of bytes.
use Rattle.std.specs.Prelude.{Bool, false, if◌then◌else◌}
use Rattle.judy_combine.specs.declared.keep.Keep.{Keep}

-- Whether a key is kept, by whether the one set has it and whether the other does.
abbrev pub is_kept : Keep → Bool → Bool → Bool
is_kept keep ours theirs = if ours then (if theirs then keep.both else keep.left) else (if theirs then keep.right else false)
