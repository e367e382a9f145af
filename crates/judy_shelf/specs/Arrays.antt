-- Arrays of the code as the definitions see them.
use Rattle.std.specs.Prelude.{ℕ}
use Rattle.judy_model.specs.Arrays.{ArrayValue, judy1, judyl, judysl, judyhs, empty_array}
use Rattle.judy_word.specs.WordArrays.{array_of, no_keys}
use Rattle.judy_shelf.specs.declared.kind.Kind.{Kind}
use Rattle.judy_shelf.specs.declared.kind.Kind.TheVariants as kind
use Rattle.judy_shelf.specs.declared.array.Array.{Array}
use Rattle.judy_shelf.specs.declared.array.Array.TheVariants.{Judy1, JudyL, JudySl, JudyHs}

-- The array value that an array is.
abbrev pub value_of : Array → ArrayValue
value_of (Judy1 set) = judy1 (array_of set)
value_of (JudyL words) = judyl (array_of words)
value_of (JudySl strings) = judysl strings
value_of (JudyHs bytes) = judyhs bytes

-- The kind of an array.
abbrev pub kind_of : Array → Kind
kind_of (Judy1 set) = kind.Judy1
kind_of (JudyL words) = kind.JudyL
kind_of (JudySl strings) = kind.JudySl
kind_of (JudyHs bytes) = kind.JudyHs

-- The empty array of a kind, which may hold so many keys.
abbrev pub new_array : Kind → ℕ → Array
new_array kind.Judy1 limit = Judy1 (no_keys limit)
new_array kind.JudyL limit = JudyL (no_keys limit)
new_array kind.JudySl limit = JudySl (empty_array limit)
new_array kind.JudyHs limit = JudyHs (empty_array limit)
