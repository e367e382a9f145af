-- Kinds of the code as the definitions see them.
use Rattle.std.specs.Prelude.{ℕ, List, codes}
use Rattle.judy_model.specs.Arrays.{ArrayValue, judy1, judyl, judysl, judyhs, empty_array}
use Rattle.judy_shelf.specs.declared.kind.Kind.{Kind}
use Rattle.judy_shelf.specs.declared.kind.Kind.TheVariants.{Judy1, JudyL, JudySl, JudyHs}

-- The word of a kind.
abbrev pub kind_word : Kind → List ℕ
kind_word Judy1 = codes "judy1"
kind_word JudyL = codes "judyl"
kind_word JudySl = codes "judysl"
kind_word JudyHs = codes "judyhs"

-- A kind is known by its empty array for each limit.
abbrev pub empty_of_kind : Kind → ℕ → ArrayValue
empty_of_kind Judy1 = λ limit. judy1 (empty_array limit)
empty_of_kind JudyL = λ limit. judyl (empty_array limit)
empty_of_kind JudySl = λ limit. judysl (empty_array limit)
empty_of_kind JudyHs = λ limit. judyhs (empty_array limit)
