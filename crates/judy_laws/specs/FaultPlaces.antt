-- Dumps up to a field, of which the examples of faults speak.
use Rattle.std.specs.Prelude.{ℕ, List, [], ◌∷◌, ◌++◌, codes}
use Rattle.judy_model.specs.DumpExamples.{small, heading, head_of_prefixes}

-- The beginning of a dump of one array `a` up to its kind.
abbrev pub up_to_kind : List ℕ
up_to_kind = heading 1 ++ 1 ∷ 97 ∷ []

-- The beginning of a dump of one judysl array with the keys of no bytes and `ab`, up to the third key of three: in the
-- first format.
abbrev pub up_to_third_key : List ℕ
up_to_third_key = heading 1 ++ head_of_prefixes ++ 0 ∷ 0 ∷ small 1 ++ 0 ∷ 2 ∷ codes "ab" ++ small 2

-- The beginning of a dump of an array `a` of a kind with the limit 2 and two keys, up to the first of these.
abbrev pub up_to_keys : ℕ → List ℕ
up_to_keys kind = up_to_kind ++ kind ∷ small 2 ++ small 2
