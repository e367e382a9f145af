-- The kinds of arrays by their words. (This project's own words; the kinds are the manual's.)
use Rattle.std.specs.Prelude.{ℕ, if◌then◌else◌, List, codes, bytes_eq, Option, Some, None}
use Rattle.judy_model.specs.Arrays.{ArrayValue, judy1, judyl, judysl, judyhs, empty_array}

-- The word of an array's kind.
abbrev pub kind_word_of : ArrayValue → List ℕ
kind_word_of (judy1 set) = codes "judy1"
kind_word_of (judyl array) = codes "judyl"
kind_word_of (judysl array) = codes "judysl"
kind_word_of (judyhs array) = codes "judyhs"

-- The kind that a kind word names, as its empty array for each limit.
abbrev pub kind_named : List ℕ → Option (ℕ → ArrayValue)
kind_named word =
    if bytes_eq word (codes "judy1") then Some (λ limit. judy1 (empty_array limit))
    else if bytes_eq word (codes "judyl") then Some (λ limit. judyl (empty_array limit))
    else if bytes_eq word (codes "judysl") then Some (λ limit. judysl (empty_array limit))
    else if bytes_eq word (codes "judyhs") then Some (λ limit. judyhs (empty_array limit))
    else None
