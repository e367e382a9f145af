-- Lines and scripts of which the examples speak.
use Rattle.std.specs.Prelude.{ℕ, false, List, ◌∷◌, ◌++◌, codes, replicate}
use Rattle.judy_model.specs.Lines.{Line}

-- The last line of a script, which no LF ended.
abbrev pub last_line : List ℕ → Line
last_line bytes = record { bytes = bytes; ended = false }

-- So many letters `x` (120), and a comment, which begins with `;` (59), of so many bytes.
abbrev pub letters : ℕ → List ℕ
letters count = replicate count 120

abbrev pub comment : ℕ → List ℕ
comment count = replicate count 59

-- So many spaces (32).
abbrev pub spaces : ℕ → List ℕ
spaces count = replicate count 32

-- A script of two lines that makes an array and puts a key into it. An LF ends the first, which has 13 bytes with it.
abbrev pub make_and_ins : List ℕ
make_and_ins = codes "make a judyl" ++ 10 ∷ codes "ins a 5 7"
