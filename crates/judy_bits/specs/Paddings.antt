-- A few bytes in an array of seven, the rest of which is filled up with one byte.
use Rattle.std.specs.Prelude.{◌≡◌, ℕ, ◌-◌, ◌≤◌, List, ◌++◌, length, take, drop, replicate}
use Rattle.std.proofs.Common.{sym, ap, ◌∙◌, arith}
use Rattle.std.proofs.lemmas.List.{take-append-drop, length-take, length-drop}

-- The first bytes of the array, so many, are meant; each byte after them is the filler.
pub record IsPadded (filler : ℕ) (array : List ℕ) (count : ℕ) : Type 0 where
  pub seven : length array ≡ 7
  pub within : count ≤ 7
  pub filled : drop count array ≡ replicate (7 - count) filler

-- The array of bytes that are meant.
abbrev pub padded : ℕ → List ℕ → List ℕ
padded filler meant = meant ++ replicate (7 - length meant) filler

-- As many are meant as the count says.
pub length-meant : (filler : ℕ) (array : List ℕ) (count : ℕ) → IsPadded filler array count → length (take count array) ≡ count
length-meant filler array count is = let seven = is.seven in let within = is.within in let long = length-take count array in omega arith

-- The bytes that are meant give the array back.
pub padded-take : (filler : ℕ) (array : List ℕ) (count : ℕ) → IsPadded filler array count → padded filler (take count array) ≡ array
padded-take filler array count is =
    ap (λ n. take count array ++ replicate (7 - n) filler) (length-meant filler array count is)
    ∙ ap (λ rest. take count array ++ rest) (sym is.filled) ∙ take-append-drop count array

-- ---- at the array's end

-- The last bytes of the array, so many, are meant; each byte before them is 0.
pub record IsLed (array : List ℕ) (count : ℕ) : Type 0 where
  pub seven : length array ≡ 7
  pub within : count ≤ 7
  pub zeros : take (7 - count) array ≡ replicate (7 - count) 0

-- The array of bytes that are meant, behind zeros.
abbrev pub led : List ℕ → List ℕ
led meant = replicate (7 - length meant) 0 ++ meant

-- As many are meant as the count says.
pub length-led : (array : List ℕ) (count : ℕ) → IsLed array count → length (drop (7 - count) array) ≡ count
length-led array count is = let seven = is.seven in let within = is.within in let long = length-drop (7 - count) array in omega arith

-- The bytes that are meant give the array back.
pub led-drop : (array : List ℕ) (count : ℕ) → IsLed array count → led (drop (7 - count) array) ≡ array
led-drop array count is =
    ap (λ n. replicate (7 - n) 0 ++ drop (7 - count) array) (length-led array count is)
    ∙ ap (λ front. front ++ drop (7 - count) array) (sym is.zeros) ∙ take-append-drop (7 - count) array
