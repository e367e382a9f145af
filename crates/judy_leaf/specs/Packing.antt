-- Keys of a few bytes packed into words: a word has as many places as whole keys fit into its eight bytes, the first of
-- them in its lowest bits.
use Rattle.std.specs.Prelude.{◌≡◌, ℕ, zero, suc, ◌-◌, ◌*◌, ◌/◌, ◌%◌, ◌^◌, ◌<◌, ◌≤◌, List, [], ◌∷◌, ◌++◌, length, take, drop, replicate}
use Rattle.std.specs.List.{AllByRecursion}

-- The digits of a number in a base, so many, the lowest first.
abbrev pub digits : ℕ → ℕ → ℕ → List ℕ
digits base zero number = []
digits base (suc count) number = (number % base) ∷ digits base count (number / base)

-- What stands in the places of a word, for keys of a width in bytes: its digits in base 256^width.
abbrev pub places : ℕ → ℕ → List ℕ
places width word = digits (256 ^ width) (8 / width) word

-- The same for words in a row.
abbrev pub places_of : ℕ → List ℕ → List ℕ
places_of width [] = []
places_of width (word ∷ words) = places width word ++ places_of width words

-- The bits of a word above its places are 0.
abbrev pub HasZeroPadding : ℕ → ℕ → Type 0
HasZeroPadding width word = word < (256 ^ width) ^ (8 / width)

-- A width is 1 to 8 bytes.
pub record IsWidth (width : ℕ) : Type 0 where
  pub some : 1 ≤ width
  pub most : width ≤ 8

-- The keys that words hold, so many: what stands in their first places.
abbrev pub keys_in : ℕ → ℕ → List ℕ → List ℕ
keys_in width count words = take count (places_of width words)

-- Words hold so many keys, and all their other bits are 0.
pub record IsPacked (width count : ℕ) (words : List ℕ) : Type 0 where
  pub is_width : IsWidth width
  pub enough : count ≤ length words * (8 / width)
  pub clear : drop count (places_of width words) ≡ replicate (length words * (8 / width) - count) 0
  pub tight : AllByRecursion (HasZeroPadding width) words

-- A list with an element put in at a place: those from there on move on by one, and the last falls out.
abbrev pub pushed : ℕ → ℕ → List ℕ → List ℕ
pushed at key [] = []
pushed zero key (x ∷ xs) = key ∷ pushed zero x xs
pushed (suc at) key (x ∷ xs) = x ∷ pushed at key xs

-- A list without the element at a place, and another at its end.
abbrev pub pulled : ℕ → ℕ → List ℕ → List ℕ
pulled at last [] = []
pulled zero last (x ∷ xs) = xs ++ last ∷ []
pulled (suc at) last (x ∷ xs) = x ∷ pulled at last xs
