-- Pairs in chunks: one list of pairs after the other.
use Rattle.std.specs.Prelude.{◌≡◌, ◌<◌, ◌≤◌, ◌^◌, ℕ, suc, List, [], ◌∷◌, length, take, drop, map, get_or, set, T}
use Rattle.std.specs.List.{flat_map, remove}
use Rattle.std.specs.FinMap.{is_sorted}
use Rattle.judy_model.specs.Keys.{word_order}
use Rattle.judy_sums.specs.Groups.{AreGroups}
use Rattle.judy_sums.specs.Pairs.{Pairs, sum_of}

-- A chunk begins at the word or below it; one without pairs does so by any.
abbrev pub BeginsBy : Pairs → ℕ → Type 0
BeginsBy [] word = Unit {0}
BeginsBy (pair ∷ rest) word = pair.0 ≤ word

-- It begins above the word.
abbrev pub BeginsAbove : Pairs → ℕ → Type 0
BeginsAbove [] word = Unit {0}
BeginsAbove (pair ∷ rest) word = word < pair.0

-- A word is the first of the pairs; without pairs any is.
abbrev pub IsFirst : Pairs → ℕ → Type 0
IsFirst [] word = Unit {0}
IsFirst (pair ∷ rest) word = word ≡ pair.0

-- Each word of the pairs is less than the given one.
abbrev pub AllBelow : Pairs → ℕ → Type 0
AllBelow [] word = Unit {0}
AllBelow (pair ∷ rest) word = (pair.0 < word) × AllBelow rest word

-- Each is at least the given one.
abbrev pub AllFrom : Pairs → ℕ → Type 0
AllFrom [] word = Unit {0}
AllFrom (pair ∷ rest) word = (word ≤ pair.0) × AllFrom rest word

-- The place that a word has among pairs, or would have: the words before it are less, and the others aren't.
pub record IsPlace (pairs : Pairs) (word at : ℕ) : Type 0 where
  pub within : at ≤ length pairs
  pub before : AllBelow (take at pairs) word
  pub behind : AllFrom (drop at pairs) word

-- The words strictly ascend.
abbrev pub Ascends : Pairs → Type 0
Ascends pairs = T (is_sorted word_order pairs)

-- The pairs of all chunks, in a row.
abbrev pub joined : List Pairs → Pairs
joined chunks = flat_map (λ chunk. chunk) chunks

-- The sum of each chunk.
abbrev pub totals_of : List Pairs → List ℕ
totals_of chunks = map sum_of chunks

-- What stands beside chunks: the sum of each, and the sums of groups of these.
pub record AreTotals (chunks : List Pairs) (totals groups : List ℕ) : Type 0 where
  pub each : totals ≡ totals_of chunks
  pub grouped : AreGroups totals groups

-- The chunks with another in the place of one, or without it where the other has no pair.
abbrev pub with_left : List Pairs → ℕ → Pairs → List Pairs
with_left chunks at [] = remove chunks at
with_left chunks at (pair ∷ rest) = set chunks at (pair ∷ rest)

-- Each chunk has a pair.
abbrev pub AllFilled : List Pairs → Type 0
AllFilled [] = Unit {0}
AllFilled ([] ∷ rest) = ⊥
AllFilled ((pair ∷ chunk) ∷ rest) = AllFilled rest

-- What always holds of chunks: their words ascend, from each to the next too, each has a pair, and the pairs and their sum are
-- words.
pub record AreChunks (chunks : List Pairs) : Type 0 where
  pub ascend : Ascends (joined chunks)
  pub filled : AllFilled chunks
  pub few : length (joined chunks) < 2 ^ 64
  pub fits : sum_of (joined chunks) < 2 ^ 64

-- A word belongs to the chunk at a place: those before it have lesser words alone, and those behind it greater ones.
pub record BelongsTo (chunks : List Pairs) (word at : ℕ) : Type 0 where
  pub within : at < length chunks
  pub before : AllBelow (joined (take at chunks)) word
  pub behind : AllFrom (joined (drop (suc at) chunks)) (suc word)

-- A word stands among pairs at a place.
pub record StandsIn (pairs : Pairs) (word at : ℕ) : Type 0 where
  pub within : at < length pairs
  pub text : (get_or pairs at (0, 0)).0 ≡ word

-- The pair at a place of a chunk.
abbrev pub pair_at : List Pairs → ℕ → ℕ → ℕ × ℕ
pair_at chunks chunk at = get_or (get_or chunks chunk []) at (0, 0)

-- It stands in a chunk.
pub record StandsAt (chunks : List Pairs) (word chunk at : ℕ) : Type 0 where
  pub within : chunk < length chunks
  pub stands : StandsIn (get_or chunks chunk []) word at

-- The place that a word has, or would have: the chunk to which it belongs, and its place in there.
pub record IsSpot (chunks : List Pairs) (word chunk at : ℕ) : Type 0 where
  pub belongs : BelongsTo chunks word chunk
  pub place : IsPlace (get_or chunks chunk []) word at
