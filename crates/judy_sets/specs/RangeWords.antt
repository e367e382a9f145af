-- The words of a range, as they are put into a set.
use Rattle.std.specs.Prelude.{ℕ, ◌<◌, ◌≤◌, Bool, not, ◌&&◌, nat_le, Some, None, IsTrue, IsFalse, if◌then◌else◌}
use Rattle.std.specs.FinMap.{FinMap, contains_key}
use Rattle.judy_model.specs.Keys.{word_order}
use Rattle.judy_model.specs.Arrays.{ArrayOf}
use Rattle.judy_model.specs.Ranges.{filled, flipped}
use Rattle.judy_sets.specs.Fills.{IsAdded}

-- A set with each word of a range, or with the range turned round.
abbrev pub changed : Bool → FinMap word_order ℕ → ℕ → ℕ → FinMap word_order ℕ
changed turned set from to = if turned then flipped set from to else filled set from to

-- Whether a word comes there: one of the range, but of a range that is turned round no key.
abbrev pub is_put : Bool → FinMap word_order ℕ → ℕ → ℕ → ℕ → Bool
is_put turned set from to word = (nat_le from word && nat_le word to) && not (turned && contains_key set word)

-- The words that a test has were put in.
abbrev pub IsWordsPut : ArrayOf word_order → ArrayOf word_order → (ℕ → Bool) → Type 0
IsWordsPut before after test = IsAdded before after (λ word. if test word then Some 0 else None)

-- No key is from one word to another.
abbrev pub NoneBetween : FinMap word_order ℕ → ℕ → ℕ → Type 0
NoneBetween map from to = (key : ℕ) → from ≤ key → key ≤ to → IsFalse (contains_key map key)

-- A key is the least one from a word on, and isn't above another.
pub record IsLeast (map : FinMap word_order ℕ) (from to key : ℕ) : Type 0 where
  pub held : IsTrue (contains_key map key)
  pub low : from ≤ key
  pub high : key ≤ to
  pub none : (other : ℕ) → from ≤ other → other < key → IsFalse (contains_key map other)
