-- The pairs of an array that are still to come, some of which were read ahead.
use Rattle.std.specs.Prelude.{◌≡◌, ℕ, ◌+◌, ◌<◌, ◌≤◌, ◌⊎◌, List, [], ◌++◌, length, take, None, IsTrue, if◌then◌else◌}
use Rattle.std.specs.Ordering.{is_le}
use Rattle.std.specs.FinMap.{FinMap, find, get, contains_key}
use Rattle.std.specs.Option.{option_or}
use Rattle.judy_model.specs.Keys.{word_order}
use Rattle.judy_combine.specs.declared.keep.Keep.{Keep}
use Rattle.judy_combine.specs.Merges.{Pairs, Ascends, pick}

-- Those that were read, and those behind them.
abbrev pub Ahead : Type 0
Ahead = List (ℕ × ℕ) × List (ℕ × ℕ)

abbrev pub rest : Ahead → Pairs
rest ahead = ahead.0 ++ ahead.1

-- A page, of which the pairs from one place to another are still to come: where there are none, none are behind them.
pub record IsPage (page : Pairs) (places at end : ℕ) (behind : Pairs) : Type 0 where
  pub order : at ≤ end
  pub within : end ≤ length page
  pub long : length page ≡ places
  pub last : at ≡ end → behind ≡ []

-- Two lists of pairs were passed in part, and what is taken of that is a list.
abbrev pub IsTaken : Keep → Pairs → Pairs → Pairs → Pairs → Pairs → Type 0
IsTaken keep one other one_rest other_rest out =
    (key : ℕ) →
    option_or (find word_order key out) (pick keep (find word_order key one_rest) (find word_order key other_rest)) ≡ pick keep (find word_order key one) (find word_order key other)

-- One of two is at its end, and both are as they were.
pub record IsEnd (left right left_after right_after : Ahead) : Type 0 where
  pub left_same : left_after ≡ left
  pub right_same : right_after ≡ right
  pub ended : (rest left ≡ []) ⊎ (rest right ≡ [])

-- So many pairs were written to the front of a slice: what is taken of those that were passed, of which there are some.
pub record IsPart (keep : Keep) (left right left_after right_after : Ahead) (out : Pairs) (count : ℕ) : Type 0 where
  pub within : count ≤ length out
  pub left_up : Ascends 0 (rest left_after)
  pub right_up : Ascends 0 (rest right_after)
  pub taken : IsTaken keep (rest left) (rest right) (rest left_after) (rest right_after) (take count out)
  pub fewer : length (rest left_after) + length (rest right_after) < length (rest left) + length (rest right)

-- The keys of a map are words.
abbrev pub AreWords : FinMap word_order ℕ → Type 0
AreWords map = (key : ℕ) → IsTrue (contains_key map key) → key ≤ 18446744073709551615

-- Pairs that ascend are those of a map whose keys aren't below a word.
pub record IsFrom (from : ℕ) (map : FinMap word_order ℕ) (pairs : Pairs) : Type 0 where
  pub up : Ascends 0 pairs
  pub found : (key : ℕ) → find word_order key pairs ≡ (if is_le (word_order from key) then get map key else None)
