-- What two lists of pairs that ascend have at each key, as both are gone through side by side.
use Rattle.std.specs.Prelude.{◌≡◌, ℕ, suc, ◌+◌, ◌≤◌, Bool, if◌then◌else◌, List, [], ◌∷◌, ◌++◌, Option, Some, None, is_some, drop}
use Rattle.std.specs.Option.{option_or}
use Rattle.std.specs.FinMap.{find}
use Rattle.judy_model.specs.Keys.{word_order}
use Rattle.judy_node.specs.Trees.{IsMap}
use Rattle.judy_combine.specs.declared.keep.Keep.{Keep}

abbrev pub Pairs : Type 0
Pairs = List (ℕ × ℕ)

-- The keys strictly ascend from one on.
abbrev pub Ascends : ℕ → Pairs → Type 0
Ascends low [] = Unit {0}
Ascends low (pair ∷ pairs) = (low ≤ pair.0) × Ascends (pair.0 + 1) pairs

-- None is above a word.
abbrev pub UpTo : ℕ → Pairs → Type 0
UpTo to [] = Unit {0}
UpTo to (pair ∷ pairs) = (pair.0 ≤ to) × UpTo to pairs

-- Of what the left one and the right one have at a key, what is taken: of a key that both have the left one's value.
abbrev pub taken : (left both right : Bool) → Option ℕ → Option ℕ → Option ℕ
taken left both right None None = None
taken left both right None (Some theirs) = if right then Some theirs else None
taken left both right (Some ours) None = if left then Some ours else None
taken left both right (Some ours) (Some theirs) = if both then Some ours else None

abbrev pub pick : Keep → Option ℕ → Option ℕ → Option ℕ
pick keep ours theirs = taken keep.left keep.both keep.right ours theirs

-- How many keys of the one list the other has too.
abbrev pub met : Pairs → Pairs → ℕ
met [] other = 0
met (pair ∷ pairs) other = if is_some (find word_order pair.0 other) then suc (met pairs other) else met pairs other

-- The fronts of two lists that ascend were passed, so many pairs of each: what is taken there is a list.
abbrev pub IsMerged : Keep → Pairs → Pairs → ℕ → ℕ → Pairs → Type 0
IsMerged keep one other left right out =
    (one_more other_more : Pairs) → Ascends 0 (one ++ one_more) → Ascends 0 (other ++ other_more) → (key : ℕ) →
    option_or (find word_order key out) (pick keep (find word_order key (drop left one ++ one_more)) (find word_order key (drop right other ++ other_more)))
    ≡ pick keep (find word_order key (one ++ one_more)) (find word_order key (other ++ other_more))

-- Those that are written ascend, below all that are still to be passed.
pub record IsOrdered (words top : ℕ) (one other : Pairs) (left right : ℕ) (out : Pairs) : Type 0 where
  pub low : ℕ
  pub inside : low ≤ top
  pub front : IsMap words 0 low out
  pub left_up : IsMap words low top (drop left one)
  pub right_up : IsMap words low top (drop right other)
