-- A root from which a key is taken out.
use Rattle.std.proofs.Common.{◌≡◌, ◌≢◌, ℕ, ◌^◌, ◌<◌, ◌≤◌, Bool, true, false, true≢false, Some, None, [], ◌∷◌, length, get_or, sym, refl, ap, ◌∙◌, subst, arith}
use Rattle.judy_leaf.specs.KeyLists.{shift}
use Rattle.judy_node.specs.Trees.{Pairs, Tree, IsTight, IsMap, IsChild}
use Rattle.judy_node.specs.Roots.{empty_tree, one_tree}
use Rattle.judy_node.proofs.Maps.{shift-zero}
use Rattle.judy_change.specs.declared.removed.Removed.{Removed}
use Rattle.judy_change.specs.Removals.{value_in, without, IsRemoved, IsGone}
use Rattle.judy_change.proofs.Without.{value-same, value-apart, without-same, without-apart, without-absent, length-without}

-- The key isn't there.
pub absent_kept : (key : ℕ) (old : Tree) (answer : Removed) → value_in old.pairs key ≡ None → answer ≡ record { was = false; value = 0; shrunk = true } → IsRemoved key old old answer
absent_kept key old answer none is =
    subst (IsRemoved key old old) (sym is)
    (record {
      found = none;
      gone = sym (without-absent old.pairs key none);
      zero_value = λ _. refl;
      same = λ _. refl;
      whole = λ _. refl;
      tight = λ tight _. tight;
      short = λ _ never. absurd (true≢false never);
    })

-- It is gone, and a root of one pair or none is left.
pub gone_small : (key value : ℕ) (old new : Tree) (answer : Removed) → value_in old.pairs key ≡ Some value → new.pairs ≡ without key old.pairs → IsTight new →
    answer ≡ record { was = true; value = value; shrunk = true } → IsRemoved key old new answer
gone_small key value old new answer found gone tight is =
    subst (IsRemoved key old new) (sym is)
    (record {
      found = found;
      gone = gone;
      zero_value = λ never. absurd (true≢false never);
      same = λ never. absurd (true≢false never);
      whole = λ never. absurd (true≢false never);
      tight = λ _ _. tight;
      short = λ _ never. absurd (true≢false never);
    })

pub gone_many : (words key value : ℕ) (old new : Tree) (shrunk : Bool) (answer : Removed) → IsGone words 8 key old new value shrunk →
    answer ≡ record { was = true; value = value; shrunk = shrunk } → IsRemoved key (record old { width = 8 }) (record new { width = 8 }) answer
gone_many words key value old new shrunk answer below is =
    subst (IsRemoved key (record old { width = 8 }) (record new { width = 8 })) (sym is)
    (record {
      found = below.found;
      gone = below.gone;
      zero_value = λ never. absurd (true≢false never);
      same = λ never. absurd (true≢false never);
      whole = λ never. absurd (true≢false never);
      tight = below.tight;
      short = below.short;
    })

pub one_gone : (only value key : ℕ) (answer : Removed) → only ≡ key → answer ≡ record { was = true; value = value; shrunk = true } → IsRemoved key (one_tree only value) empty_tree answer
one_gone only value key answer same is = gone_small key value (one_tree only value) empty_tree answer (value-same (only, value) [] key same) (sym (without-same (only, value) [] key same)) refl is

pub one_kept : (only value key : ℕ) (answer : Removed) → only ≢ key → answer ≡ record { was = false; value = 0; shrunk = true } → IsRemoved key (one_tree only value) (one_tree only value) answer
one_kept only value key answer apart is = absent_kept key (one_tree only value) answer (value-apart (only, value) [] key apart) is

-- Two pairs, by their places.
pub two_pairs : (pairs : Pairs) → length pairs ≡ 2 → pairs ≡ get_or pairs 0 (0, 0) ∷ get_or pairs 1 (0, 0) ∷ []
two_pairs [] two = let never : ⊥ = omega arith in absurd never
two_pairs (first ∷ []) two = let never : ⊥ = omega arith in absurd never
two_pairs (first ∷ second ∷ []) two = refl
two_pairs (first ∷ second ∷ third ∷ pairs) two = let never : ⊥ = omega arith in absurd never

-- The same of pairs that were written into a slice.
pub two_filled : (out pairs : Pairs) → out ≡ shift 0 pairs → length pairs ≡ 2 → pairs ≡ get_or out 0 (0, 0) ∷ get_or out 1 (0, 0) ∷ []
two_filled out pairs filled two = let is = filled ∙ shift-zero 0 pairs refl in sym is ∙ two_pairs out (ap length is ∙ two)

-- ---- a root of two pairs

module _ (words key : ℕ) (old : Tree) (first second : ℕ × ℕ) (is : old.pairs ≡ first ∷ second ∷ []) (map : IsMap words 0 (256 ^ 8) old.pairs) where
  both_map : IsMap words 0 (256 ^ 8) (first ∷ second ∷ [])
  both_map = subst (IsMap words 0 (256 ^ 8)) is map

  pub first_root : (first.0 < 256 ^ 8) × (words ≡ 0 → first.1 ≡ 0)
  first_root = (both_map.1, both_map.2)

  pub second_root : (second.0 < 256 ^ 8) × (words ≡ 0 → second.1 ≡ 0)
  second_root = (both_map.3.1, both_map.3.2)

  pub first_gone : (answer : Removed) → first.0 ≡ key → answer ≡ record { was = true; value = first.1; shrunk = true } → IsRemoved key (record old { width = 8 }) (one_tree second.0 second.1) answer
  first_gone answer same told =
      let later = both_map.3.0 in
      gone_small key first.1 (record old { width = 8 }) (one_tree second.0 second.1) answer
      (ap (λ ps. value_in ps key) is ∙ value-same first (second ∷ []) key same)
      (sym (ap (without key) is ∙ without-same first (second ∷ []) key same ∙ without-apart second [] key (λ other. let never : ⊥ = omega arith in absurd never)))
      refl told

  pub second_gone : (answer : Removed) → first.0 ≢ key → second.0 ≡ key → answer ≡ record { was = true; value = second.1; shrunk = true } →
      IsRemoved key (record old { width = 8 }) (one_tree first.0 first.1) answer
  second_gone answer apart same told =
      gone_small key second.1 (record old { width = 8 }) (one_tree first.0 first.1) answer
      (ap (λ ps. value_in ps key) is ∙ value-apart first (second ∷ []) key apart ∙ value-same second [] key same)
      (sym (ap (without key) is ∙ without-apart first (second ∷ []) key apart ∙ ap (λ rest. first ∷ rest) (without-same second [] key same)))
      refl told

  pub neither_kept : (answer : Removed) → first.0 ≢ key → second.0 ≢ key → answer ≡ record { was = false; value = 0; shrunk = true } →
      IsRemoved key (record old { width = 8 }) (record old { width = 8 }) answer
  neither_kept answer apart other told =
      absent_kept key (record old { width = 8 }) answer (ap (λ ps. value_in ps key) is ∙ value-apart first (second ∷ []) key apart ∙ value-apart second [] key other) told

-- Keys are left.
pub gone_two : (words key value : ℕ) (old new : Tree) (shrunk : Bool) → IsChild words 8 old → IsGone words 8 key old new value shrunk → 3 ≤ length old.pairs → 2 ≤ length new.pairs
gone_two words key value old new shrunk child below three =
    let fewer = length-without words 0 (256 ^ 8) key value old.pairs child.map below.found in
    let long = ap length below.gone in
    omega arith
