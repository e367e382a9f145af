-- Pages of pairs, and two of them gone through side by side.
use Rattle.std.proofs.Common.{◌≡◌, ℕ, ◌+◌, ◌-◌, ◌<◌, ◌≤◌, ◌⊎◌, ⊎_elim, ◌++◌, map, length, take, drop, sym, ap, ◌∙◌, subst, arith}
use Rattle.std.proofs.Math.ListN.{drop_of_length-le}
use Rattle.std.specs.Option.{option_or}
use Rattle.std.specs.FinMap.{find}
use Rattle.std.proofs.lemmas.List.{map-id, take_at, length-append, length-drop, length-take-le, take-append-drop}
use Rattle.judy_combine.specs.declared.keep.Keep.{Keep}
use Rattle.judy_model.specs.Keys.{word_order}
use Rattle.judy_combine.specs.Merges.{Pairs, Ascends, pick, IsMerged}
use Rattle.judy_sets.specs.Pages.{Ahead, rest, IsPart}
use Rattle.judy_combine.proofs.Finds.{ascends-drop}

-- The pairs of a page are the next of those that were left.
pub page_is : (left out page : Pairs) (told : ℕ) → told ≤ length left → page ≡ map (λ (pair : ℕ × ℕ). (pair.0, pair.1)) (take told left) ++ drop told out → take told page ≡ take told left
page_is left out page told within is =
    ap (take told) (is ∙ ap (λ (part : Pairs). part ++ drop told out) (map-id (take told left))) ∙ take_at (take told left) (drop told out) told (length-take-le told left within)

pub page_and_rest : (left out page left_after : Pairs) (told : ℕ) → told ≤ length left → page ≡ map (λ (pair : ℕ × ℕ). (pair.0, pair.1)) (take told left) ++ drop told out →
    left_after ≡ drop told left → take told page ++ left_after ≡ left
page_and_rest left out page left_after told within is others = (λ t. page_is left out page told within is t ++ others t) ∙ take-append-drop told left

pub length_ahead : (page : Pairs) (at end : ℕ) → end ≤ length page → length (drop at (take end page)) ≡ end - at
length_ahead page at end within = length-drop at (take end page) ∙ ap (λ n. n - at) (length-take-le end page within)

-- Where all of a page was passed, what was behind is left.
pub page_passed : (page behind : Pairs) (at end count : ℕ) → end ≤ length page → at + count ≡ end → drop count (drop at (take end page)) ++ behind ≡ behind
page_passed page behind at end count within is =
    let long = length_ahead page at end within in ap (λ (ps : Pairs). ps ++ behind) (drop_of_length-le (drop at (take end page)) (omega (arith, long, is)))

-- A part of two.
module _ (keep : Keep) (left right left_after right_after : Ahead) (one other : Pairs) (passed_left passed_right : ℕ) where
  up : (ahead after : Ahead) (passed : ℕ) → rest after ≡ drop passed ahead.0 ++ ahead.1 → Ascends 0 (rest ahead) → Ascends 0 (rest after)
  up ahead after passed is ascends = subst (Ascends 0) (sym is) (ascends-drop 0 passed ahead.0 ahead.1 ascends)

  long : (ahead after : Ahead) (passed : ℕ) → rest after ≡ drop passed ahead.0 ++ ahead.1 → length (rest after) ≡ (length ahead.0 - passed) + length ahead.1
  long ahead after passed is = ap length is ∙ length-append (drop passed ahead.0) ahead.1 ∙ ap (λ n. n + length ahead.1) (length-drop passed ahead.0)

  pub part_is : (out : Pairs) (count : ℕ) → one ≡ left.0 → other ≡ right.0 → 0 < length one → 0 < length other → passed_left ≤ length one → passed_right ≤ length other
      → (passed_left ≡ length one) ⊎ (passed_right ≡ length other)
      → rest left_after ≡ drop passed_left left.0 ++ left.1 → rest right_after ≡ drop passed_right right.0 ++ right.1
      → Ascends 0 (rest left) → Ascends 0 (rest right) → count ≤ length out → IsMerged keep one other passed_left passed_right (take count out)
      → IsPart keep left right left_after right_after out count
  part_is out count ours theirs some_ours some_theirs within_left within_right ended left_is right_is left_up right_up room merged =
      let long_left = long left left_after passed_left left_is in
      let long_right = long right right_after passed_right right_is in
      let whole_left = length-append left.0 left.1 in
      let whole_right = length-append right.0 right.1 in
      let same_left = ap length ours in
      let same_right = ap length theirs in record {
        within = room;
        left_up = up left left_after passed_left left_is left_up;
        right_up = up right right_after passed_right right_is right_up;
        taken = λ key.
            let by = subst (λ (ps : Pairs). IsMerged keep ps right.0 passed_left passed_right (take count out)) ours
            (subst (λ (ps : Pairs). IsMerged keep one ps passed_left passed_right (take count out)) theirs merged) in
            (λ t. option_or (find word_order key (take count out)) (pick keep (find word_order key (left_is t)) (find word_order key (right_is t)))) ∙ by left.1 right.1 left_up right_up key;
        fewer = ⊎_elim
            (λ (all : passed_left ≡ length one). omega (arith, all, long_left, long_right, whole_left, whole_right, same_left, same_right, some_ours, within_right))
            (λ (all : passed_right ≡ length other). omega (arith, all, long_left, long_right, whole_left, whole_right, same_left, same_right, some_theirs, within_left))
            ended;
      }
