-- One step through two slices of pairs, of which more may be behind.
use Rattle.std.proofs.Common.{◌≡◌, ◌≢◌, nat_eq, ⊎_elim, refl, ℕ, ◌+◌, ◌<◌, ◌≤◌, Bool, true, false, cond, [], ◌∷◌}
use Rattle.std.proofs.Common.{◌++◌, length, get_or, take, drop, None, sym, ap, ◌∙◌, subst, arith, add-one, add-zero, append-nil}
use Rattle.std.proofs.Math.ListN.{set}
use Rattle.std.proofs.Math.Seq.{drop-cons}
use Rattle.std.proofs.lemmas.List.{take-set, take_more_set}
use Rattle.std.specs.Option.{option_or}
use Rattle.std.specs.FinMap.{find}
use Rattle.judy_model.specs.Keys.{word_order}
use Rattle.judy_combine.specs.declared.keep.Keep.{Keep}
use Rattle.judy_node.specs.Trees.{IsMap}
use Rattle.judy_node.proofs.Maps.{map-wider, map-append}
use Rattle.judy_combine.specs.Merges.{Pairs, Ascends, pick, IsMerged, IsOrdered}
use Rattle.judy_combine.proofs.Finds.{find-below, ascends-drop}
use Rattle.judy_combine.proofs.Merging.{one_if, pass-left, pass-right, pass-both}
use Rattle.std.proofs.Math.Dec.{leb}
use Rattle.std.proofs.lemmas.Bool.{le-leb, lt-leb, leb-true, leb-false}
use Rattle.std.proofs.lemmas.Bool.Decides.{eqb_tells}
use mir.Val.{bool_byte}

-- The pairs from a place on, with what is behind.
from_place : (pairs more : Pairs) (at : ℕ) → at < length pairs → drop at pairs ++ more ≡ get_or pairs at (0, 0) ∷ (drop (at + 1) pairs ++ more)
from_place pairs more at within =
    ap (λ (ps : Pairs). ps ++ more) (drop-cons pairs at (0, 0) within) ∙ ap (λ (n : ℕ). get_or pairs at (0, 0) ∷ (drop n pairs ++ more)) (sym (add-one at))

-- Two words by both tests, and the test whether they are one.
pub by_tests : (one other : ℕ) (P : Bool → Bool → Bool → Type 0) → (one < other → P true false false) → (other < one → P false true false) → (one ≡ other → P true true true) →
    P (leb one other) (leb other one) (nat_eq one other)
by_tests one other P less greater same = ⊎_elim
    (λ h. subst (λ (b : Bool). P b (leb other one) (nat_eq one other)) (sym (le-leb one other (omega (arith, h.1))))
    (subst (λ (b : Bool). P true b (nat_eq one other)) (sym (le-leb other one (omega (arith, h.1)))) (subst (P true true) (sym h.0) (same h.1))))
    (λ h. subst (P (leb one other) (leb other one)) (sym h.0) (apart h.1))
    (eqb_tells one other)
  where
    apart : one ≢ other → P (leb one other) (leb other one) false
    apart unlike = elim (leb one other) as (λ b. leb one other ≡ b → P b (leb other one) false) [
      | true ↦ λ is.
          let below : one < other = (let most = leb-true one other is in omega (arith, most, unlike)) in
          subst (λ (b : Bool). P true b false) (sym (lt-leb other one below)) (less below)
      | false ↦ λ is.
          let above : other < one = leb-false one other is in
          subst (λ (b : Bool). P false b false) (sym (le-leb other one (omega (arith, above)))) (greater above)
    ] refl

pub byte_small : (b : Bool) → bool_byte b ≤ 1
byte_small true = omega arith
byte_small false = omega arith

pub taken_small : (one other : ℕ) (keep : Keep) → bool_byte (cond (leb one other) (cond (leb other one) keep.both keep.left) keep.right) ≤ bool_byte (leb one other) + bool_byte (leb other one)
taken_small one other keep = by_tests one other (λ b c _. bool_byte (cond b (cond c keep.both keep.left) keep.right) ≤ bool_byte b + bool_byte c)
    (λ _. let most = byte_small keep.left in omega (arith, most)) (λ _. let most = byte_small keep.right in omega (arith, most)) (λ _. let most = byte_small keep.both in omega (arith, most))

-- What is behind a place ascends.
behind : (pairs more : Pairs) (at : ℕ) → at < length pairs → Ascends 0 (pairs ++ more) → Ascends ((get_or pairs at (0, 0)).0 + 1) (drop (at + 1) pairs ++ more)
behind pairs more at within up = (subst (Ascends 0) (from_place pairs more at within) (ascends-drop 0 at pairs more up)).1

-- A pair that is written behind others, and counts if it is kept.
pub written : (b : Bool) (out : Pairs) (count : ℕ) (pair : ℕ × ℕ) → count < length out → take (count + bool_byte b) (set out count pair) ≡ take count out ++ one_if b pair
written true out count pair room = take_more_set out count pair room
written false out count pair room = ap (λ (n : ℕ). take n (set out count pair)) (add-zero count) ∙ take-set out count pair ∙ sym (append-nil (take count out))

-- The pairs from a place on.
from_here : (pairs : Pairs) (at : ℕ) → at < length pairs → drop at pairs ≡ get_or pairs at (0, 0) ∷ drop (at + 1) pairs
from_here pairs at within = drop-cons pairs at (0, 0) within ∙ ap (λ (n : ℕ). get_or pairs at (0, 0) ∷ drop n pairs) (sym (add-one at))

-- A pair that may come behind others.
behind_front : (words low : ℕ) (out : Pairs) (b : Bool) (pair : ℕ × ℕ) → low ≤ pair.0 → (words ≡ 0 → pair.1 ≡ 0) → IsMap words 0 low out → IsMap words 0 (pair.0 + 1) (out ++ one_if b pair)
behind_front words low out true pair above zero map =
    map-append words 0 pair.0 (pair.0 + 1) out (pair ∷ []) (omega arith) (omega arith) (map-wider words 0 low 0 pair.0 out (omega arith) above map) (omega arith, omega arith, zero, tt)
behind_front words low out false pair above zero map =
    subst (IsMap words 0 (pair.0 + 1)) (sym (append-nil out)) (map-wider words 0 low 0 (pair.0 + 1) out (omega arith) (omega (arith, above)) map)

module _ (one other : Pairs) (left right : ℕ) (in_one : left < length one) (in_other : right < length other) where
  -- ---- written

  module _ (keep : Keep) (out : Pairs) where
    pub merged_left : (get_or one left (0, 0)).0 < (get_or other right (0, 0)).0 → IsMerged keep one other left right out →
        IsMerged keep one other (left + 1) right (out ++ one_if keep.left (get_or one left (0, 0)))
    merged_left less is = λ one_more other_more up_one up_other key.
        let theirs = get_or other right (0, 0) in
        let rest : Pairs = drop (right + 1) other ++ other_more in
        let other_is : drop right other ++ other_more ≡ theirs ∷ rest = from_place other other_more right in_other in
        let lacks : find word_order (get_or one left (0, 0)).0 (drop right other ++ other_more) ≡ None = ap (find word_order (get_or one left (0, 0)).0) other_is ∙
        find-below (get_or one left (0, 0)).0 theirs.0 (theirs ∷ rest) less (omega arith, behind other other_more right in_other up_other) in
        pass-left keep key out (get_or one left (0, 0)) (drop (left + 1) one ++ one_more) (drop right other ++ other_more) lacks
        ∙ (λ t. option_or (find word_order key out) (pick keep (find word_order key (sym (from_place one one_more left in_one) t)) (find word_order key (drop right other ++ other_more))))
        ∙ is one_more other_more up_one up_other key

    pub merged_right : (get_or other right (0, 0)).0 < (get_or one left (0, 0)).0 → IsMerged keep one other left right out →
        IsMerged keep one other left (right + 1) (out ++ one_if keep.right (get_or other right (0, 0)))
    merged_right less is = λ one_more other_more up_one up_other key.
        let ours = get_or one left (0, 0) in
        let rest : Pairs = drop (left + 1) one ++ one_more in
        let one_is : drop left one ++ one_more ≡ ours ∷ rest = from_place one one_more left in_one in
        let lacks : find word_order (get_or other right (0, 0)).0 (drop left one ++ one_more) ≡ None = ap (find word_order (get_or other right (0, 0)).0) one_is ∙
        find-below (get_or other right (0, 0)).0 ours.0 (ours ∷ rest) less (omega arith, behind one one_more left in_one up_one) in
        pass-right keep key out (get_or other right (0, 0)) (drop left one ++ one_more) (drop (right + 1) other ++ other_more) lacks
        ∙ (λ t. option_or (find word_order key out) (pick keep (find word_order key (drop left one ++ one_more)) (find word_order key (sym (from_place other other_more right in_other) t))))
        ∙ is one_more other_more up_one up_other key

    pub merged_both : (get_or one left (0, 0)).0 ≡ (get_or other right (0, 0)).0 → IsMerged keep one other left right out →
        IsMerged keep one other (left + 1) (right + 1) (out ++ one_if keep.both (get_or one left (0, 0)))
    merged_both same is = λ one_more other_more up_one up_other key.
        let ours = get_or one left (0, 0) in
        let theirs = get_or other right (0, 0) in
        let rest_one : Pairs = drop (left + 1) one ++ one_more in
        let rest_other : Pairs = drop (right + 1) other ++ other_more in
        pass-both keep key out ours theirs rest_one rest_other same (find-below ours.0 (ours.0 + 1) rest_one (omega arith) (behind one one_more left in_one up_one))
        (find-below ours.0 (theirs.0 + 1) rest_other (omega (arith, same)) (behind other other_more right in_other up_other))
        ∙ (λ t. option_or (find word_order key out) (pick keep (find word_order key (sym (from_place one one_more left in_one) t))
        (find word_order key (sym (from_place other other_more right in_other) t))))
        ∙ is one_more other_more up_one up_other key

  -- By the tests of the two keys: the pair that is written is the left one's, unless its key is above the other.
  pub merged_tested : (keep : Keep) (out : Pairs) (count : ℕ) (pair : ℕ × ℕ) → count < length out
      → pair ≡ cond (leb (get_or one left (0, 0)).0 (get_or other right (0, 0)).0) (get_or one left (0, 0)) (get_or other right (0, 0))
      → IsMerged keep one other left right (take count out)
      → IsMerged keep one other (left + bool_byte (leb (get_or one left (0, 0)).0 (get_or other right (0, 0)).0))
      (right + bool_byte (leb (get_or other right (0, 0)).0 (get_or one left (0, 0)).0))
      (take (count + bool_byte (cond (leb (get_or one left (0, 0)).0 (get_or other right (0, 0)).0)
      (cond (leb (get_or other right (0, 0)).0 (get_or one left (0, 0)).0) keep.both keep.left) keep.right)) (set out count pair))
  merged_tested keep out count pair room is merged = by_tests ours.0 theirs.0
      (λ b c e. pair ≡ cond b ours theirs → IsMerged keep one other (left + bool_byte b) (right + bool_byte c)
      (take (count + bool_byte (cond b (cond c keep.both keep.left) keep.right)) (set out count pair)))
      (λ less is. subst (λ (n : ℕ). IsMerged keep one other (left + 1) n (take (count + bool_byte keep.left) (set out count pair))) (sym (add-zero right))
      (put keep.left ours (left + 1) right is (merged_left keep (take count out) less merged)))
      (λ more is. subst (λ (n : ℕ). IsMerged keep one other n (right + 1) (take (count + bool_byte keep.right) (set out count pair))) (sym (add-zero left))
      (put keep.right theirs left (right + 1) is (merged_right keep (take count out) more merged)))
      (λ same is. put keep.both ours (left + 1) (right + 1) is (merged_both keep (take count out) same merged))
      is
    where
      ours : ℕ × ℕ
      ours = get_or one left (0, 0)

      theirs : ℕ × ℕ
      theirs = get_or other right (0, 0)

      put : (b : Bool) (first : ℕ × ℕ) (passed_left passed_right : ℕ) → pair ≡ first → IsMerged keep one other passed_left passed_right (take count out ++ one_if b first) →
          IsMerged keep one other passed_left passed_right (take (count + bool_byte b) (set out count pair))
      put b first passed_left passed_right is merged = subst (IsMerged keep one other passed_left passed_right)
          (sym (written b out count first room) ∙ ap (λ (p : ℕ × ℕ). take (count + bool_byte b) (set out count p)) (sym is)) merged

  -- ---- in order

  module _ (words top : ℕ) (out : Pairs) (is : IsOrdered words top one other left right out) where
    ours_on : IsMap words is.low top (get_or one left (0, 0) ∷ drop (left + 1) one)
    ours_on = subst (IsMap words is.low top) (from_here one left in_one) is.left_up

    theirs_on : IsMap words is.low top (get_or other right (0, 0) ∷ drop (right + 1) other)
    theirs_on = subst (IsMap words is.low top) (from_here other right in_other) is.right_up

    ordered_left : (b : Bool) → (get_or one left (0, 0)).0 < (get_or other right (0, 0)).0 → IsOrdered words top one other (left + 1) right (out ++ one_if b (get_or one left (0, 0)))
    ordered_left b less =
        let first = ours_on in
        let below = first.1 in
        record {
          low = (get_or one left (0, 0)).0 + 1;
          inside = omega (arith, below);
          front = behind_front words is.low out b (get_or one left (0, 0)) first.0 first.2 is.front;
          left_up = first.3;
          right_up = subst (IsMap words ((get_or one left (0, 0)).0 + 1) top) (sym (from_here other right in_other)) (omega (arith, less), theirs_on.1, theirs_on.2, theirs_on.3);
        }

    ordered_right : (b : Bool) → (get_or other right (0, 0)).0 < (get_or one left (0, 0)).0 → IsOrdered words top one other left (right + 1) (out ++ one_if b (get_or other right (0, 0)))
    ordered_right b more =
        let first = theirs_on in
        let below = first.1 in
        record {
          low = (get_or other right (0, 0)).0 + 1;
          inside = omega (arith, below);
          front = behind_front words is.low out b (get_or other right (0, 0)) first.0 first.2 is.front;
          left_up = subst (IsMap words ((get_or other right (0, 0)).0 + 1) top) (sym (from_here one left in_one)) (omega (arith, more), ours_on.1, ours_on.2, ours_on.3);
          right_up = first.3;
        }

    ordered_both : (b : Bool) → (get_or one left (0, 0)).0 ≡ (get_or other right (0, 0)).0 → IsOrdered words top one other (left + 1) (right + 1) (out ++ one_if b (get_or one left (0, 0)))
    ordered_both b same =
        let first = ours_on in
        let below = first.1 in
        record {
          low = (get_or one left (0, 0)).0 + 1;
          inside = omega (arith, below);
          front = behind_front words is.low out b (get_or one left (0, 0)) first.0 first.2 is.front;
          left_up = first.3;
          right_up = subst (λ (n : ℕ). IsMap words (n + 1) top (drop (right + 1) other)) (sym same) theirs_on.3;
        }

  pub ordered_tested : (words top : ℕ) (keep : Keep) (out : Pairs) (count : ℕ) (pair : ℕ × ℕ) → count < length out
      → pair ≡ cond (leb (get_or one left (0, 0)).0 (get_or other right (0, 0)).0) (get_or one left (0, 0)) (get_or other right (0, 0))
      → IsOrdered words top one other left right (take count out)
      → IsOrdered words top one other (left + bool_byte (leb (get_or one left (0, 0)).0 (get_or other right (0, 0)).0))
      (right + bool_byte (leb (get_or other right (0, 0)).0 (get_or one left (0, 0)).0))
      (take (count + bool_byte (cond (leb (get_or one left (0, 0)).0 (get_or other right (0, 0)).0)
      (cond (leb (get_or other right (0, 0)).0 (get_or one left (0, 0)).0) keep.both keep.left) keep.right)) (set out count pair))
  ordered_tested words top keep out count pair room is ordered = by_tests ours.0 theirs.0
      (λ b c e. pair ≡ cond b ours theirs → IsOrdered words top one other (left + bool_byte b) (right + bool_byte c)
      (take (count + bool_byte (cond b (cond c keep.both keep.left) keep.right)) (set out count pair)))
      (λ less is. subst (λ (n : ℕ). IsOrdered words top one other (left + 1) n (take (count + bool_byte keep.left) (set out count pair))) (sym (add-zero right))
      (put keep.left ours (left + 1) right is (ordered_left words top (take count out) ordered keep.left less)))
      (λ more is. subst (λ (n : ℕ). IsOrdered words top one other n (right + 1) (take (count + bool_byte keep.right) (set out count pair))) (sym (add-zero left))
      (put keep.right theirs left (right + 1) is (ordered_right words top (take count out) ordered keep.right more)))
      (λ same is. put keep.both ours (left + 1) (right + 1) is (ordered_both words top (take count out) ordered keep.both same))
      is
    where
      ours : ℕ × ℕ
      ours = get_or one left (0, 0)

      theirs : ℕ × ℕ
      theirs = get_or other right (0, 0)

      put : (b : Bool) (first : ℕ × ℕ) (passed_left passed_right : ℕ) → pair ≡ first → IsOrdered words top one other passed_left passed_right (take count out ++ one_if b first) →
          IsOrdered words top one other passed_left passed_right (take (count + bool_byte b) (set out count pair))
      put b first passed_left passed_right is ordered = subst (IsOrdered words top one other passed_left passed_right)
          (sym (written b out count first room) ∙ ap (λ (p : ℕ × ℕ). take (count + bool_byte b) (set out count p)) (sym is)) ordered
