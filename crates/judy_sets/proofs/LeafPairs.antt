-- Two lists of keys that ascend, gone through side by side.
use Rattle.std.proofs.Common.{◌≡◌, ◌≢◌, nat_eq, ⊎_elim, ◌⊎◌, refl, ℕ, zero, suc, ◌+◌, ◌<◌, ◌≤◌, ◌||◌, true, false, cond, List, [], ◌∷◌}
use Rattle.std.proofs.Common.{◌++◌, length, filter, map, get_or, take, drop, sym, ap, ◌∙◌, subst, arith, add-one, add-zero}
use Rattle.std.proofs.Math.Seq.{drop-cons}
use Rattle.std.proofs.lemmas.List.{drop_all, take_all, take_at, length-take-le}
use Rattle.std.proofs.Math.Dec.{leb}
use Rattle.std.proofs.lemmas.Bool.{eq-eqb, ne_eqb}
use mir.Val.{bool_byte}
use Rattle.judy_combine.proofs.Finds.{same_or}
use Rattle.judy_combine.proofs.SliceSteps.{by_tests}
use Rattle.judy_bits.specs.ByteSets.{has}
use Rattle.judy_model.specs.Ways.{Ascends}
use Rattle.judy_leaf.specs.KeyLists.{keys_of, shift}
use Rattle.judy_node.specs.Trees.{Pairs, IsMap}
use Rattle.judy_node.proofs.Maps.{map-shift, length-shift, length-keys_of}

pub same_small : (one other : ℕ) → bool_byte (nat_eq one other) ≤ bool_byte (leb one other)
same_small one other = by_tests one other (λ b _ e. bool_byte e ≤ bool_byte b) (λ _. omega arith) (λ _. omega arith) (λ _. omega arith)

-- ---- lists

-- How many keys of the one list the other has too.
abbrev pub in_both : List ℕ → List ℕ → ℕ
in_both [] others = 0
in_both (key ∷ keys) others = cond (has others key) (suc (in_both keys others)) (in_both keys others)

pub both-filtered : (one other : List ℕ) → in_both one other ≡ length (filter (has other) one)
both-filtered [] other = refl
both-filtered (key ∷ one) other =
    ap (λ n. cond (has other key) (suc n) n) (both-filtered one other)
    ∙ elim (has other key) as (λ b. cond b (suc (length (filter (has other) one))) (length (filter (has other) one)) ≡ length (cond b (key ∷ filter (has other) one) (filter (has other) one))) [
      | true ↦ refl
      | false ↦ refl
    ]

-- Below the first there is no key.
has-below : (key low : ℕ) (keys : List ℕ) → key < low → Ascends low keys → has keys key ≡ false
has-below key low [] below up = refl
has-below key low (first ∷ keys) below up =
    let from = up.0 in
    ap (λ b. b || has keys key) (ne_eqb first key (λ e. omega (arith, e, from, below))) ∙ has-below key (first + 1) keys (omega (arith, from, below)) up.1

-- A key that isn't among the one's keys is dropped from the other.
both-other : (one : List ℕ) (key : ℕ) (other : List ℕ) → has one key ≡ false → in_both one (key ∷ other) ≡ in_both one other
both-other [] key other none = refl
both-other (first ∷ one) key other none = ⊎_elim
    (λ (same : key ≡ first). let found : true ≡ false = sym (ap (λ b. b || has one key) (eq-eqb first key (sym same))) ∙ none in cc)
    (λ (apart : key ≢ first).
    let rest = both-other one key other (sym (ap (λ b. b || has one key) (ne_eqb first key (λ e. apart (sym e)))) ∙ none) in
    ap (λ b. cond (b || has other first) (suc (in_both one (key ∷ other))) (in_both one (key ∷ other))) (ne_eqb key first apart)
    ∙ ap (λ n. cond (has other first) (suc n) n) rest)
    (same_or key first)

-- A key of the one that the other lacks.
both-lacking : (key : ℕ) (one other : List ℕ) → has other key ≡ false → in_both (key ∷ one) other ≡ in_both one other
both-lacking key one other none = ap (λ b. cond b (suc (in_both one other)) (in_both one other)) none

-- Both are passed where they are one key.
both-same : (left right : ℕ) (one other : List ℕ) → left ≡ right → Ascends (left + 1) one → in_both (left ∷ one) (right ∷ other) ≡ suc (in_both one other)
both-same left right one other same up =
    ap (λ b. cond (b || has other left) (suc (in_both one (right ∷ other))) (in_both one (right ∷ other))) (eq-eqb right left (sym same))
    ∙ ap suc (both-other one right other (has-below right (left + 1) one (omega (arith, same)) up))

pub both-none : (one : List ℕ) → in_both one [] ≡ 0
both-none [] = refl
both-none (key ∷ one) = both-none one

-- ---- slices

-- The keys from a place on.
from_place : (keys : List ℕ) (at : ℕ) → at < length keys → drop at keys ≡ get_or keys at 0 ∷ drop (at + 1) keys
from_place keys at within = drop-cons keys at 0 within ∙ ap (λ (n : ℕ). get_or keys at 0 ∷ drop n keys) (sym (add-one at))

ascend-lower : (low lower : ℕ) (keys : List ℕ) → lower ≤ low → Ascends low keys → Ascends lower keys
ascend-lower low lower [] less up = tt
ascend-lower low lower (key ∷ keys) less up = let from = up.0 in (omega (arith, from, less), up.1)

ascend-drop : (low n : ℕ) (keys : List ℕ) → Ascends low keys → Ascends low (drop n keys)
ascend-drop low zero keys up = up
ascend-drop low (suc n) [] up = up
ascend-drop low (suc n) (key ∷ keys) up =
    let from = up.0 in ascend-lower (key + 1) low (drop n keys) (omega (arith, from)) (ascend-drop (key + 1) n keys up.1)

-- What is behind a place ascends.
behind : (keys : List ℕ) (at : ℕ) → at < length keys → Ascends 0 keys → Ascends (get_or keys at 0 + 1) (drop (at + 1) keys)
behind keys at within up = (subst (Ascends 0) (from_place keys at within) (ascend-drop 0 at keys up)).1

-- Where one is at its end, none are left that both have.
pub both_ended : (one other : List ℕ) (left right : ℕ) → (length one ≤ left) ⊎ (length other ≤ right) → in_both (drop left one) (drop right other) ≡ 0
both_ended one other left right ended = ⊎_elim
    (λ (past : length one ≤ left). ap (λ (keys : List ℕ). in_both keys (drop right other)) (drop_all left one past))
    (λ (past : length other ≤ right). ap (in_both (drop left one)) (drop_all right other past) ∙ both-none (drop left one))
    ended

module _ (one other : List ℕ) (left right : ℕ) (in_one : left < length one) (in_other : right < length other) (one_up : Ascends 0 one) (other_up : Ascends 0 other) where
  both_left : get_or one left 0 < get_or other right 0 → in_both (drop (left + 1) one) (drop right other) ≡ in_both (drop left one) (drop right other)
  both_left less =
      let theirs = get_or other right 0 in
      let rest : List ℕ = drop (right + 1) other in
      let lacks : has (drop right other) (get_or one left 0) ≡ false = ap (λ (keys : List ℕ). has keys (get_or one left 0)) (from_place other right in_other)
      ∙ has-below (get_or one left 0) theirs (theirs ∷ rest) less (omega arith, behind other right in_other other_up) in
      sym (ap (λ (keys : List ℕ). in_both keys (drop right other)) (from_place one left in_one) ∙ both-lacking (get_or one left 0) (drop (left + 1) one) (drop right other) lacks)

  both_right : get_or other right 0 < get_or one left 0 → in_both (drop left one) (drop (right + 1) other) ≡ in_both (drop left one) (drop right other)
  both_right less =
      let ours = get_or one left 0 in
      let rest : List ℕ = drop (left + 1) one in
      let lacks : has (drop left one) (get_or other right 0) ≡ false = ap (λ (keys : List ℕ). has keys (get_or other right 0)) (from_place one left in_one)
      ∙ has-below (get_or other right 0) ours (ours ∷ rest) less (omega arith, behind one left in_one one_up) in
      sym (ap (in_both (drop left one)) (from_place other right in_other) ∙ both-other (drop left one) (get_or other right 0) (drop (right + 1) other) lacks)

  both_same : get_or one left 0 ≡ get_or other right 0 → suc (in_both (drop (left + 1) one) (drop (right + 1) other)) ≡ in_both (drop left one) (drop right other)
  both_same same = sym
      ((λ t. in_both (from_place one left in_one t) (from_place other right in_other t))
      ∙ both-same (get_or one left 0) (get_or other right 0) (drop (left + 1) one) (drop (right + 1) other) same (behind one left in_one one_up))

  -- By the tests of the two keys.
  pub both_tested : (count all : ℕ) → count + in_both (drop left one) (drop right other) ≡ all
      → (count + bool_byte (nat_eq (get_or one left 0) (get_or other right 0)))
      + in_both (drop (left + bool_byte (leb (get_or one left 0) (get_or other right 0))) one) (drop (right + bool_byte (leb (get_or other right 0) (get_or one left 0))) other) ≡ all
  both_tested count all is = by_tests (get_or one left 0) (get_or other right 0)
      (λ b c e. (count + bool_byte e) + in_both (drop (left + bool_byte b) one) (drop (right + bool_byte c) other) ≡ all)
      (λ less. subst (λ (n : ℕ). (count + 0) + in_both (drop (left + 1) one) (drop n other) ≡ all) (sym (add-zero right)) (let step = both_left less in omega (arith, step, is)))
      (λ more. subst (λ (n : ℕ). (count + 0) + in_both (drop n one) (drop (right + 1) other) ≡ all) (sym (add-zero left)) (let step = both_right more in omega (arith, step, is)))
      (λ same. let step = both_same same in omega (arith, step, is))

-- ---- leaves

pub map-ascends : (words low top : ℕ) (pairs : Pairs) → IsMap words low top pairs → Ascends low (keys_of pairs)
map-ascends words low top [] map = tt
map-ascends words low top (pair ∷ pairs) map = (map.0, map-ascends words (pair.0 + 1) top pairs map.3)

pub shifted-ascends : (words top by : ℕ) (pairs : Pairs) → IsMap words 0 top pairs → Ascends 0 (keys_of (shift by pairs))
shifted-ascends words top by pairs map =
    ascend-lower (by + 0) 0 (keys_of (shift by pairs)) (omega arith) (map-ascends words (by + 0) (by + top) (shift by pairs) (map-shift words 0 top by pairs map))

keys-made : (pairs : Pairs) → map (λ (pair : ℕ × ℕ). pair.0) pairs ≡ keys_of pairs
keys-made [] = refl
keys-made (pair ∷ pairs) = ap (λ (keys : List ℕ). pair.0 ∷ keys) (keys-made pairs)

-- The keys of all pairs, written to the front of a page.
pub written_keys : (by n : ℕ) (pairs : Pairs) (page out back : List ℕ) → n ≡ length pairs → n ≤ length page
    → out ≡ map (λ (pair : ℕ × ℕ). pair.0) (shift by (take (length (take n page)) pairs)) → take n (out ++ back) ≡ keys_of (shift by pairs)
written_keys by n pairs page out back long room is =
    let same : out ≡ keys_of (shift by pairs) =
    is
    ∙ ap (λ (m : ℕ). map (λ (pair : ℕ × ℕ). pair.0) (shift by (take m pairs))) (length-take-le n page room)
    ∙ ap (λ (part : Pairs). map (λ (pair : ℕ × ℕ). pair.0) (shift by part)) (take_all n pairs (omega (arith, long)))
    ∙ keys-made (shift by pairs) in
    let many : length (keys_of (shift by pairs)) ≡ n = length-keys_of (shift by pairs) ∙ length-shift by pairs ∙ sym long in
    ap (λ (keys : List ℕ). take n (keys ++ back)) same ∙ take_at (keys_of (shift by pairs)) back n many
