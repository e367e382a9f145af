-- Sums of children by sixteens.
use Rattle.std.proofs.Common.{◌≡◌, ℕ, ◌+◌, ◌-◌, ◌*◌, ◌/◌, ◌<◌, ◌≤◌, List, [], ◌∷◌, ◌++◌, length, take, drop, set, get_or, sum, sum_by, Option, Some, None, IfSome, ⊎_elim, sym}
use Rattle.std.proofs.Common.{refl, ap, ◌∙◌, subst, arith, length-take, length-drop, length-set}
use Rattle.std.proofs.lemmas.List.{take_all, take-take, drop-take, take-set-le, take_more_set, take_rest, drop-set-lt, get_or-take, get_or-drop, set-get_or}
use Rattle.std.proofs.lemmas.List.Sums.{sum_by-cons, sum_by-set, sum_by-take-drop, sum_by_more, sum_by_push, get_or-le-sum_by}
use Rattle.std.proofs.lemmas.Bool.{cases_lt}
use Rattle.std.proofs.lemmas.Option.{same_Some, slice_get-get_or, slice_get_within}
use Rattle.judy_node.specs.Trees.{Tree}
use Rattle.judy_node.specs.Populations.{population, keys_before, AreGroups, AreSums, HoldsNth}
use Rattle.judy_node.specs.declared.sums.Sums.{Sums}
use Rattle.judy_node.proofs.Counts.{population-take}

-- ---- populations

abbrev pub keys-in : Tree → ℕ
keys-in kid = length kid.pairs

pub population-sum : (kids : List Tree) → population kids ≡ sum_by keys-in kids
population-sum [] = refl
population-sum (kid ∷ kids) = let rest = population-sum kids in let both = sum_by-cons keys-in kid kids in let here : keys-in kid ≡ length kid.pairs = refl in omega arith

-- Another child at a place.
pub population-set : (kids : List Tree) (at : ℕ) (new d : Tree) → at < length kids → population (set kids at new) + length (get_or kids at d).pairs ≡ population kids + length new.pairs
population-set kids at new d within =
    let all : sum_by keys-in (set kids at new) + length (get_or kids at d).pairs ≡ sum_by keys-in kids + length new.pairs = sum_by-set keys-in kids at new d within in
    let now = population-sum (set kids at new) in
    let before = population-sum kids in
    omega arith

-- The children from one on, so many.
pub population-span : (kids : List Tree) (at count : ℕ) → population (take (at + count) kids) ≡ population (take at kids) + population (take count (drop at kids))
population-span kids at count =
    let parts = population-take (take (at + count) kids) at in
    let front = ap population (take-take at (at + count) kids (omega arith)) in
    let back = ap population (drop-take at count kids) in
    omega arith

-- A child among the children from one on.
pub child-le : (kids : List Tree) (at : ℕ) (d : Tree) → at < length kids → length (get_or kids at d).pairs ≤ population kids
child-le kids at d within =
    let some : length (get_or kids at d).pairs ≤ sum_by keys-in kids = get_or-le-sum_by keys-in kids at d within in
    let all = population-sum kids in
    omega arith

-- ---- groups

module _ (sums : List ℕ) (kids : List Tree) (are : AreGroups sums kids) where
  -- All sums come to all keys.
  pub groups-all : sum sums ≡ population kids
  groups-all =
      let long = are.groups in
      let many = are.all in
      ap sum (sym (take_all 16 sums (omega arith))) ∙ are.each 16 (omega arith) ∙ ap population (take_all 256 kids (omega arith))

  -- The keys before a place, by those before a group and those between the two.
  pub behind_group : (group place : ℕ) → group ≤ 16 → 16 * group ≤ place → keys_before place kids ≡ sum (take group sums) + population (take (place - 16 * group) (drop (16 * group) kids))
  behind_group group place few past =
      let same : place ≡ 16 * group + (place - 16 * group) = omega arith in
      ap (λ n. keys_before n kids) same ∙ population-span kids (16 * group) (place - 16 * group) ∙ ap (λ n. n + population (take (place - 16 * group) (drop (16 * group) kids)))
      (sym (are.each group few))

  pub before_group : (group place : ℕ) → group ≤ 16 → place ≤ 16 * group → sum (take group sums) ≡ keys_before place kids + population (take (16 * group - place) (drop place kids))
  before_group group place few past =
      let same : 16 * group ≡ place + (16 * group - place) = omega arith in
      are.each group few ∙ ap (λ n. keys_before n kids) same ∙ population-span kids place (16 * group - place)

  -- Each sum is that of its children.
  pub group-population : (group : ℕ) → group < 16 → get_or sums group 0 ≡ population (take 16 (drop (16 * group) kids))
  group-population group within =
      let long = are.groups in
      let here = are.each group (omega arith) in
      let next = are.each (group + 1) (omega arith) in
      let more : sum (take (group + 1) sums) ≡ sum (take group sums) + get_or sums group 0 = sum_by_more (λ x. x) sums group 0 (omega arith) in
      let same : 16 * (group + 1) ≡ 16 * group + 16 = omega arith in
      let span = ap (λ n. keys_before n kids) same ∙ population-span kids (16 * group) 16 in
      omega arith

  pub group-le : (group : ℕ) → group < 16 → get_or sums group 0 ≤ population kids
  group-le group within =
      let long = are.groups in
      let some : get_or sums group 0 ≤ sum sums = get_or-le-sum_by (λ x. x) sums group 0 (omega arith) in
      let all = groups-all in
      omega arith

  -- The keys of a child are among those of its group.
  pub child-in-group : (at : ℕ) (d : Tree) → at < 256 → length (get_or kids at d).pairs ≤ get_or sums (at / 16) 0
  child-in-group at d within =
      let many = are.all in
      let group : at / 16 < 16 = omega arith in
      let own : at - 16 * (at / 16) < 16 = omega arith in
      let place : 16 * (at / 16) + (at - 16 * (at / 16)) ≡ at = omega arith in
      let rest = drop (16 * (at / 16)) kids in
      let some = child-le (take 16 rest) (at - 16 * (at / 16)) d (let long = length-take 16 rest in let left = length-drop (16 * (at / 16)) kids in omega (arith, long, left)) in
      let same = get_or-take 16 rest (at - 16 * (at / 16)) d own ∙ get_or-drop (16 * (at / 16)) kids (at - 16 * (at / 16)) d ∙ ap (λ n. get_or kids n d) place in
      let keys = ap (λ (k : Tree). length k.pairs) same in
      let all = group-population (at / 16) group in
      omega arith

  -- Another child at a place, and the sum of its group with it.
  pub groups-set : (at new_sum : ℕ) (new d : Tree) → at < length kids → new_sum + length (get_or kids at d).pairs ≡ get_or sums (at / 16) 0 + length new.pairs
      → AreGroups (set sums (at / 16) new_sum) (set kids at new)
  groups-set at new_sum new d within changed = record {
    all = length-set kids at new ∙ are.all;
    groups = length-set sums (at / 16) new_sum ∙ are.groups;
    each = λ group few. ⊎_elim (λ behind. each-behind group few behind) (λ before. each-before group few before) (cases_lt (at / 16) group);
  }
    where
      each-before : (group : ℕ) → group ≤ 16 → group ≤ at / 16 → sum (take group (set sums (at / 16) new_sum)) ≡ keys_before (16 * group) (set kids at new)
      each-before group few before =
          ap sum (take-set-le group sums (at / 16) new_sum before) ∙ are.each group few ∙ sym (ap population (take-set-le (16 * group) kids at new (omega arith)))

      each-behind : (group : ℕ) → group ≤ 16 → at / 16 < group → sum (take group (set sums (at / 16) new_sum)) ≡ keys_before (16 * group) (set kids at new)
      each-behind group few behind =
          let many = are.all in
          let long = are.groups in
          let old = are.each group few in
          let sums-now : sum (take group (set sums (at / 16) new_sum)) + sum (drop group (set sums (at / 16) new_sum)) ≡
          sum (set sums (at / 16) new_sum) = sum_by-take-drop (λ x. x) (set sums (at / 16) new_sum) group in
          let sums-old : sum (take group sums) + sum (drop group sums) ≡ sum sums = sum_by-take-drop (λ x. x) sums group in
          let sums-rest : sum (drop group (set sums (at / 16) new_sum)) ≡ sum (drop group sums) = ap sum (drop-set-lt group sums (at / 16) new_sum behind) in
          let sums-all : sum (set sums (at / 16) new_sum) + get_or sums (at / 16) 0 ≡ sum sums + new_sum = sum_by-set (λ x. x) sums (at / 16) new_sum 0 (omega arith) in
          let kids-now = population-take (set kids at new) (16 * group) in
          let kids-old = population-take kids (16 * group) in
          let kids-rest = ap population (drop-set-lt (16 * group) kids at new (omega arith)) in
          let kids-all = population-set kids at new d within in
          omega arith

-- ---- parts of sums

-- The sums from a group on have what those before it don't.
pub rest-sum : (sums : List ℕ) (group : ℕ) → sum (take group sums) + sum (take (length sums - group) (drop group sums)) ≡ sum sums
rest-sum sums group =
    let both : sum (take group sums) + sum (drop group sums) ≡ sum sums = sum_by-take-drop (λ x. x) sums group in
    ap (λ rest. sum (take group sums) + sum rest) (take_rest sums group) ∙ both

-- The children of a group have no more keys than all.
pub span-le : (kids : List Tree) (at count : ℕ) → population (take at kids) + population (take count (drop at kids)) ≤ population kids
span-le kids at count = let span = population-span kids at count in let all = population-take kids (at + count) in omega arith

-- One group more is summed.
pub groups-more : (kids : List Tree) (sums : List ℕ) (done next : ℕ) → length sums ≡ 16 → done < 16 → next ≡ population (take (16 * done + 16 - 16 * done) (drop (16 * done) kids))
    → ((group : ℕ) → group ≤ done → sum (take group sums) ≡ keys_before (16 * group) kids)
    → (group : ℕ) → group ≤ done + 1 → sum (take group (set sums done next)) ≡ keys_before (16 * group) kids
groups-more kids sums done next long few is before group within = ⊎_elim
    (λ (last : done < group).
    let same : group ≡ done + 1 = omega arith in
    let sixteen : 16 * done + 16 - 16 * done ≡ 16 = omega arith in
    let next_is = is ∙ ap (λ n. population (take n (drop (16 * done) kids))) sixteen in
    let old = before done (omega arith) in
    let span = population-span kids (16 * done) 16 in
    let here : 16 * done + 16 ≡ 16 * (done + 1) = omega arith in
    let there = ap (λ n. keys_before n kids) here in
    let pushed : sum (take done sums ++ next ∷ []) ≡ sum (take done sums) + next = sum_by_push (λ x. x) (take done sums) next in
    let more = ap sum (take_more_set sums done next (omega arith)) ∙ pushed in
    subst (λ n. sum (take n (set sums done next)) ≡ keys_before (16 * n) kids) (sym same) (omega arith))
    (λ (front : group ≤ done). ap sum (take-set-le group sums done next front) ∙ before group front)
    (cases_lt done group)

-- ---- children of a group

-- What holds of a child among those from one on, so many, holds of it among all.
pub holds-span : (kids : List Tree) (from count own place left : ℕ) (kid : Tree) → HoldsNth (take count (drop from kids)) own place left kid
    → (place < count) × HoldsNth kids (keys_before from kids + own) (from + place) left kid
holds-span kids from count own place left kid holds =
    let part = take count (drop from kids) in
    let inside = slice_get_within part place kid holds.there in
    let long = length-take count (drop from kids) in
    let rest = length-drop from kids in
    let here : get_or kids (from + place) kid ≡ kid =
    sym (get_or-take count (drop from kids) place kid (omega arith) ∙ get_or-drop from kids place kid) ∙
    same_Some (get_or part place kid) kid (sym (slice_get-get_or part place kid inside) ∙ holds.there) in
    let span = population-span kids from place in
    let front = ap population (take-take place count (drop from kids) (omega arith)) in
    let counted = holds.counted in (
      omega arith,
      record {
        there = slice_get-get_or kids (from + place) kid (omega arith) ∙ ap Some here;
        counted = omega arith;
        inside = holds.inside;
      },
    )

-- ---- a value written

if-some : {X : Type 0} (found : Option X) (one other : X → Type 0) → ((x : X) → one x → other x) → IfSome found one → IfSome found other
if-some None one other step is = is
if-some (Some x) one other step is = step x is

-- Another child with as many keys leaves the sums as they are.
pub sums-same : (sums : Sums) (kids : List Tree) (at : ℕ) (new d : Tree) → at < length kids → length new.pairs ≡ length (get_or kids at d).pairs → AreSums sums kids → AreSums sums (set kids at new)
sums-same sums kids at new d within same = if-some sums.groups (λ groups. AreGroups groups.value kids) (λ groups. AreGroups groups.value (set kids at new))
    (λ groups are. subst (λ words. AreGroups words (set kids at new)) (set-get_or groups.value (at / 16) 0)
    (groups-set groups.value kids are at (get_or groups.value (at / 16) 0) new d within (ap (λ n. get_or groups.value (at / 16) 0 + n) (sym same))))
