-- Keys that a node hasn't, on the way down of an insert.
use Rattle.std.proofs.Common.{◌≡◌, ◌≢◌, ℕ, ◌+◌, ◌-◌, ◌*◌, ◌/◌, ◌^◌, ◌<◌, ◌≤◌, Bool, true, false, Some, None, cond, eqb, [], ◌∷◌, ◌||◌, length, sym, refl, ap, ◌∙◌, subst, ◌⊎◌, ⊎_elim, arith}
use Rattle.std.proofs.Math.Nat.{add-mul, mul_assoc, mul_comm, div-mul-le_self}
use Rattle.std.proofs.lemmas.Bool.{cases_order}
use Rattle.std.proofs.lemmas.Nat.{div-add-mod', mod_below, mul-le}
use Rattle.judy_model.specs.WordBytes.{number_of}
use Rattle.judy_model.proofs.lemmas.orders.ByteLemmas.{unit_pos}
use Rattle.judy_bits.specs.ByteSets.{has}
use Rattle.judy_block.specs.Contents.{Contents}
use Rattle.judy_leaf.specs.KeyLists.{keys_of}
use Rattle.judy_leaf.specs.BitLeaves.{bit_list}
use Rattle.judy_node.specs.Trees.{Pairs, IsChild}
use Rattle.judy_node.specs.Branches.{IsWholeBranch, tree_below}
use Rattle.judy_node.specs.Kinds.{tree_of, bit_tree, IsLevel}
use Rattle.judy_node.specs.Steps.{IsStep}
use Rattle.judy_node.specs.declared.child.BranchOf.{BranchOf}
use Rattle.judy_node.specs.declared.child.KindOf.{KindOf}
use Rattle.judy_node.specs.declared.child.KindOf.TheVariants.{Branch}
use Rattle.judy_node.specs.declared.step.Step.{Step}
use Rattle.judy_node.specs.declared.step.Step.TheVariants.{Child, Missing, Below, Above}
use Rattle.judy_node.proofs.Leaves.{bit_map}
use Rattle.judy_node.proofs.MadeFacts.{unit_above}
use Rattle.judy_node.proofs.Shaped.{branch-child}
use Rattle.judy_node.proofs.StepFacts.{below_block}
use Rattle.judy_change.specs.Inserted.{has_key}
use Rattle.judy_change.specs.Removals.{value_in, width_of}
use Rattle.judy_change.proofs.LeafFacts.{other_key}
use Rattle.judy_change.proofs.BelowFacts.{step-absent, branch_wide}

-- A key without a value isn't there.
pub none_has : (pairs : Pairs) (key : ℕ) → value_in pairs key ≡ None → has (keys_of pairs) key ≡ false
none_has [] key none = refl
none_has (pair ∷ pairs) key none =
    first (eqb pair.0 key) (has (keys_of pairs) key) (none_has pairs key) none
  where
    first : (same others : Bool) → (value_in pairs key ≡ None → others ≡ false) → cond same (Some pair.1) (value_in pairs key) ≡ None → (same || others) ≡ false
    first true others rest never = cc
    first false others rest none = rest none

-- A bitmap leaf hasn't a key that begins with other bytes than it skips.
pub bit_absent : (words skipped key : ℕ) (block : Contents) → key / 256 ≢ skipped → has_key key (bit_tree words skipped block) ≡ false
bit_absent words skipped key block apart = none_has (bit_tree words skipped block).pairs key (other_key words skipped key (bit_list words block).pairs (bit_map words block) apart)

-- What a branch skips and the bytes behind it, as a number.
whole_unit : (number width : ℕ) → number * 256 * 256 ^ width ≡ number * 256 ^ (1 + width)
whole_unit number width =
    mul_assoc number 256 (256 ^ width) ∙ ap (λ n. number * n) (mul_comm 256 (256 ^ width) ∙ sym (unit_above width) ∙ ap (λ w. 256 ^ w) (let e : width + 1 ≡ 1 + width = omega arith in e))

-- A branch hasn't a key that goes past it, and such a key doesn't begin with the bytes that it skips.
module _ {V : _} (words key : ℕ) (old : BranchOf V) (whole : IsWholeBranch words old) where
  abbrev unit : ℕ
  unit = 256 ^ (1 + old.width)

  abbrev number : ℕ
  number = number_of old.skip

  -- Where the keys end that begin with those bytes.
  above_start : (number * 256 + 256) * 256 ^ old.width ≡ (number + 1) * unit
  above_start =
      let start = whole_unit number old.width in
      let last = whole_unit 1 old.width in
      let one = add-mul (number * 256) 256 (256 ^ old.width) in
      let other = add-mul number 1 unit in
      omega arith

  below_apart : IsStep (256 ^ old.width) (number * 256) old.bytes key Below → key / unit ≢ number
  below_apart is same =
      let least = div-mul-le_self key unit in
      let start : number * 256 * 256 ^ old.width ≡ key / unit * unit = whole_unit number old.width ∙ ap (λ n. n * unit) (sym same) in
      let never : ⊥ = omega arith in
      never

  above_apart : IsStep (256 ^ old.width) (number * 256) old.bytes key Above → key / unit ≢ number
  above_apart is same =
      let split = div-add-mod' key unit in
      let rest = mod_below key unit (unit_pos (1 + old.width)) in
      let start : (number * 256 + 256) * 256 ^ old.width ≡ (key / unit + 1) * unit = above_start ∙ ap (λ n. (n + 1) * unit) (sym same) in
      let spread = add-mul (key / unit) 1 unit in
      let never : ⊥ = omega arith in
      never

  pub past_apart : (step : Step) → IsStep (256 ^ old.width) (number * 256) old.bytes key step → (step ≡ Below) ⊎ (step ≡ Above) → key / unit ≢ number
  past_apart step is past = ⊎_elim
      (λ (below : step ≡ Below). below_apart (subst (IsStep (256 ^ old.width) (number * 256) old.bytes key) below is))
      (λ (above : step ≡ Above). above_apart (subst (IsStep (256 ^ old.width) (number * 256) old.bytes key) above is))
      past

  none_at : (step : Step) → IsStep (256 ^ old.width) (number * 256) old.bytes key step → ((byte place rest : ℕ) → step ≡ Child byte place rest → ⊥) → has_key key (tree_below old) ≡ false
  none_at step is other = none_has (tree_below old).pairs key (step-absent words key old step whole is other)

  pub missing_absent : (byte place rest : ℕ) → IsStep (256 ^ old.width) (number * 256) old.bytes key (Missing byte place rest) → has_key key (tree_below old) ≡ false
  missing_absent byte place rest is = none_at (Missing byte place rest) is (λ byte place rest never. cc)

  pub apart_absent : key / unit ≢ number → has_key key (tree_below old) ≡ false
  apart_absent apart = ⊎_elim
      (λ same. absurd (apart same))
      (λ order. ⊎_elim
      (λ (below : key / unit < number). none_at Below (subst (λ n. key < n) (sym (whole_unit number old.width)) (below_block key unit number (unit_pos (1 + old.width)) below))
      (λ byte place rest never. cc))
      (λ (above : number < key / unit). none_at Above (last above) (λ byte place rest never. cc))
      order)
      (cases_order (key / unit) number)
    where
      last : number < key / unit → (number * 256 + 256) * 256 ^ old.width ≤ key
      last above =
          let least = div-mul-le_self key unit in
          let whole : (number + 1) * unit ≤ key / unit * unit = mul-le (number + 1) unit (key / unit) unit (omega arith) (omega arith) in
          let end = above_start in
          omega arith

-- ---- a branch on the way, as it was lent

-- It is a child of the same width where it skips as many bytes as before and has as many behind its own.
pub still_child : {V : _} (words width : ℕ) (kind : KindOf V) (b : _) (lent new : BranchOf V) → kind ≡ Branch b → IsChild words width (tree_of words kind) →
    lent ≡ b.value → new.skip ≡ lent.skip → new.width ≡ lent.width
    → IsWholeBranch words new → IsChild words width (tree_below new)
still_child words width kind b lent new is child same skip wide whole =
    let kept : width_of new ≡ width_of b.value = (λ t. length (skip t) + 1 + wide t) ∙ ap width_of same in
    subst (λ w. IsChild words w (tree_below new)) (kept ∙ branch_wide words width b.value (subst (λ k. IsChild words width (tree_of words k)) is child))
    (branch-child words new.width new.skip new.bytes new.children.items new.population whole)

-- It may have one key more where its node may that hasn't the key.
pub missing_room : {V : _} (words key : ℕ) (kind : KindOf V) (b : _) (seen lent : BranchOf V) (byte place rest : ℕ) → kind ≡ Branch b → IsLevel words kind → seen ≡ b.value
    → IsStep (256 ^ seen.width) (number_of seen.skip * 256) seen.bytes key (Missing byte place rest)
    → (has_key key (tree_of words kind) ≡ false → length (tree_of words kind).pairs < 2 ^ 64 - 1) → lent ≡ b.value → lent.population < 2 ^ 64 - 1
missing_room words key kind b seen lent byte place rest is level same step room as_lent =
    let whole = (subst (IsLevel words) is level).0 in
    let absent = missing_absent words key b.value whole byte place rest (subst (λ (o : BranchOf _). IsStep (256 ^ o.width) (number_of o.skip * 256) o.bytes key (Missing byte place rest)) same step) in
    let spare = subst (λ k. has_key key (tree_of words k) ≡ false → length (tree_of words k).pairs < 2 ^ 64 - 1) is room absent in
    subst (λ (o : BranchOf _). o.population < 2 ^ 64 - 1) (sym as_lent) (subst (λ n. n < 2 ^ 64 - 1) (sym whole.parts.counted) spare)
