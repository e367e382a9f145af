-- A key that is given another value: in a node without children, and below a branch.
use Rattle.std.proofs.Common.{◌≡◌, ℕ, ◌+◌, ◌*◌, ◌^◌, ◌<◌, ◌≤◌, ◌||◌, Bool, true, false, cond, eqb, List, [], ◌∷◌, length, set, get_or, Some, None, Ok, refl, sym, ap, ◌∙◌, subst, ⊎_elim, arith}
use Rattle.std.proofs.lemmas.Bool.{cases_order}
use Rattle.judy_model.specs.WordBytes.{number_of}
use Rattle.judy_model.specs.Forms.{branch}
use Rattle.judy_bits.specs.ByteSets.{has, place}
use Rattle.judy_block.specs.Contents.{Contents}
use Rattle.judy_leaf.specs.KeyLists.{keys_of}
use Rattle.judy_leaf.specs.Leaves.{leaf_list}
use Rattle.judy_leaf.specs.BitLeaves.{bit_list}
use Rattle.judy_node.specs.Trees.{Pairs, Tree, IsBranch, AreChildren, branch_pairs, branch_tree, forms_in, join}
use Rattle.judy_node.specs.Populations.{AreSums}
use Rattle.judy_node.specs.Kinds.{bit_tree, IsLevel}
use Rattle.judy_node.specs.Slots.{value_of, with_value}
use Rattle.judy_node.specs.Seats.{IsSeat}
use Rattle.judy_node.specs.declared.sums.Sums.{Sums}
use Rattle.judy_node.specs.declared.child.KindOf.{KindOf}
use Rattle.judy_node.specs.declared.child.KindOf.TheVariants.{Leaf, Bit}
use Rattle.judy_node.proofs.SumFacts.{sums-same}
use Rattle.judy_node.proofs.SeatFacts.{bit-below, leaf-seat, bit-seat}
use Rattle.judy_node.proofs.SlotFacts.{written-length, join-value, join-written, children-written, forms-written}
use Rattle.judy_change.specs.Inserted.{has_key, IsAdded, IsInserted}
use Rattle.judy_change.specs.Put.{IsThere, IsPut}
use Rattle.judy_change.specs.declared.present.Put.{Put}
use Rattle.judy_change.specs.declared.present.Put.TheVariants.{Added, There, Refused}
use Rattle.judy_change.proofs.KidInserts.{IsKid, kid_within, kid_has, kid_same, kids_same}
use Rattle.judy_change.proofs.PairPlaces.{length-with_pair}

-- An insert of an absent key adds it.
pub added_absent : (E : Type 0) (key value : ℕ) (old new : Tree) (added : Bool) → has_key key old ≡ false → IsInserted {E = E} key value old new (Ok added) → IsAdded key value old new
added_absent E key value old new true absent is = is
added_absent E key value old new false absent is = let never : true ≡ false = sym is.0 ∙ absent in cc

-- A tree has no fewer keys than before.
pub no_fewer : (replaces : Bool) (key value : ℕ) (old new : Tree) (answer : Put) → IsPut replaces key value old new answer → length old.pairs ≤ length new.pairs
no_fewer replaces key value old new Added is =
    let longer = ap length is.pairs ∙ length-with_pair key value old.pairs in
    omega arith
no_fewer true key value old new (There was) is =
    let same = ap (λ (tree : Tree). length tree.pairs) is.1 ∙ written-length key value old.pairs in
    omega arith
no_fewer false key value old new (There was) is =
    let same = ap (λ (tree : Tree). length tree.pairs) is.1 in
    omega arith
no_fewer replaces key value old new Refused is =
    let same = ap (λ (tree : Tree). length tree.pairs) is.1 in
    omega arith

-- ---- nodes without children

-- A key that is there has a value.
pub there_valued : (key : ℕ) (pairs : Pairs) → has (keys_of pairs) key ≡ true → value_of key pairs ≡ None → ⊥
there_valued key [] held none = cc
there_valued key (pair ∷ pairs) held none =
    elim (eqb pair.0 key) as (λ b. (b || has (keys_of pairs) key) ≡ true → cond b (Some pair.1) (value_of key pairs) ≡ None → ⊥) [
      | true ↦ λ _ never. cc
      | false ↦ λ rest without. there_valued key pairs rest without
    ] held none

-- A key of a bitmap leaf isn't below those that begin with the bytes that it skips.
pub bit_front : (words skipped key : ℕ) (block : Contents) → has_key key (bit_tree words skipped block) ≡ true → skipped * 256 ≤ key
bit_front words skipped key block held = ⊎_elim
    (λ same. omega arith)
    (λ apart. ⊎_elim
    (λ (below : key < skipped * 256). absurd (there_valued key (bit_tree words skipped block).pairs held (bit-below words skipped key block below)))
    (λ above. omega arith)
    apart)
    (cases_order key (skipped * 256))

-- Where the value of a key stands, as a search tells.
pub leaf_spot : {V : _} (words : ℕ) (kind : KindOf V) (count : ℕ) (block : Contents) (key at : ℕ) → kind ≡ Leaf count block → IsLevel words kind →
    Some at ≡ place (keys_of (leaf_list words count block).pairs) key → IsSeat words kind key at 0
leaf_spot words kind count block key at is level found =
    subst (λ k. IsSeat words k key at 0) (sym is) (leaf-seat words count key at block (subst (IsLevel words) is level) found)

pub bit_spot : {V : _} (words : ℕ) (kind : KindOf V) (skipped : ℕ) (block : Contents) (key low at : ℕ) → kind ≡ Bit skipped block → key ≡ skipped * 256 + low →
    Some at ≡ place (keys_of (bit_list words block).pairs) low → IsSeat words kind key (4 + at) 0
bit_spot words kind skipped block key low at is key_is found =
    subst (λ k. IsSeat words k key (4 + at) 0) (sym is) (at, low, refl, key_is, (bit-seat words low at block found).0)

module _ {words width : ℕ} {skipped bytes : List ℕ} {kids : List Tree} {count byte rest at : ℕ} {kid : Tree} (it : IsKid words width skipped bytes kids count byte rest at kid) where
  abbrev whole_key : ℕ
  whole_key = (number_of skipped * 256 + byte) * 256 ^ width + rest

  -- The value of the key is the child's.
  kid_value : value_of whole_key (branch_pairs width skipped bytes kids) ≡ value_of rest kid.pairs
  kid_value =
      join-value words width 0 (number_of skipped * 256) at byte rest bytes kids kid it.is.parts.children it.here it.fits
      ∙ ap (λ (k : Tree). value_of rest k.pairs) (sym it.kid_is)

  module _ (one : words ≡ 1) (value : ℕ) (new : Tree) (same : new ≡ with_value kid rest value) where
    now_set : set kids at new ≡ set kids at (with_value (get_or kids at kid) rest value)
    now_set = ap (set kids at) (same ∙ ap (λ (k : Tree). with_value k rest value) it.kid_is)

    now_pairs : branch_pairs width skipped bytes (set kids at new) ≡ (with_value (branch_tree width skipped bytes kids count) whole_key value).pairs
    now_pairs =
        ap (join (256 ^ width) (number_of skipped * 256) bytes) now_set
        ∙ join-written words width 0 (number_of skipped * 256) at byte rest value bytes kids kid it.is.parts.children it.here it.fits

    now_forms : forms_in (set kids at new) ≡ forms_in kids
    now_forms = ap forms_in now_set ∙ forms-written at rest value kids kid

    -- The branch is the old one with that value.
    kid_over : branch_tree width skipped bytes (set kids at new) count ≡ with_value (branch_tree width skipped bytes kids count) whole_key value
    kid_over = λ t. record { width = length skipped + 1 + width; pairs = now_pairs t; form = branch skipped bytes count ∷ now_forms t }

    kid_over_branch : IsBranch words width skipped bytes (set kids at new) count
    kid_over_branch =
        record {
          parts = record {
            some_width = it.is.parts.some_width;
            within = it.is.parts.within;
            skipped_bytes = it.is.parts.skipped_bytes;
            children = subst (AreChildren words width 0 bytes) (sym now_set) (children-written words width 0 at rest value bytes kids kid one it.is.parts.children);
            counted = it.is.parts.counted ∙ sym (ap length now_pairs ∙ written-length whole_key value (branch_pairs width skipped bytes kids));
          };
          holds = it.is.holds;
        }

    kid_over_sums : (sums : Sums) → AreSums sums kids → AreSums sums (set kids at new)
    kid_over_sums sums =
        sums-same sums kids at new kid (kid_within it)
        (ap (λ (k : Tree). length k.pairs) same ∙ written-length rest value kid.pairs ∙ ap (λ (k : Tree). length k.pairs) it.kid_is)

  -- ---- a child that had the key, whether its value is another or not

  pub kid_there_put : (replaces : Bool) → (replaces ≡ true → words ≡ 1) → (value was : ℕ) (new : Tree) → IsThere replaces rest value was kid new
      → IsThere replaces whole_key value was (branch_tree width skipped bytes kids count) (branch_tree width skipped bytes (set kids at new) count)
  kid_there_put true one value was new is = (kid_value ∙ is.0, kid_over (one refl) value new is.1)
  kid_there_put false one value was new is = (kid_has it ∙ is.0, kid_same it new is.1)

  pub kid_there_branch : (replaces : Bool) → (replaces ≡ true → words ≡ 1) → (value was : ℕ) (new : Tree) → IsThere replaces rest value was kid new →
      IsBranch words width skipped bytes (set kids at new) count
  kid_there_branch true one value was new is = kid_over_branch (one refl) value new is.1
  kid_there_branch false one value was new is = subst (λ ks. IsBranch words width skipped bytes ks count) (sym (kids_same it new is.1)) it.is

  pub kid_there_sums : (replaces : Bool) → (replaces ≡ true → words ≡ 1) → (value was : ℕ) (new : Tree) → IsThere replaces rest value was kid new → (sums : Sums) →
      AreSums sums kids → AreSums sums (set kids at new)
  kid_there_sums true one value was new is = kid_over_sums (one refl) value new is.1
  kid_there_sums false one value was new is = λ sums are. subst (AreSums sums) (sym (kids_same it new is.1)) are
