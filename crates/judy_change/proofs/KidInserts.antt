-- A child of a branch into which a key is put, found by the place of its byte.
use Rattle.std.proofs.Common.{◌≡◌, ℕ, ◌-◌, ◌+◌, ◌*◌, ◌^◌, ◌<◌, false, List, length, set, get_or, Some, slice_get, ap, ◌∙◌, arith}
use Rattle.std.proofs.lemmas.Option.{slice_get_within}
use Rattle.std.proofs.lemmas.List.{get_or_default}
use Rattle.judy_model.specs.WordBytes.{number_of}
use Rattle.judy_node.specs.Trees.{Tree, IsChild, IsBranch, branch_tree}
use Rattle.judy_node.proofs.Maps.{children-length}
use Rattle.judy_node.proofs.Counts.{there}
use Rattle.judy_change.specs.Inserted.{has_key, IsAdded}
use Rattle.judy_change.proofs.BelowFacts.{set-there}
use Rattle.judy_change.proofs.PairPlaces.{length-with_pair}
use Rattle.judy_change.proofs.BranchInserts.{child_has, child_is, child_fewer, child_branch, child_added}

-- A branch has a child at the place of each of its bytes.
pub place_within : {words width : ℕ} {skipped bytes : List ℕ} {kids : List Tree} {count byte at : ℕ} → IsBranch words width skipped bytes kids count → slice_get bytes at ≡ Some byte → at < length kids
place_within {words} {width} {skipped} {bytes} {kids} {count} {byte} {at} is here =
    let within = slice_get_within bytes at byte here in
    let long = children-length words width 0 bytes kids is.parts.children in
    omega arith

-- The child of a branch at a place, its byte, and what is left of a key for it.
pub record IsKid (words width : ℕ) (skipped bytes : List ℕ) (kids : List Tree) (count byte rest at : ℕ) (kid : Tree) : Type 0 where
  pub is : IsBranch words width skipped bytes kids count
  pub fits : rest < 256 ^ width
  pub here : slice_get bytes at ≡ Some byte
  pub kid_is : kid ≡ get_or kids at kid

pub kid_of : {words width : ℕ} {skipped bytes : List ℕ} {kids : List Tree} {count byte rest at : ℕ} {kid : Tree} → IsBranch words width skipped bytes kids count →
    rest < 256 ^ width → slice_get bytes at ≡ Some byte
    → kid ≡ get_or kids at kid → IsKid words width skipped bytes kids count byte rest at kid
kid_of is fits here kid_is = record { is = is; fits = fits; here = here; kid_is = kid_is }

module _ {words width : ℕ} {skipped bytes : List ℕ} {kids : List Tree} {count byte rest at : ℕ} {kid : Tree} (it : IsKid words width skipped bytes kids count byte rest at kid) where
  abbrev branch : Tree
  branch = branch_tree width skipped bytes kids count

  abbrev whole_key : ℕ
  whole_key = (number_of skipped * 256 + byte) * 256 ^ width + rest

  pub kid_within : at < length kids
  kid_within = place_within it.is it.here

  pub kid_there : slice_get kids at ≡ Some kid
  kid_there = there kids at kid kid_within it.kid_is

  pub kid_child : IsChild words width kid
  kid_child = child_is words width skipped bytes kids count it.is byte rest it.fits at kid it.here kid_there

  pub kid_has : has_key whole_key branch ≡ has_key rest kid
  kid_has = child_has words width skipped bytes kids count it.is byte rest it.fits at kid it.here kid_there

  -- Where the branch may have one key more, the child may.
  pub kid_room : (has_key whole_key branch ≡ false → count < 2 ^ 64 - 1) → has_key rest kid ≡ false → length kid.pairs < 2 ^ 64 - 1
  kid_room room absent =
      let spare = room (kid_has ∙ absent) in
      let fewer = child_fewer words width skipped bytes kids count it.is byte rest it.fits at kid it.here kid_there in
      omega arith

  -- A child that stays keeps the branch.
  pub kids_same : (new : Tree) → new ≡ kid → set kids at new ≡ kids
  kids_same new same = ap (set kids at) same ∙ set-there kids at kid kid_there

  pub kid_same : (new : Tree) → new ≡ kid → branch_tree width skipped bytes (set kids at new) count ≡ branch
  kid_same new same = ap (λ ks. branch_tree width skipped bytes ks count) (kids_same new same)

  module _ (value : ℕ) (new : Tree) (added : IsAdded rest value kid new) where
    pub kid_branch : IsChild words width new → IsBranch words width skipped bytes (set kids at new) (count + 1)
    kid_branch = child_branch words width skipped bytes kids count it.is byte rest it.fits at kid it.here kid_there value new added

    -- The branch may have one key more.
    pub kid_spare : (has_key whole_key branch ≡ false → count < 2 ^ 64 - 1) → count < 2 ^ 64 - 1
    kid_spare room = room (kid_has ∙ added.absent)

    pub kid_added : IsAdded whole_key value branch (branch_tree width skipped bytes (set kids at new) (count + 1))
    kid_added = child_added words width skipped bytes kids count it.is byte rest it.fits at kid it.here kid_there value new added

    -- The child has one key more.
    pub kid_grown : (d : Tree) → length new.pairs ≡ length (get_or kids at d).pairs + 1
    kid_grown d =
        let same = ap (λ (k : Tree). length k.pairs) (it.kid_is ∙ get_or_default kids at kid d kid_within) in
        let more = ap length added.pairs ∙ length-with_pair rest value kid.pairs in
        omega arith
