-- Nodes whose keys have one byte, and sets of bytes.
use Rattle.std.proofs.Common.{◌≡◌, ℕ, suc, ◌+◌, ◌-◌, ◌*◌, ◌^◌, ◌<◌, ◌≤◌, ⊎_elim, List, [], ◌∷◌, ◌++◌, length, take, get_or, set, slice_get, Some, sym, refl, ap, ◌∙◌, subst, arith}
use Rattle.std.specs.List.{AllByRecursion}
use Rattle.std.proofs.Math.Nat.{mod-eq_of_lt}
use Rattle.std.proofs.lemmas.Bool.{cases_lt}
use Rattle.std.proofs.lemmas.List.{take_more, take_more_set}
use Rattle.std.proofs.lemmas.Option.{same_Some, slice_get-get_or}
use Rattle.judy_model.specs.Ranges.{zeroed}
use Rattle.judy_bits.specs.ByteSets.{IsByteSet, rank, next_from, with_byte}
use Rattle.judy_bits.proofs.SetLemmas.{added_next, next_from-rank}
use Rattle.judy_block.specs.Contents.{Contents}
use Rattle.judy_leaf.specs.KeyLists.{KeyList, keys_of, low_pairs, IsKeyList}
use Rattle.judy_leaf.specs.BitLeaves.{bit_list, IsBitParts}
use Rattle.judy_leaf.proofs.LeafLists.{length-keys_of}
use Rattle.judy_leaf.proofs.BitLists.{rank_above}
use Rattle.judy_leaf.proofs.BitSets.{pairs_of-zeroed}
use Rattle.judy_leaf.proofs.Bounds.{all_bytes}
use Rattle.judy_leaf.proofs.NextKeys.{rank_behind}
use Rattle.judy_node.specs.Trees.{IsMap, IsChild}
use Rattle.judy_node.specs.Kinds.{bit_width, bit_tree, IsBit}
use Rattle.judy_node.specs.Built.{IsBuilt}
use Rattle.judy_node.proofs.Leaves.{pairs_map}
use Rattle.judy_node.proofs.Maps.{shift-zero}
use Rattle.judy_node.proofs.BuiltFacts.{bits_built}

-- ---- the keys of a node, one by one

module _ (list : KeyList) (is : IsKeyList list) (at key : ℕ) (inside : at < length list.pairs) (there : key ≡ get_or (keys_of list.pairs) at 0) where
  told : slice_get (keys_of list.pairs) at ≡ Some key
  told = let long = length-keys_of list.pairs in slice_get-get_or (keys_of list.pairs) at 0 (omega arith) ∙ ap Some (sym there)

  -- With it they are the first ones, one more.
  pub key_added : (so_far added : List ℕ) → so_far ≡ take at (keys_of list.pairs) → added ≡ with_byte so_far key → added ≡ take (at + 1) (keys_of list.pairs)
  key_added so_far added = added_next (keys_of list.pairs) so_far added at key is.ascending (sym told)

-- A bitmap leaf skips no byte there, and its keys are those in its block.
pub bit_keys_of : (words skipped : ℕ) (block : Contents) → IsBit words skipped block → IsChild words 1 (bit_tree words skipped block)
    → keys_of (bit_tree words skipped block).pairs ≡ keys_of (bit_list words block).pairs
bit_keys_of words skipped block level child =
    let some = level.parts.some in
    let wide : bit_width block ≡ 1 = child.wide (λ (none : bit_width block ≡ 0). let never : ⊥ = omega arith in never) in
    let small : skipped < 1 = subst (λ w. skipped < 256 ^ (w - 1)) wide level.skips in
    ap keys_of (shift-zero (skipped * 256) (bit_list words block).pairs (omega arith))

-- ---- the members of a set, one by one

module _ (bits : List ℕ) (is : IsByteSet bits) (at from byte : ℕ) (behind : rank bits from ≡ at) (found : next_from bits from ≡ Some byte) where
  here : slice_get bits at ≡ Some byte
  here = ap (slice_get bits) (sym behind) ∙ sym (next_from-rank bits is.ascending from) ∙ found

  -- Where another follows, it is sought from behind this one.
  pub member_behind : (later : ℕ) → (byte < 255 → later ≡ byte + 1) → at + 1 < length bits → rank bits later ≡ at + 1
  member_behind later next more =
      let ranked = rank_behind bits at byte is.ascending here in
      let less : byte < 255 = ⊎_elim
      (λ (below : byte < 255). below)
      (λ (above : 255 ≤ byte). let all = rank_above bits (byte + 1) is (omega arith) in let never : ⊥ = omega arith in absurd never)
      (cases_lt byte 255) in
      ap (rank bits) (next less) ∙ ranked

  pub member_written : (out : List (ℕ × ℕ)) (one : ℕ × ℕ) → at < length out → at < length bits → one ≡ (byte, 0) → take at out ≡ zeroed (take at bits) →
      take (at + 1) (set out at one) ≡ zeroed (take (at + 1) bits)
  member_written out one room inside pair so_far =
      let is_byte : byte ≡ get_or bits at 0 = same_Some byte (get_or bits at 0) (sym here ∙ slice_get-get_or bits at 0 inside) in
      take_more_set out at one room ∙ (λ t. so_far t ++ (pair ∙ ap (λ b. (b, 0)) is_byte) t ∷ [])
      ∙ sym (ap zeroed (take_more bits at 0 inside) ∙ zeroed-more (take at bits) (get_or bits at 0))
    where
      zeroed-more : (xs : List ℕ) (x : ℕ) → zeroed (xs ++ x ∷ []) ≡ zeroed xs ++ (x, 0) ∷ []
      zeroed-more [] x = refl
      zeroed-more (y ∷ xs) x = ap (λ rest. (y, 0) ∷ rest) (zeroed-more xs x)

-- Where not all members are below, there is a next one.
pub member_there : (bits : List ℕ) (at from : ℕ) → IsByteSet bits → rank bits from ≡ at → at < length bits → next_from bits from ≡ Some (get_or bits at 0)
member_there bits at from is behind inside = next_from-rank bits is.ascending from ∙ ap (slice_get bits) behind ∙ slice_get-get_or bits at 0 inside

-- ---- the node of a set

-- Bytes are their own lowest bytes.
pub low_zeroed : (bits : List ℕ) → IsByteSet bits → low_pairs 256 (zeroed bits) ≡ zeroed bits
low_zeroed bits is = low bits (all_bytes bits is.bytes)
  where
    low : (xs : List ℕ) → AllByRecursion (λ byte. byte < 256) xs → low_pairs 256 (zeroed xs) ≡ zeroed xs
    low [] all = refl
    low (x ∷ xs) all = λ t. (mod-eq_of_lt all.0 t, 0) ∷ low xs all.1 t

pub zeroed_map : (words : ℕ) (bits : List ℕ) → IsByteSet bits → IsMap words 0 (256 ^ 1) (low_pairs (256 ^ 1) (zeroed bits))
zeroed_map words bits is =
    subst (IsMap words 0 256) (pairs_of-zeroed bits ∙ sym (low_zeroed bits is)) (pairs_map words 256 bits [] is.ascending (all_bytes bits is.bytes) (λ none. refl))

pub length-zeroed : (bits : List ℕ) → length (zeroed bits) ≡ length bits
length-zeroed [] = refl
length-zeroed (byte ∷ bits) = ap suc (length-zeroed bits)

pub set_built : (words skipped : ℕ) (bits : List ℕ) (block : Contents) → IsByteSet bits → 32 < length bits → IsBitParts words block → skipped ≡ 0
    → bit_list words block ≡ record { width = 1; pairs = zeroed bits } → IsBuilt words 1 (zeroed bits) (bit_tree words skipped block)
set_built words skipped bits block is more parts none same =
    let long = length-zeroed bits in
    subst (λ n. IsBuilt words 1 (zeroed bits) (bit_tree words n block)) (sym none)
    (bits_built words block (zeroed bits) parts (same ∙ ap (λ pairs. record { width = 1; pairs = pairs }) (sym (low_zeroed bits is))) (omega arith) (zeroed_map words bits is))
