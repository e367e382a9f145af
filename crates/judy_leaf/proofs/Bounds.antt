-- The keys of leaves and immediates fit their width.
use Rattle.std.proofs.Common.{◌≡◌, ℕ, zero, suc, ◌*◌, ◌^◌, ◌<◌, List, [], ◌∷◌, length, take, get_or, refl, ap, sym, ◌∙◌, subst, arith}
use Rattle.std.specs.List.{AllByRecursion}
use Rattle.std.specs.List.Sorted.{IsStrictlySortedBy}
use Rattle.std.proofs.lemmas.List.Elements.{All-head, All-tail}
use Rattle.judy_model.specs.Keys.{IsByteString, word_order}
use Rattle.judy_bits.specs.ByteSets.{IsByteSet}
use Rattle.judy_bits.proofs.MemberLemmas.{members_of-IsByteSet}
use Rattle.judy_block.specs.Contents.{Contents}
use Rattle.judy_leaf.specs.KeyLists.{KeyList, keys_of, IsKeyList}
use Rattle.judy_leaf.specs.Packing.{keys_in}
use Rattle.judy_leaf.specs.BitLeaves.{bit_keys}
use Rattle.judy_leaf.specs.Immediates.{imm_list, IsImm}
use Rattle.judy_leaf.proofs.KeysIn.{keys_below_unit}
use Rattle.judy_leaf.proofs.LeafLists.{keys_of-pairs_of}

pub all_bytes : (xs : List ℕ) → IsByteString xs → AllByRecursion (λ byte. byte < 256) xs
all_bytes [] all = tt
all_bytes (x ∷ xs) all = (All-head (λ b. b < 256) x xs all, all_bytes xs (All-tail (λ b. b < 256) x xs all))

pub bit_keys-below : (block : Contents) → AllByRecursion (λ byte. byte < 256) (bit_keys block)
bit_keys-below block = all_bytes (bit_keys block) (members_of-IsByteSet (take 4 block.words)).bytes

imm_below : (words width count keys value : ℕ) (list : KeyList) → imm_list words width count keys value ≡ list → AllByRecursion (λ key. key < 256 ^ list.width) (keys_of list.pairs)
imm_below words width count keys value list is =
    subst (λ w. AllByRecursion (λ key. key < 256 ^ w) (keys_of list.pairs)) (ap (λ l. l.width) is)
    (subst (AllByRecursion (λ key. key < 256 ^ width)) (sym (keys_of-pairs_of (keys_in width count (keys ∷ [])) (take (words * count) (value ∷ []))) ∙ ap (λ l. keys_of l.pairs) is)
    (keys_below_unit width count (keys ∷ [])))

-- What an immediate keeps, as a key list.
pub imm_keys : (words width count keys value : ℕ) (list : KeyList) → IsImm words width count keys → imm_list words width count keys value ≡ list → IsKeyList list
imm_keys words width count keys value list level is = subst IsKeyList is (record {
  some = level.packed.is_width.some;
  most = level.packed.is_width.most;
  ascending = subst (IsStrictlySortedBy word_order) (sym (keys_of-pairs_of (keys_in width count (keys ∷ [])) (take (words * count) (value ∷ [])))) level.ascending;
  below = imm_below words width count keys value (imm_list words width count keys value) refl;
})

pub key_below : (top : ℕ) (pairs : List (ℕ × ℕ)) (at : ℕ) → AllByRecursion (λ key. key < top) (keys_of pairs) → at < length pairs → get_or (keys_of pairs) at 0 < top
key_below top [] at below inside = let never : ⊥ = omega arith in absurd never
key_below top (pair ∷ pairs) zero below inside = below.0
key_below top (pair ∷ pairs) (suc at) below inside = key_below top pairs at below.1 (omega arith)
