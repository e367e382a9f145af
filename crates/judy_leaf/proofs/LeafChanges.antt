-- What a pair more or less in its block makes of a leaf.
use Rattle.std.proofs.Common.{◌≡◌, ℕ, ◌+◌, ◌-◌, ◌*◌, ◌<◌, ◌≤◌, false, length, take, drop, ap, sym, ◌∙◌, subst, arith}
use Rattle.std.specs.List.{insert, remove}
use Rattle.std.specs.List.Sorted.{IsStrictlySortedBy}
use Rattle.judy_block.specs.Contents.{Contents}
use Rattle.judy_model.specs.Keys.{word_order}
use Rattle.judy_bits.specs.ByteSets as set
use Rattle.judy_leaf.specs.Packing.{keys_in}
use Rattle.judy_leaf.specs.KeyLists.{KeyList, keys_of, pairs_of, with_pair}
use Rattle.judy_leaf.specs.Leaves.{keys_from, leaf_list, AreKeysFrom, IsLeafParts}
use Rattle.judy_leaf.specs.PairChanges.{IsPairPut, IsPairTaken, HasRoom}
use Rattle.judy_leaf.proofs.LeafLists.{leaf_keys, length-keys_from, read_length}
use Rattle.judy_leaf.proofs.PairLists.{ascending-insert, ascending-remove}

-- The same leaf in another block.
in_room : (words count needed : ℕ) (before room : Contents) → HasRoom needed before room → leaf_list words count room ≡ leaf_list words count before
in_room words count needed before room has = λ t. record { width = has.tag t; pairs = pairs_of (keys_in (has.tag t) count (drop (words * count) (has.words t))) (take (words * count) (has.words t)) }

-- A pair put in where its key is to stand.
pub leaf_put : (words count needed at key value : ℕ) (before room after : Contents) (list : KeyList) → IsLeafParts words count before → leaf_list words count before ≡ list → HasRoom needed before room
    → IsPairPut words count at key value room after → at ≡ set.rank (keys_of list.pairs) key → set.has (keys_of list.pairs) key ≡ false
    → IsLeafParts words (count + 1) after × (leaf_list words (count + 1) after ≡ record list { pairs = with_pair key value list.pairs })
leaf_put words count needed at key value before room after list is seen has put ranked absent =
    let same : leaf_list words count room ≡ list = in_room words count needed before room has ∙ seen in
    let keys : keys_of list.pairs ≡ keys_from room.tag count (words * count) room =
    ap (λ l. keys_of l.pairs) (sym seen) ∙ leaf_keys words count before is ∙ (λ t. keys_in (sym has.tag t) count (drop (words * count) (sym has.words t))) in
    let ascending : IsStrictlySortedBy word_order (keys_of list.pairs) =
    subst (IsStrictlySortedBy word_order) (sym (ap (λ l. keys_of l.pairs) (sym seen) ∙ leaf_keys words count before is)) is.ascending in
    let new : keys_from after.tag (count + 1) (words * (count + 1)) after ≡ insert (keys_of list.pairs) (set.rank (keys_of list.pairs) key) key =
    ap (λ tag. keys_from tag (count + 1) (words * (count + 1)) after) put.tag ∙ put.keys ∙ (λ t. insert (sym keys t) (ranked t) key) in (
      record {
        one = is.one;
        keys = subst (λ tag. AreKeysFrom tag (count + 1) (words * (count + 1)) after) (sym put.tag) put.are;
        ascending = subst (IsStrictlySortedBy word_order) (sym new) (ascending-insert (keys_of list.pairs) key ascending absent);
      },
      (λ t. record { width = (put.tag ∙ ap (λ l. l.width) same) t; pairs = (put.pairs ∙ (λ j. insert (same j).pairs (ranked j) (key, value))) t }),
    )

-- A pair taken out.
leaf_taken : (words left at : ℕ) (before after : Contents) (list : KeyList) → IsLeafParts words (left + 1) before → leaf_list words (left + 1) before ≡ list →
    IsPairTaken words left at before after → at ≤ left
    → IsLeafParts words left after × (leaf_list words left after ≡ record list { pairs = remove list.pairs at })
leaf_taken words left at before after list is seen taken place =
    let long = length-keys_from before.tag (left + 1) (words * (left + 1)) before is.keys in
    let new : keys_from after.tag left (words * left) after ≡ remove (keys_from before.tag (left + 1) (words * (left + 1)) before) at =
    ap (λ tag. keys_from tag left (words * left) after) taken.tag ∙ taken.keys in (
      record {
        one = is.one;
        keys = subst (λ tag. AreKeysFrom tag left (words * left) after) (sym taken.tag) taken.are;
        ascending = subst (IsStrictlySortedBy word_order) (sym new) (ascending-remove (keys_from before.tag (left + 1) (words * (left + 1)) before) at is.ascending (omega arith));
      },
      (λ t. record { width = (taken.tag ∙ ap (λ l. l.width) seen) t; pairs = (taken.pairs ∙ ap (λ l. remove l.pairs at) seen) t }),
    )

-- The same by how many there were.
pub leaf_less : (words count at : ℕ) (before after : Contents) (list : KeyList) → IsLeafParts words count before → leaf_list words count before ≡ list →
    at < length list.pairs → {read : ℕ} → read ≡ count
    → IsPairTaken words (read - 1) at before after → IsLeafParts words (count - 1) after × (leaf_list words (count - 1) after ≡ record list { pairs = remove list.pairs at })
leaf_less words count at before after list is seen inside read taken =
    let long = read_length words count before is list seen in
    let e : count ≡ count - 1 + 1 = omega arith in
    leaf_taken words (count - 1) at before after list (subst (λ n. IsLeafParts words n before) e is) (ap (λ n. leaf_list words n before) (sym e) ∙ seen)
    (subst (λ n. IsPairTaken words (n - 1) at before after) read taken) (omega arith)
