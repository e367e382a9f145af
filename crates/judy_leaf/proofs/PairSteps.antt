-- A pair more in the block of a leaf, or one less, from what happens to its values and to its keys.
use Rattle.std.proofs.Common.{◌≡◌, ℕ, ◌+◌, ◌*◌, ◌/◌, ◌^◌, ◌<◌, ◌≤◌, [], length, take, refl, ap, sym, ◌∙◌, subst, arith}
use Rattle.std.proofs.Math.Nat.{div-eq_of_lt-le}
use Rattle.std.specs.List.{insert, remove}
use Rattle.std.proofs.lemmas.List.{length-take-le}
use Rattle.judy_block.specs.Contents.{Contents}
use Rattle.judy_leaf.specs.KeyLists.{pairs_of}
use Rattle.judy_leaf.specs.Leaves.{keys_from, AreKeysFrom}
use Rattle.judy_leaf.specs.KeyChanges.{IsKeyChange}
use Rattle.judy_leaf.specs.ValueChanges.{IsValueChange}
use Rattle.judy_leaf.specs.PairChanges.{IsPairPut, IsPairTaken}
use Rattle.judy_leaf.proofs.LeafLists.{length-keys_from}
use Rattle.judy_leaf.proofs.ValueSteps.{put_is, value_put, length-insert}
use Rattle.judy_leaf.proofs.WholeWords.{words_are, word_put}
use Rattle.judy_leaf.proofs.PairLists.{pairs-insert, pairs-insert_none, pairs-remove, pairs-remove_none}

pub once : (n : ℕ) → 1 * n ≡ n
once n = omega arith

never_more : (n : ℕ) → 0 * n ≡ 0
never_more n = omega arith

-- With values.
pub put_with_value : (words count at key value : ℕ) (before mid after : Contents) → words ≡ 1 → at ≤ count → AreKeysFrom before.tag count (words * count) before
    → IsValueChange count count (count + 1) (λ values. insert values at value) before mid → IsKeyChange before.tag (count + 1) count (count + 1) (λ keys. insert keys at key) mid after
    → IsPairPut words count at key value before after
put_with_value words count at key value before mid after one place are changed put =
    subst (λ n. IsPairPut n count at key value before after) (sym one)
    (let here = subst (λ n. AreKeysFrom before.tag count n before) (ap (λ n. n * count) one ∙ once count) are in
    let old = keys_from before.tag count count before in
    let exact = here.exact in
    let long = length-keys_from before.tag count count before here in
    let values : length (take count before.words) ≡ count = length-take-le count before.words (omega arith) in
    let tags = put.tag ∙ changed.tag in
    let keys : keys_from before.tag (count + 1) (count + 1) after ≡ insert old at key = put.changed ∙ ap (λ keys. insert keys at key) changed.same in
    record {
      capacity = put.capacity ∙ changed.capacity;
      tag = tags;
      are = subst (λ n. AreKeysFrom before.tag (count + 1) n after) (sym (once (count + 1))) put.keys;
      keys = (λ t. keys_from before.tag (count + 1) (once (count + 1) t) after) ∙ keys ∙ ap (λ n. insert (keys_from before.tag count n before) at key) (sym (once count));
      pairs = (λ t. pairs_of (keys_from (tags t) (count + 1) (once (count + 1) t) after) (take (once (count + 1) t) after.words))
          ∙ (λ t. pairs_of (keys t) ((put.front ∙ changed.changed) t))
          ∙ pairs-insert old (take count before.words) at key value (values ∙ sym long) (omega arith)
          ∙ ap (λ n. insert (pairs_of (keys_from before.tag count n before) (take n before.words)) at (key, value)) (sym (once count));
    })

-- With values, where a word has one key.
pub put_words : (width count at key value : ℕ) (before : Contents) → 4 < width → before.tag ≡ width → at ≤ count → count < 32 → key < 256 ^ width → AreKeysFrom width count count before
    → IsPairPut 1 count at key value before (record before { words = insert (insert before.words at value) (count + 1 + at) key })
put_words width count at key value before wide tag place few below keys =
    let is = keys.packed.is_width in
    let most = is.most in
    let one : 8 / width ≡ 1 = div-eq_of_lt-le width (omega arith) (omega arith) in
    let exact = keys.exact in
    let words = words_are width is one count in
    let own = subst (λ w. AreKeysFrom w count count before) (sym tag) keys in
    let values = insert before.words at value in
    let longer = length-insert before.words at value (omega arith) in
    let mid : Contents = record before { words = values } in
    let after : Contents = record before { words = insert values (count + 1 + at) key } in
    let changed = value_put count at value before values place own (sym (put_is before.words at value (omega arith))) in
    let put = word_put width is one (count + 1) count at mid (subst (λ w. AreKeysFrom w count (count + 1) mid) tag changed.are) key (insert values (count + 1 + at) key) place few below
    (sym (put_is values (count + 1 + at) key (omega arith))) in
    put_with_value 1 count at key value before mid after refl place (subst (λ n. AreKeysFrom before.tag count n before) (sym (once count)) own) changed
    (subst (λ w. IsKeyChange w (count + 1) count (count + 1) (λ keys. insert keys at key) mid after) (sym tag) put)

-- Without values.
pub put_without : (words count at key value : ℕ) (before after : Contents) → words ≡ 0 → value ≡ 0 → at ≤ count → AreKeysFrom before.tag count (words * count) before
    → IsKeyChange before.tag 0 count (count + 1) (λ keys. insert keys at key) before after → IsPairPut words count at key value before after
put_without words count at key value before after none zero_value place are put =
    subst (λ n. IsPairPut n count at key value before after) (sym none)
    (let here = subst (λ n. AreKeysFrom before.tag count n before) (ap (λ n. n * count) none ∙ never_more count) are in
    let old = keys_from before.tag count 0 before in
    let long = length-keys_from before.tag count 0 before here in
    record {
      capacity = put.capacity;
      tag = put.tag;
      are = subst (λ n. AreKeysFrom before.tag (count + 1) n after) (sym (never_more (count + 1))) put.keys;
      keys = ap (λ n. keys_from before.tag (count + 1) n after) (never_more (count + 1)) ∙ put.changed ∙ ap (λ n. insert (keys_from before.tag count n before) at key) (sym (never_more count));
      pairs = (λ t. pairs_of (keys_from (put.tag t) (count + 1) (never_more (count + 1) t) after) (take (never_more (count + 1) t) after.words))
          ∙ ap (λ keys. pairs_of keys []) put.changed
          ∙ pairs-insert_none old at key (omega arith)
          ∙ ap (λ v. insert (pairs_of old []) at (key, v)) (sym zero_value)
          ∙ ap (λ n. insert (pairs_of (keys_from before.tag count n before) (take n before.words)) at (key, value)) (sym (never_more count));
    })

-- One less, with values.
pub take_with_value : (words left at : ℕ) (before mid after : Contents) → words ≡ 1 → at ≤ left → AreKeysFrom before.tag (left + 1) (words * (left + 1)) before
    → IsKeyChange before.tag (left + 1) (left + 1) left (λ keys. remove keys at) before mid → IsValueChange left (left + 1) left (λ values. remove values at) mid after
    → IsPairTaken words left at before after
take_with_value words left at before mid after one place are taken changed =
    subst (λ n. IsPairTaken n left at before after) (sym one)
    (let here = subst (λ n. AreKeysFrom before.tag (left + 1) n before) (ap (λ n. n * (left + 1)) one ∙ once (left + 1)) are in
    let old = keys_from before.tag (left + 1) (left + 1) before in
    let exact = here.exact in
    let long = length-keys_from before.tag (left + 1) (left + 1) before here in
    let values : length (take (left + 1) before.words) ≡ left + 1 = length-take-le (left + 1) before.words (omega arith) in
    let tags = changed.tag ∙ taken.tag in
    let keys : keys_from before.tag left left after ≡ remove old at =
    ap (λ tag. keys_from tag left left after) (sym taken.tag) ∙ changed.same ∙ ap (λ tag. keys_from tag left (left + 1) mid) taken.tag ∙ taken.changed in
    record {
      tag = tags;
      are = subst (λ n. AreKeysFrom before.tag left n after) (sym (once left)) (subst (λ tag. AreKeysFrom tag left left after) taken.tag changed.are);
      keys = ap (λ n. keys_from before.tag left n after) (once left) ∙ keys ∙ ap (λ n. remove (keys_from before.tag (left + 1) n before) at) (sym (once (left + 1)));
      pairs = (λ t. pairs_of (keys_from (tags t) left (once left t) after) (take (once left t) after.words))
          ∙ (λ t. pairs_of (keys t) ((changed.changed ∙ ap (λ l. remove l at) taken.front) t))
          ∙ pairs-remove old (take (left + 1) before.words) at (values ∙ sym long) (omega arith)
          ∙ ap (λ n. remove (pairs_of (keys_from before.tag (left + 1) n before) (take n before.words)) at) (sym (once (left + 1)));
    })

pub take_without : (words left at : ℕ) (before after : Contents) → words ≡ 0 → at ≤ left → AreKeysFrom before.tag (left + 1) (words * (left + 1)) before
    → IsKeyChange before.tag 0 (left + 1) left (λ keys. remove keys at) before after → IsPairTaken words left at before after
take_without words left at before after none place are taken =
    subst (λ n. IsPairTaken n left at before after) (sym none)
    (let here = subst (λ n. AreKeysFrom before.tag (left + 1) n before) (ap (λ n. n * (left + 1)) none ∙ never_more (left + 1)) are in
    let old = keys_from before.tag (left + 1) 0 before in
    let long = length-keys_from before.tag (left + 1) 0 before here in
    record {
      tag = taken.tag;
      are = subst (λ n. AreKeysFrom before.tag left n after) (sym (never_more left)) taken.keys;
      keys = ap (λ n. keys_from before.tag left n after) (never_more left) ∙ taken.changed ∙ ap (λ n. remove (keys_from before.tag (left + 1) n before) at) (sym (never_more (left + 1)));
      pairs = (λ t. pairs_of (keys_from (taken.tag t) left (never_more left t) after) (take (never_more left t) after.words))
          ∙ ap (λ keys. pairs_of keys []) taken.changed
          ∙ pairs-remove_none old at (omega arith)
          ∙ ap (λ n. remove (pairs_of (keys_from before.tag (left + 1) n before) (take n before.words)) at) (sym (never_more (left + 1)));
    })
