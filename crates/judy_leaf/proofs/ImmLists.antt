-- The list that an immediate is, and what a key more or less makes of it.
use Rattle.std.proofs.Common.{◌≡◌, ℕ, zero, suc, ◌+◌, ◌-◌, ◌*◌, ◌/◌, ◌^◌, ◌<◌, ◌≤◌, ◌==◌, false, List, [], ◌∷◌, length, take, replicate, get_or, refl, ap, sym, ◌∙◌, subst, arith}
use Rattle.std.specs.List.{insert, remove, AllByRecursion}
use Rattle.std.specs.List.Sorted.{IsStrictlySortedBy}
use Rattle.std.proofs.lemmas.List.{length-take-le}
use Rattle.judy_model.specs.Keys.{word_order}
use Rattle.judy_bits.specs.ByteSets as set
use Rattle.judy_leaf.specs.Packing.{places_of, keys_in, IsPacked, IsWidth}
use Rattle.judy_leaf.specs.KeyLists.{KeyList, keys_of, values_of, pairs_of, with_pair, IsKeyList}
use Rattle.judy_leaf.specs.Immediates.{imm_list, imm_room, count_in, keys_part, value_part, parts_list, IsImm, IsWordChange}
use Rattle.judy_leaf.proofs.Placed.{per_pos, length-places_of}
use Rattle.judy_leaf.proofs.KeysIn.{keys_below_unit}
use Rattle.judy_leaf.proofs.KeyEdits.{packed_more}
use Rattle.judy_leaf.proofs.LeafLists.{Stands, keys_of-pairs_of, length-pairs_of, length-keys_of, no_value, value_of, rank_within}
use Rattle.judy_leaf.proofs.PairLists.{pairs-insert_none, pairs-remove, pairs-remove_none, ascending-insert, ascending-remove}

-- No keys, whatever the value.
pub imm_empty : (words width : ℕ) → words ≤ 1 → IsWidth width → IsImm words width 0 0
unfolding IsStrictlySortedBy
imm_empty words width one is = record {
  one = one;
  few = λ _. omega arith;
  packed = (packed_more width is 0 [] (record { is_width = is; enough = omega arith; clear = ap (λ n. replicate n 0) (let e : 0 ≡ 0 * (8 / width) - 0 = omega arith in e); tight = tt })).0;
  ascending = tt;
}

pub length-keys_in : (width count keys : ℕ) → IsPacked width count (keys ∷ []) → length (keys_in width count (keys ∷ [])) ≡ count
length-keys_in width count keys packed =
    let room = packed.enough in
    length-take-le count (places_of width (keys ∷ [])) (subst (λ n. count ≤ n) (sym (length-places_of width packed.is_width (keys ∷ []))) room)

room_for : (words width other n count : ℕ) → words ≤ 1 → IsWidth width → other ≡ width → n ≡ count → n < imm_room words other → count < 8 / width
room_for zero width other n count most is same e room = subst (λ k. count < 8 / k) same (omega arith)
room_for (suc zero) width other n count most is same e room = let some = per_pos width is in omega arith
room_for (suc (suc w)) width other n count most is same e room = let never : ⊥ = omega arith in absurd never

one_room : (words other n count : ℕ) → words ≡ 1 → n ≡ count → n < imm_room words other → count ≡ 0
one_room words other n count one e room =
    let less : n < 1 = subst (λ w. n < imm_room w other) one room in omega arith

room_none : (words other : ℕ) → words ≡ 0 → imm_room words other ≡ 8 / other
room_none words other none = ap (λ w. imm_room w other) none

pairs_put : (words count at key value new : ℕ) (ks : List ℕ) → words ≤ 1 → (words ≡ 1 → count ≡ 0) → (words ≡ 0 → new ≡ 0) → length ks ≡ count → at ≤ count
    → pairs_of (insert ks at key) (take (words * (count + 1)) (new ∷ [])) ≡ insert (pairs_of ks (take (words * count) (value ∷ []))) at (key, new)
pairs_put zero count at key value new ks most empty zeroed long place =
    ap (λ n. pairs_of (insert ks at key) (take n (new ∷ []))) (let e : 0 * (count + 1) ≡ 0 = omega arith in e)
    ∙ pairs-insert_none ks at key (omega arith)
    ∙ (λ t. insert (pairs_of ks (take ((let e : 0 ≡ 0 * count = omega arith in e) t) (value ∷ []))) at (key, sym (zeroed refl) t))
pairs_put (suc zero) count at key value new ks most empty zeroed long place =
    let none : count ≡ 0 = empty refl in
    let first : at ≡ 0 = omega arith in
    (λ t. pairs_of (insert ks (first t) key) (take ((let e : 1 * (count + 1) ≡ 1 = omega arith in e) t) (new ∷ [])))
    ∙ (λ t. insert (pairs_of ks (take ((let e : 0 ≡ 1 * count = omega arith in e) t) (value ∷ []))) (sym first t) (key, new))
pairs_put (suc (suc w)) count at key value new ks most empty zeroed long place = let never : ⊥ = omega arith in absurd never

pairs_taken : (words count at value : ℕ) (ks : List ℕ) → words ≤ 1 → (words ≡ 1 → count ≤ 1) → length ks ≡ count → at < count
    → pairs_of (remove ks at) (take (words * (count - 1)) (value ∷ [])) ≡ remove (pairs_of ks (take (words * count) (value ∷ []))) at
pairs_taken zero count at value ks most few long inside =
    ap (λ n. pairs_of (remove ks at) (take n (value ∷ []))) (let e : 0 * (count - 1) ≡ 0 = omega arith in e)
    ∙ pairs-remove_none ks at (omega arith)
    ∙ ap (λ n. remove (pairs_of ks (take n (value ∷ []))) at) (let e : 0 ≡ 0 * count = omega arith in e)
pairs_taken (suc zero) count at value ks most few long inside =
    let single = few refl in
    let first : at ≡ 0 = omega arith in
    (λ t. pairs_of (remove ks (first t)) (take ((let e : 1 * (count - 1) ≡ 0 = omega arith in e) t) (value ∷ [])))
    ∙ pairs-remove ks (value ∷ []) 0 (omega arith) (omega arith)
    ∙ (λ t. remove (pairs_of ks (take ((let e : 1 ≡ 1 * count = omega arith in e) t) (value ∷ []))) (sym first t))
pairs_taken (suc (suc w)) count at value ks most few long inside = let never : ⊥ = omega arith in absurd never

module _ (words width count keys value : ℕ) (is : IsImm words width count keys) (list : KeyList) (seen : imm_list words width count keys value ≡ list) where
  long : length (keys_in width count (keys ∷ [])) ≡ count
  long = length-keys_in width count keys is.packed

  pub imm_length : length list.pairs ≡ count
  imm_length = ap (λ l. length l.pairs) (sym seen) ∙ length-pairs_of (keys_in width count (keys ∷ [])) (take (words * count) (value ∷ [])) ∙ long

  own_keys : keys_in width count (keys ∷ []) ≡ keys_of list.pairs
  own_keys = sym (keys_of-pairs_of (keys_in width count (keys ∷ [])) (take (words * count) (value ∷ []))) ∙ ap (λ l. keys_of l.pairs) seen

  pub imm_keys : (n : ℕ) → n ≡ count → keys_in width n (keys ∷ []) ≡ keys_of list.pairs
  imm_keys n e = ap (λ k. keys_in width k (keys ∷ [])) e ∙ own_keys

  pub imm_ascending : IsStrictlySortedBy word_order (keys_of list.pairs)
  imm_ascending = subst (IsStrictlySortedBy word_order) own_keys is.ascending

  pub imm_stands : (n : ℕ) → n ≡ count → Stands list.pairs (keys_in width n (keys ∷ []))
  imm_stands n e = record { same = imm_keys n e; ascending = imm_ascending }

  -- The list of an immediate is a list of keys of its width.
  pub imm_list_is : IsKeyList list
  imm_list_is =
      let own : keys_of (pairs_of (keys_in width count (keys ∷ [])) (take (words * count) (value ∷ []))) ≡
      keys_in width count (keys ∷ []) = keys_of-pairs_of (keys_in width count (keys ∷ [])) (take (words * count) (value ∷ [])) in
      subst IsKeyList seen (record {
        some = is.packed.is_width.some;
        most = is.packed.is_width.most;
        ascending = subst (IsStrictlySortedBy word_order) (sym own) is.ascending;
        below = subst (AllByRecursion (λ key. key < 256 ^ width)) (sym own) (keys_below_unit width count (keys ∷ []));
      })

  pub imm_rank : (rank key : ℕ) → rank ≡ set.rank (keys_of list.pairs) key → rank ≤ length list.pairs
  imm_rank rank key ranked =
      let most = rank_within (keys_of list.pairs) key in
      let all = length-keys_of list.pairs in
      omega arith

  no_values : words ≡ 0 → (n : ℕ) → take (words * n) (value ∷ []) ≡ []
  no_values none n = ap (λ k. take k (value ∷ [])) (ap (λ w. w * n) none ∙ (let e : 0 * n ≡ 0 = omega arith in e))

  pub imm_value : (at : ℕ) → at < length list.pairs → words ≡ 1 → value ≡ get_or (values_of list.pairs) at 0
  imm_value at inside one =
      let all = imm_length in
      let few = is.few one in
      let first : at ≡ 0 = omega arith in
      let single : words * count ≡ 1 = ap (λ w. w * count) one ∙ omega arith in
      let h = long in
      let here : get_or (values_of (pairs_of (keys_in width count (keys ∷ [])) (value ∷ []))) 0 0 ≡ value = value_of (keys_in width count (keys ∷ [])) (value ∷ []) 0 (omega arith) (omega arith) in
      sym here ∙ ap (λ n. get_or (values_of (pairs_of (keys_in width count (keys ∷ [])) (take n (value ∷ [])))) 0 0) (sym single)
      ∙ ap (λ l. get_or (values_of l.pairs) 0 0) seen ∙ ap (λ n. get_or (values_of list.pairs) n 0) (sym first)

  pub imm_no_value : (at : ℕ) → words ≡ 0 → 0 ≡ get_or (values_of list.pairs) at 0
  imm_no_value at none =
      sym (no_value (keys_in width count (keys ∷ [])) at) ∙ ap (λ values. get_or (values_of (pairs_of (keys_in width count (keys ∷ [])) values)) at 0) (sym (no_values none count))
      ∙ ap (λ l. get_or (values_of l.pairs) at 0) seen

  -- ---- changes

  width_is : list.width ≡ width
  width_is = ap (λ l. l.width) (sym seen)

  -- An immediate that isn't full holds fewer keys than a word.
  room_all : length list.pairs < imm_room words list.width → count < 8 / width
  room_all room = room_for words width list.width (length list.pairs) count is.one is.packed.is_width width_is imm_length room

  pub room_within : (n : ℕ) → n ≡ count → length list.pairs < imm_room words list.width → n < 8 / width
  room_within n e room = subst (λ k. k < 8 / width) (sym e) (room_all room)

  pub imm_put : (at key value_now new : ℕ) → IsWordChange width count (count + 1) (λ keys. insert keys at key) keys new → at ≡ set.rank (keys_of list.pairs) key →
      set.has (keys_of list.pairs) key ≡ false
      → length list.pairs < imm_room words list.width → (words ≡ 0 → value_now ≡ 0)
      → IsImm words width (count + 1) new × (imm_list words width (count + 1) new value_now ≡ record list { pairs = with_pair key value_now list.pairs })
  imm_put at key value_now new change ranked absent room zeroed =
      let ascending : IsStrictlySortedBy word_order (keys_of list.pairs) = subst (IsStrictlySortedBy word_order) own_keys is.ascending in
      let keys_now : keys_in width (count + 1) (new ∷ []) ≡ insert (keys_of list.pairs) (set.rank (keys_of list.pairs) key) key = change.changed ∙ (λ t. insert (own_keys t) (ranked t) key) in
      let most = imm_rank at key ranked in
      let all = imm_length in
      let empty : words ≡ 1 → count ≡ 0 = λ one. one_room words list.width (length list.pairs) count one imm_length room in (
        record {
          one = is.one;
          few = λ one. let none = empty one in omega arith;
          packed = change.packed;
          ascending = subst (IsStrictlySortedBy word_order) (sym keys_now) (ascending-insert (keys_of list.pairs) key ascending absent);
        },
        (λ t. record {
          width = ap (λ l. l.width) seen t;
          pairs = (ap (λ ks. pairs_of ks (take (words * (count + 1)) (value_now ∷ []))) change.changed
              ∙ pairs_put words count at key value value_now (keys_in width count (keys ∷ [])) is.one empty zeroed long (omega arith)
              ∙ (λ j. insert (seen j).pairs (ranked j) (key, value_now))) t;
        }),
      )

  pub imm_taken : (at new : ℕ) → IsWordChange width count (count - 1) (λ keys. remove keys at) keys new → at < length list.pairs
      → IsImm words width (count - 1) new × (imm_list words width (count - 1) new value ≡ record list { pairs = remove list.pairs at })
  imm_taken at new change inside =
      let all = imm_length in
      let h = long in (
        record {
          one = is.one;
          few = λ one. let most = is.few one in omega arith;
          packed = change.packed;
          ascending = subst (IsStrictlySortedBy word_order) (sym change.changed) (ascending-remove (keys_in width count (keys ∷ [])) at is.ascending (omega arith));
        },
        (λ t. record {
          width = ap (λ l. l.width) seen t;
          pairs = (ap (λ ks. pairs_of ks (take (words * (count - 1)) (value ∷ []))) change.changed
              ∙ pairs_taken words count at value (keys_in width count (keys ∷ [])) is.one is.few long (omega arith)
              ∙ ap (λ l. remove l.pairs at) seen) t;
        }),
      )

  -- Whether another key fits.
  pub full_without : (room : ℕ) → words ≡ 0 → room ≡ 8 / width → (count == room) ≡ (length list.pairs == imm_room words list.width)
  full_without room none is_room = λ t. sym imm_length t == (is_room ∙ ap (λ w. 8 / w) (sym width_is) ∙ sym (room_none words list.width none)) t

  -- One key with its value, as two words.
  pub parts_one : words ≡ 1 → 1 ≤ length list.pairs → parts_list words list.width keys value ≡ list
  parts_one one some =
      let all = imm_length in
      let few = is.few one in
      let single : 1 ≡ count = omega arith in
      (λ t. imm_list words (width_is t) ((ap (λ w. count_in w keys) one ∙ single) t) (ap (λ w. keys_part w keys value) one t) (ap (λ w. value_part w value) one t)) ∙ seen
