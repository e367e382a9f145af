-- The list of one group: its keys by their bytes, each with its value.
use Rattle.std.proofs.Common.{◌≡◌, ℕ, zero, suc, ◌/◌, ◌*◌, ◌+◌, ◌%◌, ◌^◌, ◌<◌, T, List, [], ◌∷◌, map, length, Option, Some, None, refl, sym, ap, subst, ◌∙◌, inl, inr, arith, ⊎_elim}
use Rattle.std.specs.Ordering.{is_lt}
use Rattle.std.specs.List.{AllByRecursion}
use Rattle.std.specs.Cmp.{nat_cmp_total}
use Rattle.std.specs.FinMap.{find, is_sorted, entries, entries_sorted, get, get-entries, from_entries}
use Rattle.std.specs.FinMap.Entries.{below_all}
use Rattle.std.proofs.lemmas.List.Elements.{All-nil, All-cons, recursion_from_All}
use Rattle.std.proofs.lemmas.Nat.{mod_below, mod-mul-add}
use Rattle.std.proofs.lemmas.Option.{none-some}
use Rattle.judy_model.specs.Keys.{word_order, byte_order, IsByteString}
use Rattle.judy_model.specs.WordBytes.{low_bytes, number_of}
use Rattle.judy_model.specs.Arrays.{ArrayOf}
use Rattle.judy_model.proofs.lemmas.orders.ByteLemmas.{length-low_bytes, number_of-low_bytes, low_bytes-number_of, order-low_bytes}
use Rattle.judy_model.proofs.lemmas.maps.Tests.{left_of, right_of, both}
use Rattle.judy_hs.specs.Chains.{Pairs, value_in, AreApart}
use Rattle.judy_hs.specs.LongGroups.{Long, chain_at, in_long, in_chain}
use Rattle.judy_hs.specs.Groups.{Group, none, short, long, in_group}
use Rattle.judy_hs.specs.Kept.{IsShort, IsLong, IsGroup}
use Rattle.judy_hs.specs.Listed.{short_list, chained, long_list, group_list, CanList}
use Rattle.judy_hs.specs.Parts.{part_of}
use Rattle.judy_hs.proofs.ChainLemmas.{bytes_cases, value_in-here, value_in-later}
use Rattle.judy_hs.proofs.PartLemmas.{part_short, part_long}
use Rattle.judy_hs.proofs.SortLemmas.{find_value, get-made}
use Rattle.judy_hs.proofs.ValueLemmas.{entries_hold}
use Rattle.judy_hs.proofs.TwoLevels.{same_or_not}
use Rattle.judy_hs.proofs.LevelLists.{Tells, led, find_here, find_later, value_levels, apart_levels, found_levels}

-- What the list of a group of keys of a length is: in order, of keys of that length, and it answers as the group does.
pub record IsListed (hash_of : List ℕ → ℕ) (key_length : ℕ) (group : Group) (pairs : Pairs) : Type 0 where
  pub sorted : T (is_sorted byte_order pairs)
  pub keys : (key : List ℕ) (value : ℕ) → value_in pairs key ≡ Some value → IsByteString key × (length key ≡ key_length)
  pub answers : (key : List ℕ) → IsByteString key → length key ≡ key_length → value_in pairs key ≡ in_group group (part_of hash_of key) key

-- ---- short keys

mod_small : (word unit : ℕ) → word < unit → word % unit ≡ word
mod_small word unit below = let same : 0 * unit + word ≡ word = omega arith in ap (λ n. n % unit) (sym same) ∙ mod-mul-add 0 unit word below

low_bytes-are_bytes : (width word : ℕ) → IsByteString (low_bytes width word)
low_bytes-are_bytes zero word = All-nil (λ byte. byte < 256)
low_bytes-are_bytes (suc width) word =
    let some : 0 < 256 = omega arith in All-cons (λ byte. byte < 256) (word / 256 ^ width % 256) (low_bytes width word) (mod_below (word / 256 ^ width) 256 some) (low_bytes-are_bytes width word)

module _ (key_length : ℕ) where
  short_keys : (words : List (ℕ × ℕ)) (key : List ℕ) (value : ℕ) → value_in (map (λ entry. (low_bytes key_length entry.0, entry.1)) words) key ≡ Some value →
      IsByteString key × (length key ≡ key_length)
  short_keys [] key value is = absurd (none-some value is)
  short_keys (entry ∷ rest) key value is = elim (bytes_cases (low_bytes key_length entry.0) key) [
    | inl same ↦ (subst IsByteString same (low_bytes-are_bytes key_length entry.0), ap length (sym same) ∙ length-low_bytes key_length entry.0)
    | inr differ ↦ short_keys rest key value (sym (value_in-later (low_bytes key_length entry.0, entry.1) (map (λ entry. (low_bytes key_length entry.0, entry.1)) rest) key differ) ∙ is)
  ]

  short_answers : (words : List (ℕ × ℕ)) → AllByRecursion (λ entry. entry.0 < 256 ^ key_length) words → (key : List ℕ) → IsByteString key → length key ≡ key_length
      → value_in (map (λ entry. (low_bytes key_length entry.0, entry.1)) words) key ≡ find word_order (number_of key) words
  short_answers [] fits key bytes same_length = refl
  short_answers (entry ∷ rest) fits key bytes same_length =
      let pair : List ℕ × ℕ = (low_bytes key_length entry.0, entry.1) in
      let more : Pairs = map (λ entry. (low_bytes key_length entry.0, entry.1)) rest in
      ⊎_elim
      (λ (same : number_of key ≡ entry.0).
      value_in-here pair more key (ap (low_bytes key_length) (sym same) ∙ ap (λ n. low_bytes n (number_of key)) (sym same_length) ∙ low_bytes-number_of key bytes)
      ∙ sym (ap (λ w. find word_order w (entry ∷ rest)) same ∙ find_here entry rest))
      (λ differ.
      value_in-later pair more key (λ same. differ (ap number_of (sym same) ∙ number_of-low_bytes key_length entry.0 ∙ mod_small entry.0 (256 ^ key_length) fits.0))
      ∙ short_answers rest fits.1 key bytes same_length ∙ sym (find_later (number_of key) entry rest differ))
      (same_or_not (number_of key) entry.0)

  short_below : (word : ℕ) → word < 256 ^ key_length → (words : List (ℕ × ℕ)) → AllByRecursion (λ entry. entry.0 < 256 ^ key_length) words → T (below_all word_order word words) →
      T (below_all byte_order (low_bytes key_length word) (map (λ entry. (low_bytes key_length entry.0, entry.1)) words))
  short_below word small [] fits below = tt
  short_below word small (entry ∷ rest) fits below =
      both (is_lt (byte_order (low_bytes key_length word) (low_bytes key_length entry.0))) (below_all byte_order (low_bytes key_length word)
      (map (λ entry. (low_bytes key_length entry.0, entry.1)) rest))
      (subst (λ r. T (is_lt r)) (order-low_bytes key_length word entry.0 small fits.0) (left_of (is_lt (word_order word entry.0)) (below_all word_order word rest) below))
      (short_below word small rest fits.1 (right_of (is_lt (word_order word entry.0)) (below_all word_order word rest) below))

  short_sorted : (words : List (ℕ × ℕ)) → AllByRecursion (λ entry. entry.0 < 256 ^ key_length) words → T (is_sorted word_order words) →
      T (is_sorted byte_order (map (λ entry. (low_bytes key_length entry.0, entry.1)) words))
  short_sorted [] fits sorted = tt
  short_sorted (entry ∷ rest) fits sorted =
      both (below_all byte_order (low_bytes key_length entry.0) (map (λ entry. (low_bytes key_length entry.0, entry.1)) rest))
      (is_sorted byte_order (map (λ entry. (low_bytes key_length entry.0, entry.1)) rest))
      (short_below entry.0 fits.0 rest fits.1 (left_of (below_all word_order entry.0 rest) (is_sorted word_order rest) sorted))
      (short_sorted rest fits.1 (right_of (below_all word_order entry.0 rest) (is_sorted word_order rest) sorted))

module _ (hash_of : List ℕ → ℕ) (key_length : ℕ) where
  listed_short : (words : ArrayOf word_order) → IsShort key_length words → IsListed hash_of key_length (short words) (short_list key_length words)
  listed_short words is =
      let small : AllByRecursion (λ entry. entry.0 < 256 ^ key_length) (entries words.map) = recursion_from_All (λ entry. entry.0 < 256 ^ key_length) (entries words.map)
      (entries_hold nat_cmp_total words.map (λ entry. entry.0 < 256 ^ key_length) is.fits) in
      record {
        sorted = short_sorted key_length (entries words.map) small (entries_sorted words.map);
        keys = short_keys key_length (entries words.map);
        answers = λ key bytes length_is.
            short_answers key_length (entries words.map) small key bytes length_is ∙ sym (get-entries words.map (number_of key))
            ∙ ap (get words.map) (sym (part_short hash_of key (let few = is.few in omega arith)));
      }

  -- ---- long keys

  module _ (group : Long) (is : IsLong hash_of key_length group) where
    tells : Tells (λ entry. chain_at group entry.1) hash_of (entries group.hashes.map)
    tells hash place leads key value held = ((is.chains hash place (get-entries group.hashes.map hash ∙ leads)).keys key value held).2

    pub chained_apart : AreApart (chained group)
    chained_apart =
        apart_levels (λ entry. chain_at group entry.1) hash_of (entries group.hashes.map) (entries_sorted group.hashes.map) tells
        (λ hash place leads. (is.chains hash place (get-entries group.hashes.map hash ∙ leads)).apart)

    chain_value : (found : Option ℕ) (key : List ℕ) → led (λ entry. chain_at group entry.1) hash_of found key ≡ in_chain group found key
    chain_value None key = refl
    chain_value (Some place) key = refl

    chained_value : (key : List ℕ) → value_in (chained group) key ≡ in_long group (hash_of key) key
    chained_value key =
        value_levels (λ entry. chain_at group entry.1) hash_of (entries group.hashes.map) (entries_sorted group.hashes.map) tells key
        ∙ chain_value (find word_order (hash_of key) (entries group.hashes.map)) key
        ∙ ap (λ (found : Option ℕ). in_chain group found key) (sym (get-entries group.hashes.map (hash_of key)))

    long_value : (key : List ℕ) → value_in (long_list group) key ≡ value_in (chained group) key
    long_value key = sym (find_value key (long_list group)) ∙ sym (get-entries (from_entries {R = byte_order} (chained group)) key) ∙ get-made (chained group) key

    listed_long : IsListed hash_of key_length (long group) (long_list group)
    listed_long = record {
      sorted = entries_sorted (from_entries {R = byte_order} (chained group));
      keys = λ key value held.
          let found = found_levels (λ entry. chain_at group entry.1) hash_of (entries group.hashes.map) (entries_sorted group.hashes.map) tells key value (sym (long_value key) ∙ held) in
          let told = (is.chains (hash_of key) found.0 (get-entries group.hashes.map (hash_of key) ∙ found.1)).keys key value found.2 in
          (told.0, told.1);
      answers = λ key bytes length_is. long_value key ∙ chained_value key ∙ ap (λ part. in_long group part key) (sym (part_long hash_of key (let many = is.many in omega arith)));
    }

-- Every group can be listed, and its list is that.
pub group_can : (hash_of : List ℕ → ℕ) (key_length : ℕ) (group : Group) → IsGroup hash_of key_length group → CanList key_length group
group_can hash_of key_length none is = absurd is
group_can hash_of key_length (short words) is = is.few
group_can hash_of key_length (long group) is = chained_apart hash_of key_length group is

pub group_listed : (hash_of : List ℕ → ℕ) (key_length : ℕ) (group : Group) → IsGroup hash_of key_length group → IsListed hash_of key_length group (group_list key_length group)
group_listed hash_of key_length none is = absurd is
group_listed hash_of key_length (short words) is = listed_short hash_of key_length words is
group_listed hash_of key_length (long group) is = listed_long hash_of key_length group is
