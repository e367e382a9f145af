-- What judy_model's definitions say of the map of a tree's pairs, told by these pairs: which words are keys, how many keys are
-- below a word, and which key stands at a place.
use Rattle.std.proofs.Common.{◌≡◌, ℕ, ◌+◌, ◌<◌, Bool, true, false, cond, ◌&&◌, T, [], ◌∷◌, map, length, filter, find, slice_get, Option, Some, None, refl, sym, ap, ◌∙◌, subst}
use Rattle.std.proofs.Common.{arith, is_lt, is_le, is_ge, reverse, option_map}
use Rattle.std.specs.Cmp.{nat_cmp_total}
use Rattle.std.specs.FinMap.{is_sorted, get, get-from_sorted, keys, len, contains_key, nat_cmp-IsAntisymmetric}
use Rattle.std.specs.FinMap as finmap
use Rattle.std.specs.FinMap.Entries.{below_all}
use Rattle.std.specs.Option.{option_or}
use Rattle.std.specs.List.Sorted.{IsStrictlySortedBy}
use Rattle.judy_model.specs.Keys.{word_order}
use Rattle.judy_model.specs.Counts.{nth}
use Rattle.judy_model.specs.Counts as counts
use Rattle.judy_model.specs.Neighbours.{first, last}
use Rattle.judy_model.proofs.lemmas.maps.Ascending.{Among, find_last, find-reverse}
use Rattle.judy_model.proofs.lemmas.orders.WordOrder.{lt_word}
use Rattle.judy_model.proofs.lemmas.maps.KeysLemmas.{keys-from_sorted, keys_ascending, among_keys, contains_key-from_among}
use Rattle.judy_model.proofs.lemmas.maps.SortedMaps.{len-from_sorted}
use Rattle.judy_model.proofs.lemmas.queries.RankLemmas.{nth-slice_get}
use Rattle.judy_bits.specs.ByteSets as set
use Rattle.judy_bits.proofs.SetLemmas.{Among-has, has-among}
use Rattle.judy_leaf.specs.KeyLists.{keys_of}
use Rattle.judy_leaf.specs.Nearby.{pair_from, pair_up_to}
use Rattle.judy_leaf.proofs.Nearest.{up_to-rank}
use Rattle.judy_node.specs.Trees.{Pairs, IsMap}
use Rattle.judy_query.specs.Maps.{map_of}

-- ---- the pairs are in order

both : (a b : Bool) → a ≡ true → T b → T (a && b)
both a b first second = subst (λ test. T (test && b)) (sym first) second

below_each : (words low top key : ℕ) (pairs : Pairs) → key < low → IsMap words low top pairs → T (below_all word_order key pairs)
below_each words low top key [] below map = tt
below_each words low top key (pair ∷ pairs) below map =
    let first = map.0 in
    both _ _ (lt_word key pair.0 (omega arith)) (below_each words (pair.0 + 1) top key pairs (omega arith) map.3)

-- The keys ascend.
pub sorted_of : (words low top : ℕ) (pairs : Pairs) → IsMap words low top pairs → T (is_sorted word_order pairs)
sorted_of words low top [] map = tt
sorted_of words low top (pair ∷ pairs) map =
    subst T (λ t. below_is t && is_sorted word_order pairs) (sorted_of words (pair.0 + 1) top pairs map.3)
  where
    true_is : (test : Bool) → T test → true ≡ test
    true_is true h = refl
    true_is false h = absurd h

    below_is : true ≡ below_all word_order pair.0 pairs
    below_is = true_is _ (below_each words (pair.0 + 1) top pair.0 pairs (omega arith) map.3)

pub keys_are : (pairs : Pairs) → map (λ (pair : ℕ × ℕ). pair.0) pairs ≡ keys_of pairs
keys_are [] = refl
keys_are (pair ∷ pairs) = ap (λ rest. pair.0 ∷ rest) (keys_are pairs)

-- ---- the nearest pair has the nearest key

find-key : (q : ℕ → Bool) (pairs : Pairs) → option_map (λ (pair : ℕ × ℕ). pair.0) (find (λ (pair : ℕ × ℕ). q pair.0) pairs) ≡ find q (keys_of pairs)
find-key q [] = refl
find-key q (pair ∷ pairs) =
    elim (q pair.0) as (λ b. option_map (λ (other : ℕ × ℕ). other.0) (cond b (Some pair) (find (λ (other : ℕ × ℕ). q other.0) pairs)) ≡ cond b (Some pair.0) (find q (keys_of pairs))) [
      | true ↦ refl
      | false ↦ find-key q pairs
    ]

find_last-key : (q : ℕ → Bool) (pairs : Pairs) → option_map (λ (pair : ℕ × ℕ). pair.0) (find_last (λ (pair : ℕ × ℕ). q pair.0) pairs) ≡ find_last q (keys_of pairs)
find_last-key q [] = refl
find_last-key q (pair ∷ pairs) =
    either (find_last (λ (other : ℕ × ℕ). q other.0) pairs) (cond (q pair.0) (Some pair) None)
    ∙ (λ t. option_or (find_last-key q pairs t) (here (q pair.0) t))
  where
    either : (one other : Option (ℕ × ℕ)) → option_map (λ (p : ℕ × ℕ). p.0) (option_or one other) ≡ option_or (option_map (λ (p : ℕ × ℕ). p.0) one) (option_map (λ (p : ℕ × ℕ). p.0) other)
    either None other = refl
    either (Some one) other = refl

    here : (passes : Bool) → option_map (λ (p : ℕ × ℕ). p.0) (cond passes (Some pair) None) ≡ cond passes (Some pair.0) None
    here true = refl
    here false = refl

-- ---- the map

module _ (words top : ℕ) (pairs : Pairs) (is : IsMap words 0 top pairs) where
  in_order : T (is_sorted word_order pairs)
  in_order = sorted_of words 0 top pairs is

  -- The keys of the map are those of the pairs.
  pub keys_is : keys (map_of pairs) ≡ keys_of pairs
  keys_is = keys-from_sorted word_order pairs in_order ∙ keys_are pairs

  -- There are as many keys as pairs.
  pub len_is : len (map_of pairs) ≡ length pairs
  len_is = len-from_sorted word_order pairs in_order

  -- A key has the value that stands beside it.
  pub get_is : (key : ℕ) → get (map_of pairs) key ≡ finmap.find word_order key pairs
  get_is key = get-from_sorted word_order pairs key in_order

  -- As many keys are below a word, and as many up to it.
  pub rank_is : (key : ℕ) → counts.rank (map_of pairs) key ≡ set.rank (keys_of pairs) key
  unfolding counts.rank
  rank_is key = ap (λ all. length (filter (λ other. is_lt (word_order other key)) all)) keys_is

  pub count_up_to_is : (key : ℕ) → counts.count_up_to (map_of pairs) key ≡ set.rank (keys_of pairs) (key + 1)
  unfolding counts.count_up_to
  count_up_to_is key = ap (λ all. length (filter (λ other. is_le (word_order other key)) all)) keys_is ∙ up_to-rank (keys_of pairs) key

  -- The key at a place.
  pub nth_is : (place : ℕ) → nth (map_of pairs) place ≡ slice_get (keys_of pairs) place
  nth_is place = nth-slice_get nat_cmp_total (map_of pairs) place ∙ ap (λ all. slice_get all place) keys_is

  -- The first key at or after a word is that of the nearest pair, and so is the last at or before it.
  pub first_is : (key : ℕ) → first (map_of pairs) key ≡ option_map (λ pair. pair.0) (pair_from pairs key)
  unfolding first
  first_is key = ap (find (λ other. is_ge (word_order other key))) keys_is ∙ sym (find-key (λ other. is_ge (word_order other key)) pairs)

  pub last_is : (key : ℕ) → last (map_of pairs) key ≡ option_map (λ pair. pair.0) (pair_up_to pairs key)
  unfolding last
  last_is key =
      ap (λ all. find (λ other. is_le (word_order other key)) (reverse all)) keys_is
      ∙ find-reverse (λ other. is_le (word_order other key)) (keys_of pairs)
      ∙ sym (find_last-key (λ other. is_le (word_order other key)) pairs)
      ∙ ap (option_map (λ (pair : ℕ × ℕ). pair.0)) (sym (find-reverse (λ (pair : ℕ × ℕ). is_le (word_order pair.0 key)) pairs))

  -- A word is a key of the map where it is one of the pairs.
  pub held_is : (key : ℕ) → contains_key (map_of pairs) key ≡ set.has (keys_of pairs) key
  held_is key = same_test _ _
      (λ held. has-among (keys_of pairs) key (subst (λ all. Among all key) keys_is (among_keys nat_cmp_total nat_cmp-IsAntisymmetric (map_of pairs) key held)))
      (λ held. contains_key-from_among nat_cmp_total nat_cmp-IsAntisymmetric (map_of pairs) key (subst (λ all. Among all key) (sym keys_is) (Among-has (keys_of pairs) key held)))
    where
      same_test : (a b : Bool) → (a ≡ true → b ≡ true) → (b ≡ true → a ≡ true) → a ≡ b
      same_test true b to from = sym (to refl)
      same_test false true to from = from refl
      same_test false false to from = refl
