-- Values that a program holds are words, and so an array is one of the definitions.
use Rattle.std.proofs.Common.{◌≡◌, ℕ, zero, suc, ◌<◌, true, false, cond, List, [], ◌∷◌, map, length, get_or, Option, Some, None, All, bytes_eq, refl, sym, subst, ◌∙◌, arith}
use Rattle.std.specs.List.{HoldsAt}
use Rattle.std.specs.FinMap.{FinMap, get, get-entries, entries, entries_sorted}
use Rattle.std.specs.FinMap.Entries.{find}
use Rattle.std.specs.Ordering.{is_eq}
use Rattle.std.specs.declared.cmp.Ordering.{Ordering}
use Rattle.std.specs.Cmp.{IsTotalOrder, tied_itself}
use Rattle.std.proofs.lemmas.List.{get_or_default}
use Rattle.std.proofs.lemmas.List.Elements.{All-head, All-tail, All-map}
use Rattle.std.proofs.lemmas.Option.{none-some, same_Some}
use Rattle.judy_model.specs.Keys.{IsWord, word_order}
use Rattle.judy_model.specs.KeyLengths.{IsBytesKeyTo}
use Rattle.judy_model.specs.Arrays.{ArrayOf, IsArrayOf, IsArray, judyl}
use Rattle.judy_model.proofs.lemmas.runs.KeptLemmas.{words_hold}
use Rattle.judy_model.proofs.lemmas.maps.Pairs.{find-at}
use Rattle.judy_model.proofs.lemmas.maps.TableLemmas.{bytes_keys-all, table_some, byte_order_total}
use Rattle.judy_hs.specs.Chains.{Pairs, value_in}
use Rattle.judy_hs.specs.LongGroups.{Long, chain_at, in_long, in_chain}
use Rattle.judy_hs.specs.Groups.{Group, none, in_group}
use Rattle.judy_hs.specs.GroupPlaces.{group_of, groups_of}
use Rattle.judy_hs.specs.Keyed.{Keyed, in_keyed, in_place}
use Rattle.judy_hs.specs.Kept.{IsHs, value_of, map_of, array_of}
use Rattle.judy_hs.specs.Values.{AreWords}
use Rattle.judy_hs.specs.Parts.{part_of}
use Rattle.judy_hs.specs.declared.group.GroupPlace.{GroupPlace}

-- What holds of an element that is read holds at its place.
pub read_holds : {X : Type 0} (P : X → Type 0) (xs : List X) (i : ℕ) (x : X) → i < length xs → x ≡ get_or xs i x → P x → HoldsAt P xs i
read_holds P xs i x within is holds = λ d. subst P (is ∙ get_or_default xs i x d within) holds

-- What holds of each element, and of the one that stands for none, holds of what is found at a place.
pub at_place : {X Y : Type 0} (f : X → Y) (missing : Y) (P : Y → Type 0) → P missing → (xs : List X) → All (λ x. P (f x)) xs → (i : ℕ) → P (get_or (map f xs) i missing)
at_place f missing P past [] each i = past
at_place f missing P past (x ∷ xs) each zero = All-head (λ x. P (f x)) x xs each
at_place f missing P past (x ∷ xs) each (suc i) = at_place f missing P past xs (All-tail (λ x. P (f x)) x xs each) i

-- ---- chains

pub entries_words : (entries : Pairs) → All (λ (entry : List ℕ × ℕ). IsWord entry.1) entries → AreWords (value_in entries)
entries_words [] each key value is = absurd (none-some value is)
entries_words (entry ∷ rest) each key value is =
    elim (bytes_eq entry.0 key) as (λ b. cond b (Some entry.1) (value_in rest key) ≡ Some value → IsWord value) [
      | true ↦ λ (same : Some entry.1 ≡ Some value). let one : entry.1 ≡ value = cc in subst IsWord one (All-head (λ (entry : List ℕ × ℕ). IsWord entry.1) entry rest each)
      | false ↦ λ later. entries_words rest (All-tail (λ (entry : List ℕ × ℕ). IsWord entry.1) entry rest each) key value later
    ] is

no_words : (find : List ℕ → Option ℕ) → ((key : List ℕ) → find key ≡ None) → AreWords find
no_words find absent key value is = absurd (none-some value (sym (absent key) ∙ is))

pub none_words : AreWords (value_in [])
none_words = no_words (value_in []) (λ key. refl)

-- A pair whose value is a word, before others.
pub first_words : (pairs : Pairs) (key : List ℕ) (read value : ℕ) (others : Pairs) → pairs ≡ (key, value) ∷ others → read ≡ value → IsWord read → AreWords (value_in others) → AreWords (value_in pairs)
first_words pairs key read value others is same word words = subst (λ (pairs : Pairs). AreWords (value_in pairs)) (sym is) first
  where
    first : AreWords (value_in ((key, value) ∷ others))
    first other found = elim (bytes_eq key other) as (λ b. cond b (Some value) (value_in others other) ≡ Some found → IsWord found) [
      | true ↦ λ here. subst IsWord (same ∙ same_Some value found here) word
      | false ↦ λ later. words other found later
    ]

-- ---- groups of long keys

-- What holds of the value of each entry holds of what a look-up finds.
find_all : {K X : Type 0} (order : K → K → Ordering) (P : X → Type 0) (pairs : List (K × X)) (key : K) (value : X) → All (λ pair. P pair.1) pairs → find order key pairs ≡ Some value → P value
find_all order P [] key value all is = absurd (none-some value is)
find_all order P (pair ∷ rest) key value all is =
    elim (is_eq (order key pair.0)) as (λ b. cond b (Some pair.1) (find order key rest) ≡ Some value → P value) [
      | true ↦ λ here. subst P (same_Some pair.1 value here) (All-head (λ pair. P pair.1) pair rest all)
      | false ↦ λ later. find_all order P rest key value (All-tail (λ pair. P pair.1) pair rest all) later
    ] is

module _ (group : Long) (each : All (λ (entry : ℕ × ℕ). AreWords (value_in (chain_at group entry.1))) (entries group.hashes.map)) where
  led_words : (found : Option ℕ) → ((place : ℕ) → found ≡ Some place → AreWords (value_in (chain_at group place))) → AreWords (in_chain group found)
  led_words None words = no_words _ (λ key. refl)
  led_words (Some place) words = words place refl

  pub chains_words : (hash : ℕ) → AreWords (in_long group hash)
  chains_words hash = led_words (get group.hashes.map hash) (λ place is.
      find_all word_order (λ place. AreWords (value_in (chain_at group place))) (entries group.hashes.map) hash place each (sym (get-entries group.hashes.map hash) ∙ is))

-- ---- groups of short keys

pub short_words : (words : ArrayOf word_order) → IsArray (judyl words) → (part : ℕ) (key : List ℕ) (value : ℕ) → get words.map part ≡ Some value → IsWord value
short_words words is part key value held = (words_hold words part value is held).1

-- ---- all groups

module _ (lengths : ArrayOf word_order) (places : List GroupPlace) (each : All (λ (place : GroupPlace). (part : ℕ) → AreWords (in_group (group_of place) part)) places) where
  placed_words : (found : Option ℕ) (part : ℕ) → AreWords (in_place (record { lengths = lengths; groups = groups_of places }) found part)
  placed_words None part = no_words _ (λ key. refl)
  placed_words (Some place) part = at_place group_of none (λ (group : Group). (part : ℕ) → AreWords (in_group group part)) (λ part. no_words (in_group none part) (λ key. refl)) places each place part

  pub groups_words : (part : ℕ) → AreWords (in_keyed (record { lengths = lengths; groups = groups_of places }) part)
  groups_words part key value held = placed_words (get lengths.map (length key)) part key value held

-- ---- the array

-- What holds of each key and its value holds of each entry.
pub entries_hold : {K : Type 0} {order : K → K → Ordering} → IsTotalOrder order → (m : FinMap order ℕ) (P : K × ℕ → Type 0) →
    ((key : K) (value : ℕ) → get m key ≡ Some value → P (key, value)) → All P (entries m)
entries_hold {order = order} total m P each = λ k d within.
    let pair = get_or (entries m) k d in
    each pair.0 pair.1 (get-entries m pair.0 ∙ find-at order total (entries m) pair.0 k d (entries_sorted m) within (tied_itself total pair.0))

module _ (hash_of : List ℕ → ℕ) (longest limit count : ℕ) (keyed : Keyed) (is : IsHs hash_of longest limit count keyed) (words : (part : ℕ) → AreWords (in_keyed keyed part)) where
  held : (key : List ℕ) (value : ℕ) → get (map_of hash_of longest keyed) key ≡ Some value → IsBytesKeyTo longest key × IsWord value
  held key value is =
      let found = table_some (bytes_keys-all longest) (value_of hash_of keyed) key value is in
      (found.0, words (part_of hash_of key) key value found.1)

  pub is_array_of : IsArrayOf (IsBytesKeyTo longest) (array_of hash_of longest limit keyed)
  is_array_of = record {
    holds_some = is.holds_some;
    limit_is_word = let fits = is.limit_fits in omega arith;
    within_limit = let counted = is.counted in let within = is.within_limit in omega arith;
    keys_are =
        All-map (IsBytesKeyTo longest) (λ pair. pair.0) (entries (map_of hash_of longest keyed)) (entries_hold byte_order_total (map_of hash_of longest keyed)
        (λ pair. IsBytesKeyTo longest pair.0) (λ key value is. (held key value is).0));
    values_are =
        All-map IsWord (λ pair. pair.1) (entries (map_of hash_of longest keyed)) (entries_hold byte_order_total (map_of hash_of longest keyed) (λ pair. IsWord pair.1)
        (λ key value is. (held key value is).1));
  }
