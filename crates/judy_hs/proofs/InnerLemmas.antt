-- The inner form of an array: each length that leads somewhere is that of a key, and the other way round.
use Rattle.std.proofs.Common.{◌≡◌, ◌↔◌, ℕ, zero, suc, ◌/◌, ◌%◌, ◌^◌, ◌<◌, ◌≤◌, List, length, Option, Some, None, is_some, IsSome, IfSome, option_copied, Bor, IsTrue, refl, sym, ap, ◌∙◌, subst, arith}
use Rattle.std.specs.FinMap.{FinMap, get, contains_key}
use Rattle.std.proofs.lemmas.Bool.{false≢true}
use Rattle.std.proofs.lemmas.List.Elements.{All-nil, All-cons}
use Rattle.std.proofs.lemmas.Nat.{mod_below}
use Rattle.std.proofs.Math.Nat.{mod-eq_of_lt}
use Rattle.judy_model.specs.Keys.{word_order, IsByteString}
use Rattle.judy_model.specs.KeyLengths.{IsBytesKeyTo}
use Rattle.judy_model.specs.Arrays.{ArrayOf}
use Rattle.judy_model.specs.WordBytes.{number_of, low_bytes}
use Rattle.judy_model.proofs.lemmas.orders.ByteLemmas.{length-low_bytes, number_of-low_bytes}
use Rattle.judy_model.proofs.lemmas.maps.TableLemmas.{bytes_keys-all, get-table, table_some}
use Rattle.judy_hs.specs.LongGroups.{Long, chain_at, in_chain}
use Rattle.judy_hs.specs.Groups.{Group, none, short, long, in_group, words_of}
use Rattle.judy_hs.specs.Keyed.{Keyed, group_at, in_place, words_at}
use Rattle.judy_hs.specs.Parts.{part_of}
use Rattle.judy_hs.specs.Kept.{IsShort, IsLong, IsGroup, IsKeyed, value_of, map_of}
use Rattle.judy_hs.specs.InnerForm.{HasLength, IsLengths, IsShortGroup, IsLongGroup}
use Rattle.judy_hs.proofs.ChainLemmas.{some_pair}
use Rattle.judy_hs.proofs.PartLemmas.{part_short, part_long}
use Rattle.judy_hs.proofs.GroupSteps.{some_none}

IsByteString-low_bytes : (width word : ℕ) → IsByteString (low_bytes width word)
IsByteString-low_bytes zero word = All-nil (λ byte. byte < 256)
IsByteString-low_bytes (suc width) word =
    All-cons (λ byte. byte < 256) (word / 256 ^ width % 256) (low_bytes width word) (mod_below (word / 256 ^ width) 256 (omega arith)) (IsByteString-low_bytes width word)

held_is : (map : FinMap word_order ℕ) (word : ℕ) → IsTrue (contains_key map word) → (value : ℕ) × (get map word ≡ Some value)
held_is map word held = elim (get map word) as (λ found. IsTrue (is_some found) → (value : ℕ) × (found ≡ Some value)) [
  | None ↦ λ no. absurd (false≢true no)
  | Some value ↦ λ yes. (value, refl)
] held

holds : (map : FinMap word_order ℕ) (word value : ℕ) → get map word ≡ Some value → IsTrue (contains_key map word)
holds map word value held = ap (λ (found : Option ℕ). is_some found) held

module _ (hash_of : List ℕ → ℕ) (longest : ℕ) (keyed : Keyed) (is : IsKeyed hash_of longest keyed) where
  -- A key of the map is one whose length leads to the group that holds it.
  pub key_led : (key : List ℕ) (value : ℕ) → get (map_of hash_of longest keyed) key ≡ Some value → (place : ℕ) × (get keyed.lengths.map (length key) ≡ Some place) ×
      (in_group (group_at keyed place) (part_of hash_of key) key ≡ Some value)
  key_led key value held =
      let found = (table_some (bytes_keys-all longest) (value_of hash_of keyed) key value held).1 in
      elim (get keyed.lengths.map (length key)) as (λ lead. in_place keyed lead (part_of hash_of key) key ≡ Some value →
      (place : ℕ) × (lead ≡ Some place) × (in_group (group_at keyed place) (part_of hash_of key) key ≡ Some value)) [
        | None ↦ λ no. absurd (some_none value (sym no))
        | Some place ↦ λ yes. (place, refl, yes)
      ] found

  -- What a group holds under a length that leads to it is in the map.
  led_key : (n place : ℕ) → get keyed.lengths.map n ≡ Some place → (key : List ℕ) (value : ℕ) → IsBytesKeyTo longest key → length key ≡ n →
      in_group (group_at keyed place) (part_of hash_of key) key ≡ Some value → get (map_of hash_of longest keyed) key ≡ Some value
  led_key n place leads key value is_key has held =
      get-table (bytes_keys-all longest) (value_of hash_of keyed) key is_key ∙ ap (λ lead. in_place keyed lead (part_of hash_of key) key) (ap (get keyed.lengths.map) has ∙ leads) ∙ held

  -- The key of a word of a short group.
  module _ (n place : ℕ) (leads : get keyed.lengths.map n ≡ Some place) (words : ArrayOf word_order) (at : group_at keyed place ≡ short words) (kept : IsShort n words) where
    word_key : (word value : ℕ) → get words.map word ≡ Some value → (key : List ℕ) × (length key ≡ n) × (number_of key ≡ word) × (get (map_of hash_of longest keyed) key ≡ Some value)
    word_key word value held =
        let key = low_bytes n word in
        let has : length key ≡ n = length-low_bytes n word in
        let few = kept.few in
        let spells : number_of key ≡ word = number_of-low_bytes n word ∙ mod-eq_of_lt (kept.fits word value held) in
        let short_key : length key ≤ 8 = omega arith in
        let within = is.within n place leads in (
          key,
          has,
          spells,
          led_key n place leads key value (record { is_byte_string = IsByteString-low_bytes n word; within_limit = omega arith }) has
              (ap (λ group. in_group group (part_of hash_of key) key) at ∙ ap (get words.map) (part_short hash_of key short_key ∙ spells) ∙ held),
        )

    key_word : (word value : ℕ) → ((key : List ℕ) × (length key ≡ n) × (number_of key ≡ word) × (get (map_of hash_of longest keyed) key ≡ Some value)) → get words.map word ≡ Some value
    key_word word value found =
        let key = found.0 in
        let few = kept.few in
        let has : length key ≡ n = found.1 in
        let short_key : length key ≤ 8 = omega arith in
        let led = key_led key value found.3 in
        let same : Some led.0 ≡ Some place = sym led.1 ∙ ap (get keyed.lengths.map) has ∙ leads in
        let here : led.0 ≡ place = cc in
        ap (get words.map) (sym (part_short hash_of key short_key ∙ found.2)) ∙ ap (λ group. in_group group (part_of hash_of key) key) (sym (ap (group_at keyed) here ∙ at)) ∙ led.2

  -- The key of a hash of a long group.
  module _ (n place : ℕ) (leads : get keyed.lengths.map n ≡ Some place) (group : Long) (at : group_at keyed place ≡ long group) (kept : IsLong hash_of n group) where
    hash_key : (word held : ℕ) → get group.hashes.map word ≡ Some held → (key : List ℕ) × (value : ℕ) × (length key ≡ n) × (hash_of key ≡ word) × (get (map_of hash_of longest keyed) key ≡ Some value)
    hash_key word held e =
        let chain = kept.chains word held e in
        let pair = some_pair (chain_at group held) chain.used in
        let key = pair.0 in
        let of = chain.keys key pair.1 pair.2 in
        let many = kept.many in
        let has : length key ≡ n = of.1 in
        let long_key : 8 < length key = omega arith in
        let within = is.within n place leads in (
          key,
          pair.1,
          has,
          of.2,
          led_key n place leads key pair.1 (record { is_byte_string = of.0; within_limit = omega arith }) has
              (ap (λ group. in_group group (part_of hash_of key) key) at ∙ ap (λ found. in_chain group found key) (ap (get group.hashes.map) (part_long hash_of key long_key ∙ of.2) ∙ e) ∙ pair.2),
        )

    key_hash : (word : ℕ) → ((key : List ℕ) × (value : ℕ) × (length key ≡ n) × (hash_of key ≡ word) × (get (map_of hash_of longest keyed) key ≡ Some value)) →
        IsTrue (contains_key group.hashes.map word)
    key_hash word found =
        let key = found.0 in
        let many = kept.many in
        let has : length key ≡ n = found.2 in
        let long_key : 8 < length key = omega arith in
        let led = key_led key found.1 found.4 in
        let same : Some led.0 ≡ Some place = sym led.1 ∙ ap (get keyed.lengths.map) has ∙ leads in
        let here : led.0 ≡ place = cc in
        let held : in_chain group (get group.hashes.map word) key ≡ Some found.1 =
        ap (λ w. in_chain group (get group.hashes.map w) key) (sym (part_long hash_of key long_key ∙ found.3)) ∙
        ap (λ group. in_group group (part_of hash_of key) key) (sym (ap (group_at keyed) here ∙ at)) ∙ led.2 in
        elim (get group.hashes.map word) as (λ lead. in_chain group lead key ≡ Some found.1 → IsTrue (is_some lead)) [
          | None ↦ λ no. absurd (some_none found.1 (sym no))
          | Some held ↦ λ yes. refl
        ] held

  -- ---- the clauses

  some_key : (n place : ℕ) → get keyed.lengths.map n ≡ Some place → (group : Group) → group_at keyed place ≡ group → IsGroup hash_of n group → HasLength (map_of hash_of longest keyed) n
  some_key n place leads none at kept = absurd kept
  some_key n place leads (short words) at kept = let found = word_key n place leads words at kept kept.used.0 kept.used.1 kept.used.2 in (found.0, kept.used.1, found.1, found.3)
  some_key n place leads (long group) at kept = let found = hash_key n place leads group at kept kept.used.0 kept.used.1 kept.used.2 in (found.0, found.1, found.2, found.4)

  led_length : (n place : ℕ) → get keyed.lengths.map n ≡ Some place → HasLength (map_of hash_of longest keyed) n
  led_length n place leads = some_key n place leads (group_at keyed place) refl (is.groups n place leads)

  has_led : (n : ℕ) → HasLength (map_of hash_of longest keyed) n → (place : ℕ) × (get keyed.lengths.map n ≡ Some place)
  has_led n found = let led = key_led found.0 found.1 found.3 in (led.0, ap (get keyed.lengths.map) (sym found.2) ∙ led.1)

  pub lengths-are : IsLengths (map_of hash_of longest keyed) keyed.lengths.map
  lengths-are = λ n. (
    λ held. let lead = held_is keyed.lengths.map n held in led_length n lead.0 lead.1,
    λ found. let lead = has_led n found in holds keyed.lengths.map n lead.0 lead.1,
  )

  words_some : (n : ℕ) (group : Group) → IsGroup hash_of n group → IsSome (words_of group)
  words_some n none kept = absurd kept
  words_some n (short words) kept = refl
  words_some n (long group) kept = refl

  pub group-there : (n : ℕ) → IsSome (words_at keyed (get keyed.lengths.map n)) ↔ HasLength (map_of hash_of longest keyed) n
  group-there n = (
    elim (get keyed.lengths.map n) as (λ lead. get keyed.lengths.map n ≡ lead → IsSome (words_at keyed lead) → HasLength (map_of hash_of longest keyed) n) [
      | None ↦ λ e no. absurd (false≢true no)
      | Some place ↦ λ e yes. led_length n place e
    ] refl,
    λ found. let lead = has_led n found in subst (λ l. IsSome (words_at keyed l)) (sym lead.1) (words_some n (group_at keyed lead.0) (is.groups n lead.0 lead.1)),
  )

  short_form : (n place : ℕ) → get keyed.lengths.map n ≡ Some place → n ≤ 8 → (group : Group) → group_at keyed place ≡ group → IsGroup hash_of n group →
      IfSome (words_of group) (λ words. IsShortGroup (map_of hash_of longest keyed) n words.map)
  short_form n place leads few none at kept = tt
  short_form n place leads few (short words) at kept = λ word value. (word_key n place leads words at kept word value, key_word n place leads words at kept word value)
  short_form n place leads few (long group) at kept = absurd (let many = kept.many in omega arith)

  long_form : (n place : ℕ) → get keyed.lengths.map n ≡ Some place → 8 < n → (group : Group) → group_at keyed place ≡ group → IsGroup hash_of n group →
      IfSome (words_of group) (λ words. IsLongGroup hash_of (map_of hash_of longest keyed) n words.map)
  long_form n place leads many none at kept = tt
  long_form n place leads many (short words) at kept = absurd (let few = kept.few in omega arith)
  long_form n place leads many (long group) at kept =
      λ word. (λ held. let lead = held_is group.hashes.map word held in hash_key n place leads group at kept word lead.0 lead.1, key_hash n place leads group at kept word)

  pub group-short : (n : ℕ) → n ≤ 8 → IfSome (words_at keyed (get keyed.lengths.map n)) (λ words. IsShortGroup (map_of hash_of longest keyed) n words.map)
  group-short n few = elim (get keyed.lengths.map n) as (λ lead. get keyed.lengths.map n ≡ lead → IfSome (words_at keyed lead) (λ words. IsShortGroup (map_of hash_of longest keyed) n words.map)) [
    | None ↦ λ e. tt
    | Some place ↦ λ e. short_form n place e few (group_at keyed place) refl (is.groups n place e)
  ] refl

  pub group-long : (n : ℕ) → 8 < n → IfSome (words_at keyed (get keyed.lengths.map n)) (λ words. IsLongGroup hash_of (map_of hash_of longest keyed) n words.map)
  group-long n many =
      elim (get keyed.lengths.map n) as (λ lead. get keyed.lengths.map n ≡ lead → IfSome (words_at keyed lead) (λ words. IsLongGroup hash_of (map_of hash_of longest keyed) n words.map)) [
        | None ↦ λ e. tt
        | Some place ↦ λ e. long_form n place e many (group_at keyed place) refl (is.groups n place e)
      ] refl

-- ---- what a reference shows

pub some_copied : {X : Type 0} (r : Option (Bor X)) → IsSome (option_copied r) ↔ IsSome r
some_copied None = (λ e. e, λ e. e)
some_copied (Some b) = (λ e. e, λ e. e)

pub if_copied : {X : Type 0} (r : Option (Bor X)) (P : X → Type 0) → IfSome (option_copied r) P → IfSome r (λ b. P b.now)
if_copied None P h = h
if_copied (Some b) P h = h
