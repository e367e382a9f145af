-- Groups whose keys stand in other places: they answer as before, and what groups keep stays.
use Rattle.std.proofs.Common.{◌≡◌, ℕ, ◌<◌, inl, inr, List, length, get_or, set, Option, Some, None, option_map, refl, sym, ap, ◌∙◌, subst, arith}
use Rattle.std.specs.FinMap.{get, len}
use Rattle.std.proofs.lemmas.Bool.{cases_eq}
use Rattle.std.proofs.lemmas.List.{map-set, get_or-map, length-map}
use Rattle.std.proofs.lemmas.Option.{none-some, same_Some}
use Rattle.judy_model.specs.Keys.{word_order}
use Rattle.judy_model.specs.Arrays.{ArrayOf}
use Rattle.judy_model.specs.Tables.{table, bytes_keys}
use Rattle.judy_hs.specs.declared.group.GroupPlace.{GroupPlace}
use Rattle.judy_hs.specs.Chains.{Pairs, value_in}
use Rattle.judy_hs.specs.LongGroups.{Long, chain_at, in_chain, in_long}
use Rattle.judy_hs.specs.Groups.{Group, none, short, long, in_group}
use Rattle.judy_hs.specs.GroupPlaces.{group_of, groups_of, link_of, links_of}
use Rattle.judy_hs.specs.Keyed.{Keyed, in_place}
use Rattle.judy_hs.specs.Parts.{part_of}
use Rattle.judy_hs.specs.Kept.{IsUsed, IsChain, IsLong, IsGroup, IsKeyed, value_of, map_of, array_of, IsHs}
use Rattle.judy_hs.specs.Relaid.{keys_of, IsRelaid, IsRelaidGroup, AreRelaid, IsRelaidKeyed}
use Rattle.judy_hs.proofs.ListLemmas.{set_same}
use Rattle.judy_hs.proofs.TwoLevels.{get_or-set_here, get_or-set_there}

-- ---- one group

pub relaid-same : (group : Long) → IsRelaid group group
relaid-same group = record { key_length = refl; apart = λ own. own; keys = λ hash. refl }

pub relaid-on : (one two three : Long) → IsRelaid one two → IsRelaid two three → IsRelaid one three
relaid-on one two three first second = record {
  key_length = second.key_length ∙ first.key_length;
  apart = λ own. second.apart (first.apart own);
  keys = λ hash. second.keys hash ∙ first.keys hash;
}

-- The value of a key among keys, where there are any.
abbrev value_among : Option Pairs → List ℕ → Option ℕ
value_among None key = None
value_among (Some pairs) key = value_in pairs key

in_chain-among : (group : Long) (found : Option ℕ) (key : List ℕ) → in_chain group found key ≡ value_among (option_map (chain_at group) found) key
in_chain-among group None key = refl
in_chain-among group (Some place) key = refl

relaid-in_long : (before after : Long) → IsRelaid before after → (hash : ℕ) (key : List ℕ) → in_long after hash key ≡ in_long before hash key
relaid-in_long before after is hash key =
    in_chain-among after (get after.hashes.map hash) key
    ∙ ap (λ (found : Option Pairs). value_among found key) (is.keys hash)
    ∙ sym (in_chain-among before (get before.hashes.map hash) key)

-- A place where the same keys stand.
record StandAt (one two : Long) (found : Option ℕ) (place : ℕ) : Type 0 where
  at : ℕ
  leads : found ≡ Some at
  same : chain_at one place ≡ chain_at two at

stand-at : (one two : Long) (found : Option ℕ) (place : ℕ) → ◌≡◌ {A = Option Pairs} (Some (chain_at one place)) (option_map (chain_at two) found) → StandAt one two found place
stand-at one two None place same = absurd (none-some (chain_at one place) (sym same))
stand-at one two (Some at) place same = record { at = at; leads = refl; same = same_Some (chain_at one place) (chain_at two at) same }

led-same : (one two : Long) → ((hash : ℕ) → keys_of one hash ≡ keys_of two hash) → (hash place : ℕ) → get one.hashes.map hash ≡ Some place → StandAt one two (get two.hashes.map hash) place
led-same one two same hash place leads =
    stand-at one two (get two.hashes.map hash) place (ap (λ (found : Option ℕ). option_map (chain_at one) found) (sym leads) ∙ same hash)

module _ (hash_of : List ℕ → ℕ) where
  relaid-long : (key_length : ℕ) (before after : Long) → IsRelaid before after → IsLong hash_of key_length before → IsLong hash_of key_length after
  relaid-long key_length before after relaid is = record {
    many = is.many;
    length_is = relaid.key_length ∙ is.length_is;
    used = used;
    apart = relaid.apart is.apart;
    chains = λ hash place leads.
        let stands = led-same after before relaid.keys hash place leads in
        subst (IsChain hash_of key_length hash) (sym stands.same) (is.chains hash stands.at stands.leads);
  }
    where
      used : IsUsed after.hashes.map
      used =
          let stands = led-same before after (λ hash. sym (relaid.keys hash)) is.used.0 is.used.1 is.used.2 in
          (is.used.0, stands.at, stands.leads)

  relaid-group : (key_length : ℕ) (before after : Group) → IsRelaidGroup before after → IsGroup hash_of key_length before → IsGroup hash_of key_length after
  relaid-group key_length none after relaid is = absurd is
  relaid-group key_length (short words) after relaid is = subst (IsGroup hash_of key_length) (sym relaid) is
  relaid-group key_length (long group) after relaid is = subst (IsGroup hash_of key_length) (sym relaid.1) (relaid-long key_length group relaid.0 relaid.2 is)

relaid-in_group : (before after : Group) → IsRelaidGroup before after → (part : ℕ) (key : List ℕ) → in_group after part key ≡ in_group before part key
relaid-in_group none after relaid part key = ap (λ (group : Group). in_group group part key) relaid
relaid-in_group (short words) after relaid part key = ap (λ (group : Group). in_group group part key) relaid
relaid-in_group (long group) after relaid part key = ap (λ (group : Group). in_group group part key) relaid.1 ∙ relaid-in_long group relaid.0 relaid.2 part key

pub same-group : (group : Group) → IsRelaidGroup group group
same-group none = refl
same-group (short words) = refl
same-group (long group) = (group, refl, relaid-same group)

-- In two steps.
group-on : (one two three : Group) → IsRelaidGroup one two → IsRelaidGroup two three → IsRelaidGroup one three
group-on none two three first second = subst (λ (group : Group). IsRelaidGroup group three) first second
group-on (short words) two three first second = subst (λ (group : Group). IsRelaidGroup group three) first second
group-on (long group) two three first second =
    let next : IsRelaidGroup (long first.0) three = subst (λ (group : Group). IsRelaidGroup group three) first.1 second in
    (next.0, next.1, relaid-on group first.0 next.0 first.2 next.2)

-- ---- places of groups

pub are-same : (groups : List Group) → AreRelaid groups groups
are-same groups = λ place. same-group (get_or groups place none)

pub are-on : (one two three : List Group) → AreRelaid one two → AreRelaid two three → AreRelaid one three
are-on one two three first second = λ place. group-on (get_or one place none) (get_or two place none) (get_or three place none) (first place) (second place)

-- The group at one place is relaid.
module _ (places : List GroupPlace) (at : ℕ) (held new : GroupPlace) (is : held ≡ get_or places at held) where
  pub are-set : at < length places → IsRelaidGroup (group_of held) (group_of new) → AreRelaid (groups_of places) (groups_of (set places at new))
  are-set within relaid = λ place. elim (cases_eq place at) [
    | inl same ↦ subst (λ n. IsRelaidGroup (get_or (groups_of places) n none) (get_or (groups_of (set places at new)) n none)) (sym same)
        (subst (λ (group : Group). IsRelaidGroup group (get_or (groups_of (set places at new)) at none)) before
        (subst (IsRelaidGroup (group_of held)) (sym after) relaid))
    | inr apart ↦ subst (IsRelaidGroup (get_or (groups_of places) place none))
        (sym (ap (λ (groups : List Group). get_or groups place none) changed ∙ get_or-set_there (groups_of places) at place (group_of new) none apart))
        (same-group (get_or (groups_of places) place none))
  ]
    where
      changed : groups_of (set places at new) ≡ set (groups_of places) at (group_of new)
      changed = map-set group_of places at new

      before : group_of held ≡ get_or (groups_of places) at none
      before = ap group_of is ∙ sym (get_or-map group_of places at held none within)

      after : get_or (groups_of (set places at new)) at none ≡ group_of new
      after =
          ap (λ (groups : List Group). get_or groups at none) changed
          ∙ get_or-set_here (groups_of places) at (group_of new) none (let long = length-map places group_of in omega (arith, long, within))

  pub links-set : link_of new ≡ link_of held → links_of (set places at new) ≡ links_of places
  links-set same =
      map-set link_of places at new
      ∙ ap (set (links_of places) at) same
      ∙ sym (map-set link_of places at held)
      ∙ ap links_of (set_same places at held is)

-- ---- all groups

module _ (before after : Keyed) (relaid : IsRelaidKeyed before after) where
  relaid-in_place : (found : Option ℕ) (part : ℕ) (key : List ℕ) → in_place after found part key ≡ in_place before found part key
  relaid-in_place None part key = refl
  relaid-in_place (Some place) part key = relaid-in_group (get_or before.groups place none) (get_or after.groups place none) (relaid.groups place) part key

  led : (word place : ℕ) → get after.lengths.map word ≡ Some place → get before.lengths.map word ≡ Some place
  led word place leads = ap (λ (array : ArrayOf word_order). get array.map word) (sym relaid.lengths) ∙ leads

  module _ (hash_of : List ℕ → ℕ) where
    pub relaid-value : (key : List ℕ) → value_of hash_of after key ≡ value_of hash_of before key
    relaid-value key =
        ap (λ (array : ArrayOf word_order). in_place after (get array.map (length key)) (part_of hash_of key) key) relaid.lengths
        ∙ relaid-in_place (get before.lengths.map (length key)) (part_of hash_of key) key

    module _ (longest : ℕ) where
      pub relaid-map : map_of hash_of longest after ≡ map_of hash_of longest before
      relaid-map = ap (table (bytes_keys longest)) (λ t key. relaid-value key t)

      pub relaid-array : (limit : ℕ) → array_of hash_of longest limit after ≡ array_of hash_of longest limit before
      relaid-array limit = λ t. record { limit = limit; map = relaid-map t }

      pub relaid-keyed : IsKeyed hash_of longest before → IsKeyed hash_of longest after
      relaid-keyed is = record {
        within = λ key_length place leads. is.within key_length place (led key_length place leads);
        apart = λ one other place first second. is.apart one other place (led one place first) (led other place second);
        groups = λ key_length place leads. relaid-group hash_of key_length (get_or before.groups place none) (get_or after.groups place none) (relaid.groups place)
            (is.groups key_length place (led key_length place leads));
      }

      pub relaid-IsHs : (limit count : ℕ) → IsHs hash_of longest limit count before → IsHs hash_of longest limit count after
      relaid-IsHs limit count is = record {
        is_keyed = relaid-keyed is.is_keyed;
        counted = is.counted ∙ ap len (sym relaid-map);
        within_limit = is.within_limit;
        holds_some = is.holds_some;
        limit_fits = is.limit_fits;
      }
