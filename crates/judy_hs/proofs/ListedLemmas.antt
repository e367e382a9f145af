-- The list of an array is that of its map, by the lengths of the keys and then by their bytes.
use Rattle.std.proofs.Common.{◌≡◌, ℕ, T, List, length, Option, Some, None, refl, sym, ap, ◌∙◌}
use Rattle.std.specs.FinMap.{find, is_sorted, entries, entries_sorted, get, get-entries, from_entries, same_map}
use Rattle.judy_model.specs.Keys.{byte_order, word_order, IsByteString}
use Rattle.judy_model.specs.KeyLengths.{IsBytesKeyTo}
use Rattle.judy_model.specs.DumpText.{length_order, entries_by}
use Rattle.judy_model.proofs.lemmas.dumps.KindLemmas.{length_order-total, length_order-IsAntisymmetric}
use Rattle.judy_model.proofs.lemmas.maps.MadeMaps.{entries-made_twice}
use Rattle.judy_model.proofs.lemmas.maps.TableLemmas.{bytes_keys-all, get-table, table_some, byte_order_total, byte_order_same}
use Rattle.judy_hs.specs.Chains.{Pairs, value_in}
use Rattle.judy_hs.specs.Keyed.{Keyed, group_at, in_place}
use Rattle.judy_hs.specs.Kept.{IsKeyed, value_of, map_of}
use Rattle.judy_hs.specs.Listed.{CanList, group_list, keyed_list}
use Rattle.judy_hs.specs.Parts.{part_of}
use Rattle.judy_hs.proofs.SortLemmas.{same_by_some, get-made}
use Rattle.judy_hs.proofs.LevelLists.{Tells, led, value_levels, found_levels, sorted_levels}
use Rattle.judy_hs.proofs.GroupLists.{IsListed, group_can, group_listed}

module _ (hash_of : List ℕ → ℕ) (longest : ℕ) (keyed : Keyed) (is : IsKeyed hash_of longest keyed) where
  -- Each group can be listed.
  pub all_can : (key_length place : ℕ) → get keyed.lengths.map key_length ≡ Some place → CanList key_length (group_at keyed place)
  all_can key_length place leads = group_can hash_of key_length (group_at keyed place) (is.groups key_length place leads)

  abbrev part : ℕ × ℕ → Pairs
  part entry = group_list entry.0 (group_at keyed entry.1)

  listed : (key_length place : ℕ) → get keyed.lengths.map key_length ≡ Some place → IsListed hash_of key_length (group_at keyed place) (part (key_length, place))
  listed key_length place leads = group_listed hash_of key_length (group_at keyed place) (is.groups key_length place leads)

  leads_by : (key_length place : ℕ) → find word_order key_length (entries keyed.lengths.map) ≡ Some place → get keyed.lengths.map key_length ≡ Some place
  leads_by key_length place found = get-entries keyed.lengths.map key_length ∙ found

  tells : Tells part length (entries keyed.lengths.map)
  tells key_length place found key value held = ((listed key_length place (leads_by key_length place found)).keys key value held).1

  -- The list answers as the groups do.
  led_value : (key : List ℕ) → IsByteString key → (found : Option ℕ) → get keyed.lengths.map (length key) ≡ found → led part length found key ≡ in_place keyed found (part_of hash_of key) key
  led_value key bytes None leads = refl
  led_value key bytes (Some place) leads = (listed (length key) place leads).answers key bytes refl

  value_listed : (key : List ℕ) → IsByteString key → value_in (keyed_list keyed) key ≡ value_of hash_of keyed key
  value_listed key bytes =
      value_levels part length (entries keyed.lengths.map) (entries_sorted keyed.lengths.map) tells key
      ∙ ap (λ (found : Option ℕ). led part length found key) (sym (get-entries keyed.lengths.map (length key)))
      ∙ led_value key bytes (get keyed.lengths.map (length key)) refl

  -- Its keys are keys of the array.
  keys_listed : (key : List ℕ) (value : ℕ) → value_in (keyed_list keyed) key ≡ Some value → IsBytesKeyTo longest key
  keys_listed key value held =
      let found = found_levels part length (entries keyed.lengths.map) (entries_sorted keyed.lengths.map) tells key value held in
      let leads = leads_by (length key) found.0 found.1 in
      record {
        is_byte_string = ((listed (length key) found.0 leads).keys key value found.2).0;
        within_limit = is.within (length key) found.0 leads;
      }

  -- The map is the one that the list makes.
  made_of_list : map_of hash_of longest keyed ≡ from_entries {R = byte_order} (keyed_list keyed)
  made_of_list = same_map byte_order_total byte_order_same _ _ (λ key.
      same_by_some (get (map_of hash_of longest keyed) key) (value_in (keyed_list keyed) key)
      (λ value held. let found = table_some (bytes_keys-all longest) (value_of hash_of keyed) key value held in value_listed key found.0.is_byte_string ∙ found.1)
      (λ value held. let is_key = keys_listed key value held in get-table (bytes_keys-all longest) (value_of hash_of keyed) key is_key ∙ sym (value_listed key is_key.is_byte_string) ∙ held)
      ∙ sym (get-made (keyed_list keyed) key))

  list_sorted : T (is_sorted length_order (keyed_list keyed))
  list_sorted = sorted_levels part (entries keyed.lengths.map) (entries_sorted keyed.lengths.map) tells (λ key_length place found. (listed key_length place (leads_by key_length place found)).sorted)

  pub all_listed : keyed_list keyed ≡ entries_by length_order (map_of hash_of longest keyed)
  all_listed =
      sym (entries-made_twice length_order byte_order length_order-total length_order-IsAntisymmetric byte_order_total byte_order_same (keyed_list keyed) list_sorted)
      ∙ ap (entries_by length_order) (sym made_of_list)
