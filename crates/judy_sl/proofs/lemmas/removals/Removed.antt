-- What a delete makes of an array of strings.
use Rattle.std.proofs.Common.{◌≡◌, ℕ, zero, suc, ◌-◌, ◌≤◌, Bool, true, false, cond, List, is_some, Option, None, Some, refl, sym, ap, subst, ◌∙◌, arith}
use Rattle.std.specs.FinMap.{FinMap, get, contains_key, remove, len, len-remove, empty_of_len, get-empty}
use Rattle.judy_model.specs.Keys.{byte_order}
use Rattle.judy_model.specs.Arrays.{with_map, del}
use Rattle.judy_model.proofs.lemmas.maps.SortedMaps.{remove_absent}
use Rattle.judy_model.proofs.lemmas.maps.TableLemmas.{byte_order_total, byte_order_same, table_some}
use Rattle.judy_sl.specs.declared.arena.Arena.{Arena}
use Rattle.judy_sl.specs.Pieces.{pieces}
use Rattle.judy_sl.specs.World.{lookup}
use Rattle.judy_sl.specs.Arenas.{world_of, map_of, array_of, AreWithin, IsStrings}
use Rattle.judy_sl.specs.declared.keys.KeyLength.{Ghosts}
use Rattle.judy_sl.specs.Shrunk.{IsShrunk}
use Rattle.judy_sl.proofs.lemmas.pieces.Strings.{within-remove, all_strings-all, key_of_string}
use Rattle.judy_sl.proofs.lemmas.seats.Maps.{get-map, map_removed}
use Rattle.judy_sl.specs.Strings.{IsString}

module _ (limit : ℕ) (arena : Arena) (key : List ℕ) where
  -- Bytes that are no key are absent.
  module _ {Self : Type 0} (lengths : Ghosts Self) {longest count : ℕ} (is : IsStrings lengths.LONGEST longest limit count arena) (bad : lengths.IsKey key → ⊥) where
    pub bad-none : get (map_of arena) key ≡ None
    bad-none = by (get (map_of arena) key) refl
      where
        by : (found : Option ℕ) → get (map_of arena) key ≡ found → get (map_of arena) key ≡ None
        by None none = none
        by (Some value) held =
            let short = is.short key value held in
            let most = is.longest_fits in
            absurd (bad (key_of_string lengths key (table_some all_strings-all (λ k. lookup (world_of arena) 0 (pieces k)) key value held).0 (omega (arith, short, most))))

    pub bad-deleted : array_of limit arena ≡ with_map (array_of limit arena) (del (map_of arena) key)
    bad-deleted = ap (λ (m : FinMap byte_order ℕ). record { limit = limit; map = m }) (sym (remove_absent byte_order_total byte_order_same (map_of arena) key bad-none))

  module _ (is_key : IsString key) where
    key-there : contains_key (map_of arena) key ≡ is_some (lookup (world_of arena) 0 (pieces key))
    key-there = ap (λ (o : Option ℕ). is_some o) (get-map arena key is_key)

    module _ (after : Arena) (shrunk : IsShrunk arena after key) where
      map-is : map_of after ≡ remove (map_of arena) key
      map-is = map_removed arena after key is_key shrunk.change

      within-left : (longest : ℕ) → AreWithin longest (map_of arena) → AreWithin longest (map_of after)
      within-left longest within = subst (AreWithin longest) (sym map-is) (within-remove longest (map_of arena) key within)

      pub key-deleted : array_of limit after ≡ with_map (array_of limit arena) (del (map_of arena) key)
      key-deleted = ap (λ (m : FinMap byte_order ℕ). record { limit = limit; map = m }) map-is

      module _ {most longest : ℕ} (count : ℕ) (is : IsStrings most longest limit count arena) (found : Bool) (answer : found ≡ is_some (lookup (world_of arena) 0 (pieces key))) where
        len-is : len (map_of after) ≡ cond found (len (map_of arena) - 1) (len (map_of arena))
        len-is =
            ap (λ (m : FinMap byte_order ℕ). len m) map-is
            ∙ len-remove byte_order_total (map_of arena) key
            ∙ ap (λ b. cond b (len (map_of arena) - 1) (len (map_of arena))) (key-there ∙ sym answer)

        -- An array that holds the key counts it.
        pub count-some : found ≡ true → 1 ≤ count
        count-some e = elim count as (λ n. count ≡ n → 1 ≤ count) [
          | zero ↦ λ nil.
              let none = empty_of_len (map_of arena) (sym is.counted ∙ nil) in
              let absent : contains_key (map_of arena) key ≡ false = ap (λ (m : FinMap byte_order ℕ). contains_key m key) none ∙ ap (λ (o : Option ℕ). is_some o) (get-empty byte_order key) in
              let g : true ≡ false = sym e ∙ answer ∙ sym key-there ∙ absent in
              cc
          | suc n ↦ λ some. omega (arith, some)
        ] refl

        pub strings-removed : found ≡ true → IsStrings most longest limit (count - 1) after
        strings-removed e = record {
          is_arena = shrunk.is_arena;
          led = shrunk.led;
          counted = ap (λ n. n - 1) is.counted ∙ sym (len-is ∙ ap (λ b. cond b (len (map_of arena) - 1) (len (map_of arena))) e);
          within_limit = (let w = is.within_limit in omega (arith, w));
          holds_some = is.holds_some;
          limit_fits = is.limit_fits;
          short = within-left longest is.short;
          longest_fits = is.longest_fits;
        }

        pub strings-kept : found ≡ false → IsStrings most longest limit count after
        strings-kept e = record {
          is_arena = shrunk.is_arena;
          led = shrunk.led;
          counted = is.counted ∙ sym (len-is ∙ ap (λ b. cond b (len (map_of arena) - 1) (len (map_of arena))) e);
          within_limit = is.within_limit;
          holds_some = is.holds_some;
          limit_fits = is.limit_fits;
          short = within-left longest is.short;
          longest_fits = is.longest_fits;
        }
