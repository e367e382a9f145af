-- Strings, and those of them that are keys of an array.
use Rattle.std.proofs.Common.{◌≡◌, ◌≤◌, ◌∙◌, ℕ, List, Bool, true, false, cond, None, Some, length, refl, sym, subst, arith}
use Rattle.std.specs.Ordering.{eq_by_cmp}
use Rattle.std.specs.FinMap.{FinMap, get, empty, insert, remove, get-empty, get-insert, get-remove}
use Rattle.judy_model.specs.Keys.{byte_order}
use Rattle.judy_model.specs.KeyLengths.{IsStringKeyTo}
use Rattle.judy_model.specs.declared.keys.TheConstants.{LONGEST_STRING}
use Rattle.judy_model.proofs.lemmas.maps.TableLemmas.{ListsAll, string_keys_to-all, byte_order_total, get-table}
use Rattle.judy_sl.specs.Strings.{IsString, all_strings}
use Rattle.judy_sl.specs.declared.arena.Arena.{Arena}
use Rattle.judy_sl.specs.Pieces.{pieces}
use Rattle.judy_sl.specs.World.{lookup}
use Rattle.judy_sl.specs.Arenas.{world_of, map_of, AreWithin}
use Rattle.judy_sl.specs.declared.keys.KeyLength.{Ghosts}
use Rattle.judy_sl.proofs.lemmas.pieces.Ways.{same-eq_by_cmp}

pub all_strings-all : ListsAll all_strings IsString
unfolding all_strings
all_strings-all = string_keys_to-all LONGEST_STRING

-- A string of at most so many bytes is one,
pub string_to : {longest : ℕ} → longest ≤ LONGEST_STRING → (key : List ℕ) → IsStringKeyTo longest key → IsString key
string_to most key is = record {
  is_bytes_key = record {
    is_byte_string = is.is_bytes_key.is_byte_string;
    within_limit = (let within = is.is_bytes_key.within_limit in omega (arith, within, most));
  };
  without_zero = is.without_zero;
}

-- and so is a key,
pub string_of_key : {Self : Type 0} (lengths : Ghosts Self) (key : List ℕ) → lengths.IsKey key → IsString key
string_of_key lengths key is = string_to lengths.in_memory key (lengths.string_of key is)

-- no longer than a key may be,
pub key-within : {Self : Type 0} (lengths : Ghosts Self) (key : List ℕ) → lengths.IsKey key → length key ≤ lengths.LONGEST
key-within lengths key is = (lengths.string_of key is).is_bytes_key.within_limit

-- and such a string is a key.
pub key_of_string : {Self : Type 0} (lengths : Ghosts Self) (key : List ℕ) → IsString key → length key ≤ lengths.LONGEST → lengths.IsKey key
key_of_string lengths key is within =
    lengths.key_of key (record { is_bytes_key = record { is_byte_string = is.is_bytes_key.is_byte_string; within_limit = within }; without_zero = is.without_zero })

-- ---- keys within a length

pub within-none : {longest : ℕ} → AreWithin longest empty
within-none key value held = absurd (let e : None ≡ Some value = sym (get-empty byte_order key) ∙ held in cc)

-- They are within a greater one too.
pub within-more : {few many : ℕ} (map : FinMap byte_order ℕ) → AreWithin few map → few ≤ many → AreWithin many map
within-more map within more key value held = let fits = within key value held in omega (arith, fits, more)

-- One more that is within it leaves them so,
pub within-insert : (longest : ℕ) (map : FinMap byte_order ℕ) (key : List ℕ) (value : ℕ) → AreWithin longest map → length key ≤ longest → AreWithin longest (insert map key value)
within-insert longest map key value within fits other found held = by (eq_by_cmp byte_order other key) refl (sym (get-insert byte_order_total map key value other) ∙ held)
  where
    by : (b : Bool) → eq_by_cmp byte_order other key ≡ b → cond b (Some value) (get map other) ≡ Some found → length other ≤ longest
    by true same e = subst (λ (bytes : List ℕ). length bytes ≤ longest) (sym (same-eq_by_cmp other key same)) fits
    by false apart e = within other found e

-- and so does one that goes.
pub within-remove : (longest : ℕ) (map : FinMap byte_order ℕ) (key : List ℕ) → AreWithin longest map → AreWithin longest (remove map key)
within-remove longest map key within other found held = by (eq_by_cmp byte_order other key) (sym (get-remove byte_order_total map key other) ∙ held)
  where
    by : (b : Bool) → cond b None (get map other) ≡ Some found → length other ≤ longest
    by true e = absurd (cc)
    by false e = within other found e

-- What is found by the pieces of a string is one of them.
pub within-found : (arena : Arena) (longest : ℕ) → AreWithin longest (map_of arena) → (key : List ℕ) (value : ℕ) → IsString key → lookup (world_of arena) 0 (pieces key) ≡ Some value →
    length key ≤ longest
within-found arena longest within key value is found = within key value (get-table all_strings-all (λ k. lookup (world_of arena) 0 (pieces k)) key is ∙ found)
