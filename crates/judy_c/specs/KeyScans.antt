-- What a scan of C answers, and what it leaves where the caller is told.
use Rattle.std.specs.Prelude.{◌≡◌, ◌≤◌, ◌<◌, ◌++◌, List, ℕ, length, take, drop, Option, Some, None}
use Rattle.std.specs.FinMap.{FinMap, get}
use Rattle.judy_model.specs.Keys.{byte_order}
use Rattle.judy_model.specs.Neighbours as neighbours
use Rattle.judy_sl.specs.Strings.{IsString}
use Rattle.judy_c.specs.declared.scans.Scan.{Scan}
use Rattle.judy_c.specs.declared.scans.Scan.TheVariants.{First, Next, Last, Prev}
use Rattle.judy_c.specs.Answers.{Says}

-- What each scan looks for.
abbrev pub neighbour : Scan → FinMap byte_order ℕ → List ℕ → Option (List ℕ)
neighbour First = neighbours.first
neighbour Next = neighbours.next
neighbour Last = neighbours.last
neighbour Prev = neighbours.prev

-- A buffer of the caller's, the length of the string at its beginning, and the word for a value.
pub record CallerBuffer : Type 0 where
  pub buffer : List ℕ
  pub count : ℕ
  pub value : ℕ

-- That string.
abbrev pub start : CallerBuffer → List ℕ
start room = take room.count room.buffer

-- The buffer begins with a string that a scan may begin at.
abbrev pub IsStart : CallerBuffer → Type 0
IsStart room = (room.count ≤ length room.buffer) × IsString (start room)

-- The buffer with a key at its beginning, and the key's length and value.
abbrev pub IsEntry : FinMap byte_order ℕ → List ℕ → CallerBuffer → CallerBuffer → Type 0
IsEntry map key before after =
    (after.buffer ≡ key ++ drop (length key) before.buffer) × (after.count ≡ length key) × (get map key ≡ Some after.value)

-- Of a key that doesn't fit the buffer its length is told in place of a value, and buffer and count stay.
abbrev pub IsTooLong : List ℕ → CallerBuffer → CallerBuffer → Type 0
IsTooLong key before after =
    (length before.buffer < length key) × (after.buffer ≡ before.buffer) × (after.count ≡ before.count) × (after.value ≡ length key)

-- A key that is there is told with its value, or where it doesn't fit the buffer, its length is; or there is none, and everything stays.
abbrev pub told_says : FinMap byte_order ℕ → Option (List ℕ) → CallerBuffer → CallerBuffer → Says
told_says map looked before after = record {
  none = (looked ≡ None) × (after ≡ before);
  found = (key : List ℕ) × (looked ≡ Some key) × (length key ≤ length before.buffer) × IsEntry map key before after;
  bad_key = ⊥;
  too_small = (key : List ℕ) × (looked ≡ Some key) × IsTooLong key before after;
}

-- The same of the key that is looked for from the string in the buffer; or the buffer holds no such string, and everything stays.
abbrev pub scan_says : FinMap byte_order ℕ → (List ℕ → Option (List ℕ)) → CallerBuffer → CallerBuffer → Says
scan_says map look before after =
    let says = told_says map (look (start before)) before after in record {
      none = IsStart before × says.none;
      found = IsStart before × says.found;
      bad_key = (IsStart before → ⊥) × (after ≡ before);
      too_small = IsStart before × says.too_small;
    }

-- The same of a scan that lends the slot of the key: of one that doesn't fit the buffer nothing is told, and everything stays.
abbrev pub slot_says : FinMap byte_order ℕ → (List ℕ → Option (List ℕ)) → CallerBuffer → CallerBuffer → Says
slot_says map look before after =
    let says = scan_says map look before after in record {
      none = says.none;
      found = says.found;
      bad_key = says.bad_key;
      too_small = IsStart before × ((key : List ℕ) × (look (start before) ≡ Some key) × (length before.buffer < length key)) × (after ≡ before);
    }
