-- What memory a list of records has.
use Rattle.std.specs.Prelude.{◌≡◌, ◌≢◌, ◌<◌, ◌≤◌, ◌+◌, ◌*◌, ℕ, length, get_or}
use Rattle.judy_records.specs.Pages.{per_of, page_of, size_of}
use Rattle.judy_records.specs.Spots.{RecordList, IsHeld, spot_at}

-- A record stands in a page.
pub record IsUsed (list : RecordList) (page : ℕ) : Type 0 where
  pub place : ℕ
  pub held : IsHeld (spot_at list place)
  pub here : page_of (per_of list.size) place ≡ page

-- No page has memory without a record, and none has more than its places take.
pub record IsTight (list : RecordList) : Type 0 where
  pub used : (page : ℕ) → 0 < get_or list.memory page 0 → IsUsed list page
  pub within : (page : ℕ) → get_or list.memory page 0 ≤ size_of (per_of list.size) page * (list.size + 1)

-- A place is free in a page with a record.
pub record HasFree (list : RecordList) : Type 0 where
  pub place : ℕ
  pub within : place < length list.spots
  pub is_free : IsHeld (spot_at list place) → ⊥
  pub used : IsUsed list (page_of (per_of list.size) place)

-- The page of a record is spare: it has a free place, and another page is filled before it.
pub record IsSpare (list : RecordList) (place : ℕ) : Type 0 where
  pub other : ℕ
  pub within : other < length list.spots
  pub is_free : IsHeld (spot_at list other) → ⊥
  pub beside : page_of (per_of list.size) other ≡ page_of (per_of list.size) place
  pub later : page_of (per_of list.size) list.next ≢ page_of (per_of list.size) place

-- A record is removed: nothing stands at its place, and elsewhere what stood there.
pub record IsRemoved (before after : RecordList) (place : ℕ) : Type 0 where
  pub size : after.size ≡ before.size
  pub here : IsHeld (spot_at after place) → ⊥
  pub elsewhere : (other : ℕ) → other ≢ place → spot_at after other ≡ spot_at before other
  pub long : length after.spots ≤ length before.spots

-- The same stands at each place, whichever is next.
pub record HoldsSame (before after : RecordList) : Type 0 where
  pub size : after.size ≡ before.size
  pub spots : (place : ℕ) → spot_at after place ≡ spot_at before place
