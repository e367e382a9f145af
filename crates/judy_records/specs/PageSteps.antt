-- What a step makes of the pages of a list and of their kinds.
use Rattle.std.specs.Prelude.{◌≡◌, ◌≢◌, ◌<◌, ◌++◌, ◌∷◌, [], ◌⊎◌, ℕ, List, length, set}
use Rattle.judy_records.specs.Kinds.{roomy, gone, Kinds, IsMoved, IsLonger}
use Rattle.judy_records.specs.Spots.{Spot, free, IsHeld, IsNext, put_at}
use Rattle.judy_records.specs.PageSpots.{PageList, spot_in, empty_page}

-- A page with one more record, at its next place.
pub record IsFilled (before after : PageList) (spot : Spot) : Type 0 where
  pub size_is : after.size ≡ before.size
  pub spots : after.spots ≡ put_at before.spots before.next spot
  pub next : IsNext after.spots after.next
  pub capacity : after.capacity ≡ before.capacity

-- A page without a record that got memory for so many words, which are fewer than any word can tell.
pub record IsReopened (before after : PageList) (words : ℕ) : Type 0 where
  pub size_is : after.size ≡ before.size
  pub spots : after.spots ≡ []
  pub next : after.next ≡ 0
  pub capacity : after.capacity ≡ words
  pub few : after.capacity < 18446744073709551615

-- There is a page of a number: it was there, or came as an empty one behind the others.
abbrev pub IsBegun : ℕ → List PageList → List PageList → Kinds → Kinds → ℕ → Type 0
IsBegun size before after kinds now number = ((number < length before) × (after ≡ before) × (now ≡ kinds)) ⊎ ((number ≡ length before) × (after ≡ before ++ empty_page size ∷ []) × IsLonger kinds now)

-- A page without the record at a place, where another one stands.
pub record IsWithout (before after : PageList) (place : ℕ) : Type 0 where
  pub size_is : after.size ≡ before.size
  pub spots : after.spots ≡ set before.spots place (free 0)
  pub next : after.next ≡ place
  pub known : IsNext after.spots after.next
  pub capacity : after.capacity ≡ before.capacity
  pub other : (at : ℕ) × IsHeld (spot_in after at)

-- The page's only record was at the place.
pub record IsEmptied (before after : PageList) (place : ℕ) : Type 0 where
  pub page : after ≡ empty_page before.size
  pub alone : (other : ℕ) → other ≢ place → spot_in before other ≡ free 0

-- A record went: its page is roomy then, or gone where there was no other.
abbrev pub IsTaken : PageList → PageList → Kinds → Kinds → ℕ → ℕ → Type 0
IsTaken before after kinds now number place = (IsWithout before after place × IsMoved kinds now number roomy) ⊎ (IsEmptied before after place × IsMoved kinds now number gone)
