-- What a page of a list of records holds, record by record.
use Rattle.std.specs.Prelude.{◌≡◌, ◌<◌, ◌≤◌, ◌+◌, ◌*◌, ◌⊎◌, ℕ, List, [], length, get_or, set}
use Rattle.judy_records.specs.Spots.{Spot, free, held, text_of}

-- A page: how many words of text each of its records has, what stands at each place that was taken once, the place that is taken next, and for how
-- many words it has memory.
pub record PageList : Type 0 where
  pub size : ℕ
  pub spots : List Spot
  pub next : ℕ
  pub capacity : ℕ

abbrev pub spot_in : PageList → ℕ → Spot
spot_in page place = get_or page.spots place (free 0)

-- The page without a record and without memory.
abbrev pub empty_page : ℕ → PageList
empty_page size = record { size = size; spots = []; next = 0; capacity = 0 }

-- The page with another thing at a place.
abbrev pub with_spot_in : PageList → ℕ → Spot → PageList
with_spot_in page place spot = record page { spots = set page.spots place spot }

abbrev pub with_value_in : PageList → ℕ → ℕ → PageList
with_value_in page place value = with_spot_in page place (held value (text_of (spot_in page place)))

-- It has memory for one more record: at a free place, or behind the others.
abbrev pub HasRoom : PageList → Type 0
HasRoom page = (page.next < length page.spots) ⊎ ((length page.spots + 1) * (page.size + 1) ≤ page.capacity)

-- It has so many places, and a record at each.
abbrev pub IsFull : ℕ → PageList → Type 0
IsFull places page = (length page.spots ≡ places) × (page.next ≡ places)
