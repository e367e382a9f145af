-- How a list of records stands in pages.
use Rattle.std.specs.Prelude.{◌≡◌, ◌<◌, ◌≤◌, ◌+◌, ◌*◌, ◌^◌, ℕ, zero, suc, List, [], ◌∷◌, ◌++◌, length, get_or, map, Option, None, Some}
use Rattle.judy_records.specs.declared.records.Records.TheInside.{Inside}
use Rattle.judy_records.specs.Pages.{shift_of, size_of, start_of, page_of, rest_of, places_of}
use Rattle.judy_records.specs.Kinds.{Kind, full, roomy, gone, Kinds, kind_of, first_of, AreKnown}
use Rattle.judy_records.specs.Spots.{Spot, free, IsHeld, IsNext, RecordList}
use Rattle.judy_records.specs.PageSpots.{PageList, spot_in, empty_page}

-- A page by its number.
abbrev pub page_at : List PageList → ℕ → PageList
page_at pages number = get_or pages number (empty_page 0)

-- What stands at the places up to an end.
abbrev pub spots_to : ℕ → (ℕ → Spot) → List Spot
spots_to zero spot = []
spots_to (suc end) spot = spots_to end spot ++ spot end ∷ []

abbrev pub spot_of : ℕ → List PageList → ℕ → Spot
spot_of per pages place = spot_in (page_at pages (page_of per place)) (rest_of per place)

-- The next place: that of such a page, or the end where there is none.
abbrev pub next_by : Option ℕ → ℕ → ℕ → List PageList → ℕ
next_by None per end pages = end
next_by (Some number) per end pages = start_of per number + (page_at pages number).next

abbrev pub capacity_of : PageList → ℕ
capacity_of page = page.capacity

-- The list that fields stand for.
abbrev pub list_of : Inside → RecordList
list_of list = record {
  size = list.size;
  spots = spots_to list.end (spot_of (2 ^ list.shift) list.pages.items);
  next = next_by (first_of list.turns.next_roomy list.turns.next_gone) (2 ^ list.shift) list.end list.pages.items;
  memory = map capacity_of list.pages.items;
}

-- What is known of a page by its kind: a full one has a record at each of its places; a roomy one has a place, a record and memory for all places;
-- and a gone one has nothing.
abbrev pub IsOfKind : Kind → ℕ → PageList → Type 0
IsOfKind full places page = (length page.spots ≡ places) × (page.next ≡ places) × (0 < page.capacity → 0 < places)
IsOfKind roomy places page = (length page.spots ≤ places) × (page.next < places) × ((place : ℕ) × IsHeld (spot_in page place)) × (places * (page.size + 1) ≤ page.capacity)
IsOfKind gone places page = (page ≡ empty_page page.size) × (0 < places)

pub record IsPageOf (size per end : ℕ) (kind : Kind) (number : ℕ) (page : PageList) : Type 0 where
  pub size_is : page.size ≡ size
  pub next : IsNext page.spots page.next
  pub known : IsOfKind kind (places_of per end number) page
  pub within : page.capacity ≤ size_of per number * (size + 1)

-- What always holds of the pages of a list.
pub record ArePages (size per end : ℕ) (pages : List PageList) (kinds : Kinds) : Type 0 where
  pub known : AreKnown kinds
  pub counted : length kinds.kinds ≡ length pages
  pub enough : end ≤ start_of per (length pages)
  pub few : length pages ≤ page_of per end + 1
  pub each : (number : ℕ) → number < length pages → IsPageOf size per end (kind_of kinds number) number (page_at pages number)

-- What always holds of the fields.
pub record AreRecords (list : Inside) : Type 0 where
  pub pages : ArePages list.size (2 ^ list.shift) list.end list.pages.items list.turns
  pub shift_is : list.shift ≡ shift_of list.size
  pub size_within : list.size ≤ 2305843009213693952
  pub most : list.end ≤ 288230376151711744
