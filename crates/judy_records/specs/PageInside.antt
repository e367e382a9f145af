-- How the records of a page stand in words: record after record, each its value and then its text. The value of a free record is the place that
-- was free first before it, and the page knows the first free one and how many are free.
use Rattle.std.specs.Prelude.{◌≡◌, ◌≤◌, ◌+◌, ◌*◌, ℕ, zero, suc, List, [], ◌∷◌, length, get_or, set, take, drop, map}
use Rattle.judy_records.specs.declared.page.Page.TheInside.{Inside}
use Rattle.judy_records.specs.Spots.{Spot, free, held, IsHeld, value_of, unlinked}
use Rattle.judy_records.specs.PageSpots.{PageList}

-- The record with which words begin.
abbrev pub first_spot : ℕ → List ℕ → Spot
first_spot size words = held (get_or words 0 0) (take size (drop 1 words))

-- So many records, one after the other.
abbrev pub spots_in : ℕ → ℕ → List ℕ → List Spot
spots_in zero size words = []
spots_in (suc count) size words = first_spot size words ∷ spots_in count size (drop (size + 1) words)

-- What is left of records where so many are free, from the first free one on.
abbrev pub freed : ℕ → ℕ → List Spot → List Spot
freed zero first all = all
freed (suc count) first all = set (freed count (value_of (get_or all first (free 0))) all) first (free (value_of (get_or all first (free 0))))

-- Each free place is met once on the way of links.
abbrev pub AreChained : ℕ → ℕ → List Spot → Type 0
AreChained zero first all = Unit {0}
AreChained (suc count) first all = IsHeld (get_or (freed count (value_of (get_or all first (free 0))) all) first (free 0)) × AreChained count (value_of (get_or all first (free 0))) all

-- The place that is taken next: the first free one, or the end where none is.
abbrev pub next_from : ℕ → ℕ → ℕ → ℕ
next_from zero first count = count
next_from (suc spare) first count = first

-- The page that fields stand for.
abbrev pub page_list : Inside → PageList
page_list page = record {
  size = page.size;
  spots = map unlinked (freed page.spare page.free (spots_in page.count page.size page.words.items));
  next = next_from page.spare page.free page.count;
  capacity = page.words.cap;
}

-- What always holds of the fields.
pub record IsPage (page : Inside) : Type 0 where
  pub long : length page.words.items ≡ page.count * (page.size + 1)
  pub chained : AreChained page.spare page.free (spots_in page.count page.size page.words.items)
  pub size_within : page.size ≤ 2305843009213693952
