-- The pages of a list of records: which page a place is in. Each has so many places that a short one, of which there are 64 at first, takes 4 KiB at
-- most, and a long one eight times as many.
use Rattle.std.specs.Prelude.{◌≡◌, ◌<◌, ◌+◌, ◌-◌, ◌*◌, ◌/◌, ◌%◌, ◌^◌, ℕ, nat_lt, if◌then◌else◌}

-- How many places a short page has, as a power of two: as many as 512 words have records of such texts at least, or one.
unfoldable pub shift_of : ℕ → ℕ
shift_of size =
    if nat_lt size 1 then 9
    else (if nat_lt size 2 then 8
    else (if nat_lt size 4 then 7
    else (if nat_lt size 8 then 6
    else (if nat_lt size 16 then 5
    else (if nat_lt size 32 then 4
    else (if nat_lt size 64 then 3
    else (if nat_lt size 128 then 2
    else (if nat_lt size 256 then 1 else 0))))))))

unfoldable pub per_of : ℕ → ℕ
per_of size = 2 ^ shift_of size

-- How many short pages a page is as long as, and how many are as long as those before it.
unfoldable pub units_of : ℕ → ℕ
units_of page = if nat_lt page 64 then 1 else 8

unfoldable pub units_before : ℕ → ℕ
units_before page = if nat_lt page 64 then page else (page - 56) * 8

-- The page that has a part as long as a short page, and how many such parts are before it in its page.
unfoldable pub unit_page : ℕ → ℕ
unit_page unit = if nat_lt unit 64 then unit else unit / 8 + 56

unfoldable pub unit_rest : ℕ → ℕ
unit_rest unit = if nat_lt unit 64 then 0 else unit % 8

-- How many places a page has, and the first of them, where a short one has so many.
unfoldable pub size_of : ℕ → ℕ → ℕ
size_of per page = units_of page * per

unfoldable pub start_of : ℕ → ℕ → ℕ
start_of per page = units_before page * per

-- The page of a place, and which of the page's places it is.
unfoldable pub page_of : ℕ → ℕ → ℕ
page_of per place = unit_page (place / per)

unfoldable pub rest_of : ℕ → ℕ → ℕ
rest_of per place = unit_rest (place / per) * per + place % per

-- A place is in that page, as that place of it.
pub record IsAt (per place page rest : ℕ) : Type 0 where
  pub page_is : page ≡ page_of per place
  pub rest_is : rest ≡ rest_of per place

-- How many of a page's places a list has that ends there.
abbrev pub places_of : ℕ → ℕ → ℕ → ℕ
places_of per end number = if nat_lt (end - start_of per number) (size_of per number) then end - start_of per number else size_of per number
