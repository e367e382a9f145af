-- Tails of at most 1,024 bytes, in a list for each length in words.
use Rattle.std.specs.Prelude.{◌≡◌, ◌<◌, ℕ, ◌*◌, ◌+◌, ◌/◌, ◌%◌, ◌==◌, List, [], length, get_or, set, Option, None, Some, IsSome}
use Rattle.std.specs.List.{position_or_len}
use Rattle.judy_records.specs.Texts.{words_for}
use Rattle.judy_records.specs.Pages.{per_of, page_of}
use Rattle.judy_tails.specs.Places.{text_of, UpdatesBy}

-- Of each list, by its number: how many words each text in it takes, what stands at each place, and which place is taken next.
pub record ShortLists : Type 0 where
  pub words : List ℕ
  pub lists : List (List (Option (List ℕ × ℕ)))
  pub next : List ℕ

-- A place tells by its lowest byte the number of a list, and by the others the place in it. What stands there: a text and its value, or nothing.
abbrev pub tail_at : ShortLists → ℕ → Option (List ℕ × ℕ)
tail_at all place = get_or (get_or all.lists (place % 256) []) (place / 256) None

-- The list for texts of so many bytes, by its number: the first one whose texts take as many words, or else the next one to be made.
abbrev pub list_for : ShortLists → ℕ → ℕ
list_for all bytes = position_or_len (λ words. words_for bytes == words) all.words

-- The place that the next text of so many bytes takes.
abbrev pub next_place : ShortLists → ℕ → ℕ
next_place all bytes = get_or all.next (list_for all bytes) 0 * 256 + list_for all bytes

-- A place of the list for texts of so many bytes is free, beside a text in its page.
pub record HasFree (all : ShortLists) (bytes : ℕ) : Type 0 where
  pub place : ℕ
  pub within : place < length (get_or all.lists (list_for all bytes) [])
  pub is_free : get_or (get_or all.lists (list_for all bytes) []) place None ≡ None
  pub other : ℕ
  pub stands : IsSome (get_or (get_or all.lists (list_for all bytes) []) other None)
  pub beside : page_of (per_of (words_for bytes)) other ≡ page_of (per_of (words_for bytes)) place

-- No tail stands anywhere.
abbrev pub no_tails : ShortLists
no_tails = record { words = []; lists = []; next = [] }

-- Another tail at a place where one stands.
abbrev pub with_tail : ShortLists → ℕ → List ℕ × ℕ → ShortLists
with_tail all place tail = record all { lists = set all.lists (place % 256) (set (get_or all.lists (place % 256) []) (place / 256) (Some tail)) }

-- Another value at a place where a tail stands.
abbrev pub with_value : ShortLists → ℕ → ℕ → ShortLists
with_value all place value = with_tail all place (text_of (tail_at all place), value)

-- One place has this, and all others what they had.
abbrev pub Updates : ShortLists → ShortLists → ℕ → Option (List ℕ × ℕ) → Type 0
Updates = UpdatesBy tail_at

-- All places have what they had.
abbrev pub SameTails : ShortLists → ShortLists → Type 0
SameTails before after = (place : ℕ) → tail_at after place ≡ tail_at before place
