-- Tails, place by place: a tail is a text, with the value that it has.
use Rattle.std.specs.Prelude.{◌≡◌, ◌≤◌, ◌*◌, ◌+◌, ◌/◌, ◌%◌, ◌==◌, Bool, nat_le, ℕ, List, Option, if◌then◌else◌}
use Rattle.judy_model.specs.declared.keys.TheConstants.{LONGEST_KEY}
use Rattle.judy_tails.specs.Places.{text_of, UpdatesBy}
use Rattle.judy_tails.specs.Short.{ShortLists}
use Rattle.judy_tails.specs.Short as short
use Rattle.judy_tails.specs.Long.{LongList}
use Rattle.judy_tails.specs.Long as long

-- The tails of at most 1,024 bytes, and the longer ones.
pub record TailLists : Type 0 where
  pub short : ShortLists
  pub long : LongList

-- Whether a place is one for longer tails: its lowest byte tells.
abbrev pub is_long : ℕ → Bool
is_long place = place % 256 == 254

-- What stands at a place: a text and its value, or nothing.
abbrev pub tail_at : TailLists → ℕ → Option (List ℕ × ℕ)
tail_at all place = if is_long place then long.tail_at all.long (place / 256) else short.tail_at all.short place

-- The place that the next text of so many bytes takes.
abbrev pub next_place : TailLists → ℕ → ℕ
next_place all bytes = if nat_le bytes LONGEST_KEY then short.next_place all.short bytes else all.long.next * 256 + 254

-- The text is no longer one, and a place of the list for texts of so many bytes is free, beside a text in its page.
pub record HasFree (all : TailLists) (bytes : ℕ) : Type 0 where
  pub few : bytes ≤ LONGEST_KEY
  pub free : short.HasFree all.short bytes

-- No tail stands anywhere.
abbrev pub no_tails : TailLists
no_tails = record { short = short.no_tails; long = long.no_tails }

-- Another tail at a place where one stands.
abbrev pub with_tail : TailLists → ℕ → List ℕ × ℕ → TailLists
with_tail all place tail = if is_long place then record all { long = long.with_tail all.long (place / 256) tail } else record all { short = short.with_tail all.short place tail }

-- Another value at a place where a tail stands.
abbrev pub with_value : TailLists → ℕ → ℕ → TailLists
with_value all place value = with_tail all place (text_of (tail_at all place), value)

-- One place has this, and all others what they had.
abbrev pub Updates : TailLists → TailLists → ℕ → Option (List ℕ × ℕ) → Type 0
Updates = UpdatesBy tail_at

-- All places have what they had.
abbrev pub SameTails : TailLists → TailLists → Type 0
SameTails before after = (place : ℕ) → tail_at after place ≡ tail_at before place
