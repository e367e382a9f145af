-- Tails of more than 1,024 bytes, in one list.
use Rattle.std.specs.Prelude.{ℕ, ◌^◌, List, [], Option, None, Some, get_or, set, nat_lt, if◌then◌else◌}
use Rattle.slab.specs.Slab.{Slab}
use Rattle.judy_tails.specs.Places.{text_of, UpdatesBy}

-- What stands at each place, and which place is taken next.
pub record LongList : Type 0 where
  pub tails : List (Option (List ℕ × ℕ))
  pub next : ℕ

-- What stands at a place.
abbrev pub tail_at : LongList → ℕ → Option (List ℕ × ℕ)
tail_at list place = get_or list.tails place None

-- No tail stands anywhere.
abbrev pub no_tails : LongList
no_tails = record { tails = []; next = 0 }

-- Another tail at a place where one stands.
abbrev pub with_tail : LongList → ℕ → List ℕ × ℕ → LongList
with_tail list place tail = record list { tails = set list.tails place (Some tail) }

-- Another value at a place where a tail stands.
abbrev pub with_value : LongList → ℕ → ℕ → LongList
with_value list place value = with_tail list place (text_of (tail_at list place), value)

-- One place has this, and all others what they had.
abbrev pub Updates : LongList → LongList → ℕ → Option (List ℕ × ℕ) → Type 0
Updates = UpdatesBy tail_at

-- The list that a slab of tails is. No place behind so many is taken, so that each one is a word.
abbrev pub long_list : Slab (List ℕ × ℕ) → LongList
long_list slab = record {
  tails = slab.slots;
  next = if nat_lt slab.vacant_key (2 ^ 55) then slab.vacant_key else 2 ^ 55;
}
