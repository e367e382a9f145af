-- How many keys behind a level are less than the rest of a key, or, where that itself counts, not above it, by the level's entries.
use Rattle.std.specs.Prelude.{◌+◌, ℕ, suc, Bool, if◌then◌else◌, nat_lt, List, length, drop, Option, None, Some}
use Rattle.std.specs.FinMap.{FinMap, entries, get}
use Rattle.judy_model.specs.Keys.{word_order}
use Rattle.judy_sums.specs.Levels.{keys_below, part_len}
use Rattle.judy_sl.specs.Pieces.{piece_of}
use Rattle.judy_sl.specs.World.{World}
use Rattle.judy_sl.specs.Behind.{map_behind, entry_keys}
use Rattle.judy_sl.specs.Counted.{ranked}

-- Behind the entry of the key's own piece, if there is one: the key itself, where it ends there, and else those behind the entry's child.
abbrev pub ranked_own : World → Bool → Option ℕ → List ℕ → ℕ
ranked_own world itself None key = 0
ranked_own world itself (Some at) key = if nat_lt (length key) 8 then (if itself then 1 else 0) else ranked itself (map_behind world (suc at)) (drop 8 key)

-- Behind the entries of lesser pieces all are, and behind the key's own these.
abbrev pub ranked_in : World → Bool → FinMap word_order ℕ → List ℕ → ℕ
ranked_in world itself words key = keys_below (part_len (entry_keys world)) (entries words) (piece_of key) + ranked_own world itself (get words (piece_of key)) key
