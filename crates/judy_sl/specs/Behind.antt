-- The keys behind a seat, by what is left of each, and behind the entries of a level.
use Rattle.std.specs.Prelude.{◌≡◌, ◌==◌, ◌%◌, ℕ, suc, if◌then◌else◌, List, [], ◌∷◌, ◌++◌, map}
use Rattle.std.specs.List.{flat_map}
use Rattle.std.specs.FinMap.{FinMap, entries}
use Rattle.judy_model.specs.Keys.{word_order, byte_order}
use Rattle.judy_model.specs.Tables.{table}
use Rattle.judy_sl.specs.Pieces.{pieces, piece_bytes}
use Rattle.judy_sl.specs.World.{World, level, lookup}
use Rattle.judy_sl.specs.WorldInvariants.{IsWorld}
use Rattle.judy_sl.specs.Strings.{all_strings}

-- The map of the keys behind a seat: the bytes that are left of each there, with its value.
abbrev pub map_behind : World → ℕ → FinMap byte_order ℕ
map_behind world seat = table all_strings (λ rest. lookup world seat (pieces rest))

-- The keys behind an entry of a level: one where its piece is final, and else the piece's bytes before those behind its child.
abbrev pub entry_keys : World → ℕ × ℕ → List (List ℕ × ℕ)
entry_keys world entry = if entry.0 % 256 == 0 then (piece_bytes entry.0, entry.1) ∷ [] else map (λ pair. (piece_bytes entry.0 ++ pair.0, pair.1)) (entries (map_behind world (suc entry.1)))

-- The keys behind a level stand entry by entry.
abbrev pub KeysStandEntryByEntry : Type 0
KeysStandEntryByEntry =
    (world : World) (behind : ℕ → List ℕ) (seat : ℕ) (words : FinMap word_order ℕ) → IsWorld world behind → world seat ≡ level words →
    entries (map_behind world seat) ≡ flat_map (entry_keys world) (entries words)
