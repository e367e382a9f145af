-- A cursor: where a walk up through the keys of an array stands.
use Rattle.std.specs.Prelude.{ℕ, List, Option, refl}
use Rattle.std.specs.Coded.{Coded, code_by, coded×, coded_list, coded_ℕ}
use Rattle.std.specs.FinMap.{FinMap, code}
use Rattle.judy_model.specs.Keys.{byte_order}
use Rattle.judy_sl.specs.declared.arena.Arena.{Arena}
use Rattle.judy_sl.specs.declared.runs.Run.{Run}
use Rattle.judy_sl.specs.Pieces.{IsText}
use Rattle.judy_sl.specs.Arenas.{world_of, map_of, AreShort, IsArena}
use Rattle.judy_sl.specs.Runs.{Levels, RunLeads}

-- The map that is walked through, and the bytes at which the walk stands.
pub record Standing : Type 0 where
  pub map : FinMap byte_order ℕ
  pub key : List ℕ

-- It is stored as the pair of these.
abbrev pub standing_code : Coded Standing
standing_code =
    code_by (FinMap byte_order ℕ × List ℕ) (coded× (code (coded_list coded_ℕ) coded_ℕ) (coded_list coded_ℕ)) (λ at. (at.map, at.key)) (λ pair. record { map = pair.0; key = pair.1 }) (λ _. refl)

-- What always holds of a cursor: keys find room in it, its bytes hold no zero, and its run leads up from them.
pub record IsCursor (arena : Arena) (key : List ℕ) (above : Levels) (run : Option Run) : Type 0 where
  pub is_arena : IsArena arena
  pub short : AreShort (map_of arena)
  pub is_text : IsText key
  pub leads : RunLeads (world_of arena) key above run
