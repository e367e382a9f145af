-- How the kinds of pages stand in a row: by turns, the full pages first, then the roomy ones, and the gone ones last.
use Rattle.std.specs.Prelude.{◌≡◌, ◌<◌, ◌≤◌, ◌⊎◌, ℕ, nat_lt, if◌then◌else◌, List, length, get_or, map, Option, None, Some}
use Rattle.judy_records.specs.declared.turns.Turn.{Turn}
use Rattle.judy_records.specs.declared.turns.Turns.TheInside.{Inside}
use Rattle.judy_records.specs.Kinds.{Kind, full, roomy, gone, Kinds}

abbrev pub no_turn : Turn
no_turn = record { page = 0; turn = 0 }

-- The turn of a page, and the page of a turn.
abbrev pub turn_of : List Turn → ℕ → ℕ
turn_of row page = (get_or row page no_turn).turn

abbrev pub page_at : List Turn → ℕ → ℕ
page_at row turn = (get_or row turn no_turn).page

-- Each page has a turn of its own.
pub record AreTurned (row : List Turn) : Type 0 where
  pub turn_in : (page : ℕ) → page < length row → turn_of row page < length row
  pub turned : (page : ℕ) → page < length row → page_at row (turn_of row page) ≡ page
  pub page_in : (turn : ℕ) → turn < length row → page_at row turn < length row
  pub paged : (turn : ℕ) → turn < length row → turn_of row (page_at row turn) ≡ turn

-- Only turns from one on up to an end have gone to other pages.
pub record AreExchanged (start end : ℕ) (before after : List Turn) : Type 0 where
  pub long : length after ≡ length before
  pub each : (page : ℕ) → (turn_of after page ≡ turn_of before page) ⊎
      ((start ≤ turn_of before page) × (turn_of before page < end) × (start ≤ turn_of after page) × (turn_of after page < end))

-- The kind of a page by its turn.
abbrev pub kind_at : ℕ → ℕ → ℕ → Kind
kind_at fulls standing turn = if nat_lt turn fulls then full else (if nat_lt turn standing then roomy else gone)

abbrev pub kind_in : ℕ → ℕ → Turn → Kind
kind_in fulls standing turn = kind_at fulls standing turn.turn

abbrev pub page_or_none : List Turn → ℕ → ℕ → Option ℕ
page_or_none row turn end = if nat_lt turn end then Some (page_at row turn) else None

abbrev pub kinds_of : Inside → Kinds
kinds_of turns = record {
  kinds = map (kind_in turns.full turns.standing) turns.row.items;
  next_roomy = page_or_none turns.row.items turns.full turns.standing;
  next_gone = page_or_none turns.row.items turns.standing (length turns.row.items);
}

pub record AreTurns (turns : Inside) : Type 0 where
  pub row : AreTurned turns.row.items
  pub fulls : turns.full ≤ turns.standing
  pub standings : turns.standing ≤ length turns.row.items
