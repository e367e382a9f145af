-- The neighbours of a key, found level by level.
use Rattle.std.specs.Prelude.{◌≡◌, ℕ, ◌*◌, ◌≤◌, Bool, true, false, ◌&&◌, if◌then◌else◌, IsTrue, IsFalse, List, ◌∷◌, ◌++◌, length, take, drop, unwrap_or, Option, None, Some, IfSome}
use Rattle.std.specs.declared.cmp.Ordering.{Ordering}
use Rattle.std.specs.Ordering.{is_lt, is_le}
use Rattle.std.specs.Cmp.Lexicographic.{slice_cmp}
use Rattle.std.specs.Option.{option_map}
use Rattle.std.specs.FinMap.{FinMap, get, contains_key}
use Rattle.judy_model.specs.Keys.{word_order, byte_order}
use Rattle.judy_model.specs.Nearest.{IsLeast}
use Rattle.judy_model.specs.Neighbours.{first, next, last, prev}
use Rattle.judy_sl.specs.declared.scans.Side.{Side}
use Rattle.judy_sl.specs.declared.scans.Side.TheVariants.{Above, Below}
use Rattle.judy_sl.specs.declared.scans.Look.{Look}
use Rattle.judy_sl.specs.declared.scans.Turn.{Turn}
use Rattle.judy_sl.specs.declared.scans.Scanned.{Scanned}
use Rattle.judy_sl.specs.Pieces.{AreInner, ArePieces, pieces, spelling}
use Rattle.judy_sl.specs.World.{World, level, lookup, walk}
use Rattle.judy_sl.specs.Ways.{seat_in, IsFound}
use Rattle.judy_sl.specs.Strings.{IsString}

-- The order of pieces from one side: what is met first comes first.
abbrev pub along : Side → ℕ → ℕ → Ordering
along Above = word_order
along Below = λ left right. word_order right left

-- The order of byte strings from one side.
abbrev pub along_bytes : Side → List ℕ → List ℕ → Ordering
along_bytes Above = byte_order
along_bytes Below = λ left right. byte_order right left

-- Whether what compares so is met: what comes later, and what is the same where that counts.
abbrev pub is_beyond : Bool → Ordering → Bool
is_beyond itself answer = if itself then is_le answer else is_lt answer

-- The entry of a level that is met first from a piece.
abbrev pub IsNearestEntry : Side → Bool → FinMap word_order ℕ → ℕ → Option ℕ → Type 0
IsNearestEntry side itself map from = IsLeast (along side) (λ piece. contains_key map piece && is_beyond itself (along side from piece))

-- The entry of a level that is met first of all.
abbrev pub IsFirstEntry : Side → FinMap word_order ℕ → Option ℕ → Type 0
IsFirstEntry side map = IsLeast (along side) (contains_key map)

-- A look to a side, where the key itself counts or doesn't.
abbrev pub look_to : Side → Bool → Look
look_to side itself = record { side = side; itself = itself }

-- A look above a key.
abbrev pub upward : Bool → Look
upward itself = look_to Above itself

-- The neighbour of a key on a side.
abbrev pub neighbour_along : Side → Bool → FinMap byte_order ℕ → List ℕ → Option (List ℕ)
neighbour_along Above true = first
neighbour_along Above false = next
neighbour_along Below true = last
neighbour_along Below false = prev

-- The value of the key that was found.
abbrev pub value_found : FinMap byte_order ℕ → Option (List ℕ) → Option ℕ
value_found map None = None
value_found map (Some key) = get map key

-- The neighbour, or where there is none, the key.
abbrev pub nearest_key : Look → FinMap byte_order ℕ → List ℕ → List ℕ
nearest_key look map key = unwrap_or (neighbour_along look.side look.itself map key) key

-- A buffer comes to begin with a key of that length, and has behind it what it had.
abbrev pub IsFront : List ℕ → List ℕ → ℕ → List ℕ → Type 0
IsFront key before len after = (len ≡ length key) × (after ≡ key ++ drop (length key) before)

-- The piece of an entry.
abbrev pub piece_in : Option (ℕ × ℕ) → Option ℕ
piece_in entry = option_map (λ entry. entry.0) entry

-- The entry is one of the level, a piece with its value.
abbrev pub IsEntryOf : FinMap word_order ℕ → Option (ℕ × ℕ) → Type 0
IsEntryOf map entry = IfSome entry (λ entry. get map entry.0 ≡ Some entry.1)

-- The turn at an entry where there is one, of the first level or that of a child, and else the turn before.
abbrev pub turn_or : Option ℕ → Option (ℕ × ℕ) → ℕ → Option Turn → Option Turn
turn_or child None depth turn = turn
turn_or child (Some entry) depth turn = Some (record { child = child; piece = entry.0; value = entry.1; depth = depth })

-- The value that was found.
abbrev pub value_in : Option Scanned → Option ℕ
value_in found = option_map (λ (one : Scanned). one.value) found

-- These bytes are a key, whose value stands at the place that was found.
abbrev pub StandsAt : World → List ℕ → Option Scanned → Type 0
StandsAt world key found = IfSome found (λ (one : Scanned). IsString key × IsFound world key one.place)

module _ (look : Look) (world : World) where
  -- Whether pieces are met from others.
  abbrev pub meets : List ℕ → List ℕ → Bool
  meets from ps = is_beyond look.itself (slice_cmp (along look.side) from ps)

  -- No key behind a seat is met from the pieces.
  abbrev pub IsNone : ℕ → List ℕ → Type 0
  IsNone seat from = (ps : List ℕ) (value : ℕ) → ArePieces ps → lookup world seat ps ≡ Some value → IsFalse (meets from ps)

  -- Of the keys behind a seat these pieces are met first from the others.
  pub record IsNear (seat : ℕ) (from near : List ℕ) : Type 0 where
    pub are : ArePieces near
    pub met : IsTrue (meets from near)
    pub value : ℕ
    pub found : lookup world seat near ≡ Some value
    pub first : (ps : List ℕ) (value : ℕ) → ArePieces ps → lookup world seat ps ≡ Some value → IsTrue (meets from ps) → IsTrue (is_le (slice_cmp (along look.side) near ps))

  -- Of the keys behind an entry of a seat these pieces are met first.
  pub record IsEnd (seat piece : ℕ) (rest : List ℕ) : Type 0 where
    pub are : ArePieces (piece ∷ rest)
    pub value : ℕ
    pub found : lookup world seat (piece ∷ rest) ≡ Some value
    pub first : (ps : List ℕ) (value : ℕ) → ArePieces (piece ∷ ps) → lookup world seat (piece ∷ ps) ≡ Some value → IsTrue (is_le (slice_cmp (along look.side) rest ps))

  -- A turn is at an entry of the level of a seat, behind the front of a key, eight bytes a piece, and the first of the keys
  -- behind that entry is met first of all.
  pub record IsTurnAt (key : List ℕ) (seat piece value depth : ℕ) : Type 0 where
    pub front : List ℕ
    pub way : walk world 0 front ≡ Some seat
    pub inner : AreInner front
    pub deep : take depth key ≡ spelling front
    pub long : depth ≡ 8 * length front
    pub within : depth ≤ length key
    pub parts : (next : ℕ) × (rest : List ℕ) × (pieces key ≡ front ++ next ∷ rest)
    pub map : FinMap word_order ℕ
    pub is_level : world seat ≡ level map
    pub held : get map piece ≡ Some value
    pub near : (rest : List ℕ) → IsEnd seat piece rest → IsNear 0 (pieces key) (front ++ piece ∷ rest)

  -- The turn is there.
  abbrev pub IsTurnOf : List ℕ → Turn → Type 0
  IsTurnOf key turn = IsTurnAt key (seat_in turn.child) turn.piece turn.value turn.depth

  -- There is a turn, or no key is met.
  abbrev pub IsTurn : List ℕ → Option Turn → Type 0
  IsTurn key None = IsNone 0 (pieces key)
  IsTurn key (Some turn) = IsTurnOf key turn

  -- A scan leaves the key that is met first, and answers its value; or none is met, and the key stays.
  abbrev pub IsNeighbour : List ℕ → List ℕ → Option ℕ → Type 0
  IsNeighbour key after None = IsNone 0 (pieces key) × (after ≡ key)
  IsNeighbour key after (Some value) = IsNear 0 (pieces key) (pieces after) × IsString after × (lookup world 0 (pieces after) ≡ Some value)

  -- The same with the place at which that key stands.
  abbrev pub IsScanned : List ℕ → Option Scanned → List ℕ → Type 0
  IsScanned key found after = IsNeighbour key after (value_in found) × StandsAt world after found

  -- A writer has the bytes of a key before the turn.
  pub record IsBegun (turn : Turn) {W : Type 0} (has : W → List ℕ → Type 0) (writer : W) (key : List ℕ) : Type 0 where
    pub at : IsTurnOf key turn
    pub given : has writer (take turn.depth key)
