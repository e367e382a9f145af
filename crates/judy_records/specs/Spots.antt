-- What a list of records holds, place by place.
use Rattle.std.specs.Prelude.{◌≡◌, ◌<◌, ◌≤◌, ◌+◌, ◌*◌, ℕ, List, [], ◌∷◌, ◌++◌, length, get_or, set, nat_lt, cond}

-- What stands at a place: nothing; or a record, by its value and its text. Within a page a free place has the place that was the first free one
-- before it, and to callers always 0.
pub data Spot : Type 0 where
  free : ℕ → Spot
  held : ℕ → List ℕ → Spot

-- A record stands there.
abbrev pub IsHeld : Spot → Type 0
IsHeld (free next) = ⊥
IsHeld (held value text) = Unit {0}

-- The value that stands there.
abbrev pub value_of : Spot → ℕ
value_of (free next) = next
value_of (held value text) = value

-- The words of the text that stands there.
abbrev pub text_of : Spot → List ℕ
text_of (free next) = []
text_of (held value text) = text

-- Without the place that is linked.
abbrev pub unlinked : Spot → Spot
unlinked (free next) = free 0
unlinked (held value text) = held value text

-- A list of records: how many words of text each has, what stands at each place, the place that is taken next, and for how many words each page
-- has memory.
pub record RecordList : Type 0 where
  pub size : ℕ
  pub spots : List Spot
  pub next : ℕ
  pub memory : List ℕ

-- What stands at a place; past the end nothing.
abbrev pub spot_at : RecordList → ℕ → Spot
spot_at list place = get_or list.spots place (free 0)

-- The list without a record.
abbrev pub empty_list : ℕ → RecordList
empty_list size = record { size = size; spots = []; next = 0; memory = [] }

-- A list with another thing at a place.
abbrev pub with_spot : RecordList → ℕ → Spot → RecordList
with_spot list place spot = record list { spots = set list.spots place spot }

-- The same list with another value at a place.
abbrev pub with_value : RecordList → ℕ → ℕ → RecordList
with_value list place value = with_spot list place (held value (text_of (spot_at list place)))

-- Spots with another thing at a place within them, or at their end.
abbrev pub put_at : List Spot → ℕ → Spot → List Spot
put_at spots place spot = cond (nat_lt place (length spots)) (set spots place spot) (spots ++ spot ∷ [])

-- The place that is taken next: nothing stands there, and it is the end only where a record stands at each place. So no free place is lost.
pub record IsNext (spots : List Spot) (next : ℕ) : Type 0 where
  pub within : next ≤ length spots
  pub is_free : IsHeld (get_or spots next (free 0)) → ⊥
  pub last : next ≡ length spots → (place : ℕ) → place < length spots → IsHeld (get_or spots place (free 0))
