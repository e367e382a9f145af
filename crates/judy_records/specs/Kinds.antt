-- Which pages of a list have a free place, by their numbers.
use Rattle.std.specs.Prelude.{◌≡◌, ◌≢◌, ◌<◌, ◌+◌, ℕ, List, [], length, get_or, Option, None, Some}

-- A page whose places are all taken; one with a record and with a free place; and one without a record, whose memory has gone back.
pub data Kind : Type 0 where
  full : Kind
  roomy : Kind
  gone : Kind

-- The pages: of which kind each is, which roomy one is filled next, and which gone one is taken next where none is roomy.
pub record Kinds : Type 0 where
  pub kinds : List Kind
  pub next_roomy : Option ℕ
  pub next_gone : Option ℕ

abbrev pub kind_of : Kinds → ℕ → Kind
kind_of all number = get_or all.kinds number gone

-- No pages.
abbrev pub no_kinds : Kinds
no_kinds = record { kinds = []; next_roomy = None; next_gone = None }

-- The next one is of its kind, and where there is no next one, no page is of it.
pub record IsNextOf (all : Kinds) (next : Option ℕ) (kind : Kind) : Type 0 where
  pub some : (number : ℕ) → next ≡ Some number → (number < length all.kinds) × (kind_of all number ≡ kind)
  pub none : next ≡ None → (number : ℕ) → number < length all.kinds → kind_of all number ≢ kind

pub record AreKnown (all : Kinds) : Type 0 where
  pub next_roomy : IsNextOf all all.next_roomy roomy
  pub next_gone : IsNextOf all all.next_gone gone

-- A page is spare: it has a free place, and another one is filled before it.
pub record IsSpare (all : Kinds) (number : ℕ) : Type 0 where
  pub is_roomy : kind_of all number ≡ roomy
  pub later : all.next_roomy ≢ Some number

-- One page is of another kind then, and all others are what they were.
pub record IsMoved (before after : Kinds) (number : ℕ) (kind : Kind) : Type 0 where
  pub known : AreKnown after
  pub long : length after.kinds ≡ length before.kinds
  pub here : kind_of after number ≡ kind
  pub elsewhere : (other : ℕ) → other ≢ number → kind_of after other ≡ kind_of before other

-- There is a page more, a full one.
pub record IsLonger (before after : Kinds) : Type 0 where
  pub known : AreKnown after
  pub long : length after.kinds ≡ length before.kinds + 1
  pub here : kind_of after (length before.kinds) ≡ full
  pub elsewhere : (other : ℕ) → other < length before.kinds → kind_of after other ≡ kind_of before other

-- The last page, one that had gone, is no longer there.
pub record IsShorter (before after : Kinds) : Type 0 where
  pub known : AreKnown after
  pub long : length before.kinds ≡ length after.kinds + 1
  pub last : kind_of before (length after.kinds) ≡ gone
  pub elsewhere : (other : ℕ) → other < length after.kinds → kind_of after other ≡ kind_of before other

-- Each page is of its kind, whichever is next.
pub record AreAlike (before after : Kinds) : Type 0 where
  pub known : AreKnown after
  pub long : length after.kinds ≡ length before.kinds
  pub each : (number : ℕ) → kind_of after number ≡ kind_of before number

-- Which page is taken next: a roomy one, or else a gone one.
abbrev pub first_of : Option ℕ → Option ℕ → Option ℕ
first_of None other = other
first_of (Some number) other = Some number
