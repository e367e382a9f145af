-- What a call of a pipe does to the bytes that it tells, and what a source keeps to.
use Rattle.std.specs.Prelude.{◌≡◌, ℕ, ◌-◌, ◌≤◌, ◌&&◌, ◌==◌, Bool, true, false, nat_lt, List, ◌++◌, length, take, Option, Some, None, Result, Ok, Err, option_map, IfSome}
use Rattle.std.specs.Result.{result_unwrap_or}
use Rattle.judy_pipe.specs.declared.tally.Tally.{Tally}

-- the bytes known so far with `bytes` after them; a pipe that tells nothing goes on telling nothing
abbrev pub grown : Option (List ℕ) → List ℕ → Option (List ℕ)
grown known bytes = option_map (λ before. before ++ bytes) known

-- the bytes known so far, but for the last of them, so many
abbrev pub without : Option (List ℕ) → ℕ → Option (List ℕ)
without known count = option_map (λ bytes. take (length bytes - count) bytes) known

-- the bytes that a call with this answer moved: a front of `bytes`, and none where it stopped
abbrev pub moved : {E : Type 0} → Result ℕ E → List ℕ → List ℕ
moved answer bytes = take (result_unwrap_or answer 0) bytes

-- what is known of the end after a read that gave it or not; a pipe that tells nothing of it goes on so
abbrev pub told : Option Bool → Bool → Option Bool
told known gives_end = option_map (λ _. gives_end) known

-- a read gives the end where it gives 0 bytes for a buffer of this length that is not empty
abbrev pub gave_end : {E : Type 0} → Result ℕ E → ℕ → Bool
gave_end (Ok n) room = n == 0 && nat_lt 0 room
gave_end (Err e) room = false

-- the bytes known so far grew by a front of `bytes`, perhaps none or all of them
abbrev pub GrewByFront : Option (List ℕ) → List ℕ → Option (List ℕ) → Type 0
GrewByFront old bytes new = (n : ℕ) × (n ≤ length bytes) × (new ≡ grown old (take n bytes))

-- the inner source of one that reads ahead gave what that one gave, and up to so many bytes more
abbrev pub IsAhead : ℕ → Option (List ℕ) → Option (List ℕ) → Type 0
IsAhead most given inner = (kept : List ℕ) × (length kept ≤ most) × (inner ≡ grown given kept)

-- `whole` begins with `front`
abbrev pub IsFront : List ℕ → List ℕ → Type 0
IsFront front whole = (rest : List ℕ) × (whole ≡ front ++ rest)

-- `whole` ends with `end`
abbrev pub IsEnd : List ℕ → List ℕ → Type 0
IsEnd end whole = (front : List ℕ) × (whole ≡ front ++ end)

-- a sink with a buffer took what the sink below took and then what stands in the buffer, and that is what it keeps behind
-- what the sink below keeps
abbrev pub IsBuffered : Option (List ℕ) → List ℕ → Option (List ℕ) → List ℕ → Type 0
IsBuffered taken kept below kept_below =
    (buffered : List ℕ) × (taken ≡ grown below buffered) × (kept ≡ kept_below ++ buffered)

-- of a source whose bytes are `whole`: it gave a front of them, and all of them once it gave the end
pub record GivesInOrder (whole : List ℕ) (given : Option (List ℕ)) (ended : Option Bool) : Type 0 where
  pub front : IfSome given (λ bytes. IsFront bytes whole)
  pub end : ended ≡ Some true → given ≡ Some whole

-- a source whose content is known gives it in order and then the end
abbrev pub GivesContent : Option (List ℕ) → Option (List ℕ) → Option Bool → Type 0
GivesContent None given ended = Unit {0}
GivesContent (Some whole) given ended = GivesInOrder whole given ended

-- a source that is known never to fail has no failure
abbrev pub NeverFails : Bool → Tally → Type 0
NeverFails false tally = Unit {0}
NeverFails true tally = tally.failures ≡ 0
