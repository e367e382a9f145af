-- Words that are no keys, beside runs of words that all are.
use Rattle.std.specs.Prelude.{◌≡◌, ℕ, ◌+◌, ◌-◌, ◌*◌, ◌^◌, ◌<◌, ◌≤◌, IsTrue, IsFalse, Option, Some, None, MatchOption, length, slice_get}
use Rattle.std.specs.FinMap.{FinMap}
use Rattle.judy_model.specs.Keys.{word_order}
use Rattle.judy_model.specs.Empties.{first_empty, last_empty}
use Rattle.judy_model.specs.WordBytes.{number_of}
use Rattle.judy_bits.specs.ByteSets.{has, rank}
use Rattle.judy_leaf.specs.KeyLists.{keys_of, shift}
use Rattle.judy_node.specs.Trees.{Pairs, Tree, IsChild, branch_pairs}
use Rattle.judy_node.specs.Branches.{IsWholeBranch}
use Rattle.judy_query.specs.declared.rooms.Room.{Room}
use Rattle.judy_query.specs.declared.rooms.Room.TheVariants.{Nowhere, At, In}
use Rattle.judy_query.specs.declared.sides.Side.{Side}
use Rattle.judy_query.specs.declared.sides.Side.TheVariants.{Up, Down}
use Rattle.judy_query.specs.declared.turns.Turn.{Turn}

-- Each word from one up to another, which isn't included, is a key.
pub record IsRun (pairs : Pairs) (from to : ℕ) : Type 0 where
  pub rising : from ≤ to
  pub held : (word : ℕ) → from ≤ word → word < to → IsTrue (has (keys_of pairs) word)

-- The first word from one on and below another that is no key; none where all of them are keys.
abbrev pub IsFirstAbsent : Pairs → ℕ → ℕ → Option ℕ → Type 0
IsFirstAbsent pairs from top None = IsRun pairs from top
IsFirstAbsent pairs from top (Some word) = (word < top) × IsRun pairs from word × IsFalse (has (keys_of pairs) word)

-- The last such word.
abbrev pub IsLastAbsent : Pairs → ℕ → ℕ → Option ℕ → Type 0
IsLastAbsent pairs from top None = IsRun pairs from top
IsLastAbsent pairs from top (Some word) = (from ≤ word) × IsRun pairs (word + 1) top × IsFalse (has (keys_of pairs) word)

-- Of the words from a base on, so many, those are keys that are keys of other pairs, the base taken away.
pub record IsWindow (all : Pairs) (base unit : ℕ) (pairs : Pairs) : Type 0 where
  pub same : (word : ℕ) → word < unit → has (keys_of all) (base + word) ≡ has (keys_of pairs) word

-- A child with keys of a width stands from a word on, and isn't full.
pub record HasRoom (words : ℕ) (all : Pairs) (kid : Tree) (width start : ℕ) : Type 0 where
  pub child : IsChild words width kid
  pub narrow : width ≤ 7
  pub window : IsWindow all start (256 ^ width) kid.pairs
  pub room : length kid.pairs < 256 ^ width

-- A room that is in a child is in one with keys of a width.
abbrev pub HasWidth : {V : _} → ℕ → Room V → Type 0
HasWidth wide Nowhere = Unit {0}
HasWidth wide (At word) = Unit {0}
HasWidth wide (In child width start) = width ≡ wide

-- Where the first word is that is no key, from one word on and below another.
abbrev pub IsRoomFrom : {V : _} → ℕ → Pairs → ℕ → ℕ → Room V → Type 0
IsRoomFrom words all from top Nowhere = IsRun all from top
IsRoomFrom words all from top (At word) = (word < top) × IsRun all from word × IsFalse (has (keys_of all) word)
IsRoomFrom words all from top (In child width start) = (start + 256 ^ width ≤ top) × IsRun all from start × HasRoom words all child.now width start

-- Where the last such word is.
abbrev pub IsRoomUpTo : {V : _} → ℕ → Pairs → ℕ → ℕ → Room V → Type 0
IsRoomUpTo words all from top Nowhere = IsRun all from top
IsRoomUpTo words all from top (At word) = (from ≤ word) × IsRun all (word + 1) top × IsFalse (has (keys_of all) word)
IsRoomUpTo words all from top (In child width start) = (from ≤ start) × IsRun all (start + 256 ^ width) top × HasRoom words all child.now width start

-- A word, or nowhere where there is none.
abbrev pub room_of : {V : _} → Option ℕ → Room V
room_of None = Nowhere
room_of (Some word) = At word

-- A room or, where that is nowhere, one of which something holds.
abbrev pub OrElse : {V : _} → Room V → (Room V → Type 0) → Room V → Type 0
OrElse Nowhere Holds room = Holds room
OrElse (At word) Holds room = room ≡ At word
OrElse (In child width start) Holds room = room ≡ In child width start

-- ---- in a branch

-- A turn is to a place in a branch, before which are just the children below its edge; the branch's words begin at a base.
pub record IsEdge {V : _} (words : ℕ) (turn : Turn V) : Type 0 where
  pub branch : IsWholeBranch words turn.branch.now
  pub edge : turn.edge ≤ 256
  pub place : turn.place ≡ rank turn.branch.now.bytes turn.edge
  pub fits : turn.base + 256 ^ (length turn.branch.now.skip + 1 + turn.branch.now.width) ≤ 2 ^ 64

-- The pairs of that branch, as the tree has them.
abbrev pub branch_words : {V : _} → Turn V → Pairs
branch_words turn = shift turn.base (branch_pairs turn.branch.now.width turn.branch.now.skip turn.branch.now.bytes turn.branch.now.children.items)

-- The first word of the block of its edge, or the one behind all blocks.
abbrev pub edge_word : {V : _} → Turn V → ℕ
edge_word turn = turn.base + (number_of turn.branch.now.skip * 256 + turn.edge) * 256 ^ turn.branch.now.width

-- The word behind all of the branch.
abbrev pub words_end : {V : _} → Turn V → ℕ
words_end turn = turn.base + 256 ^ (length turn.branch.now.skip + 1 + turn.branch.now.width)

-- ---- on either side

-- The words from a key on, on one side and below a top, begin here.
abbrev pub low_of : Side → ℕ → ℕ
low_of Up key = key
low_of Down key = 0

-- And they end below this one.
abbrev pub high_of : Side → ℕ → ℕ → ℕ
high_of Up key top = top
high_of Down key top = key + 1

-- Which of so many words is met first.
abbrev pub end_of : Side → ℕ → ℕ
end_of Up unit = 0
end_of Down unit = unit - 1

-- The first word on one side, from one word on and below another, that is no key; none where all of them are keys.
abbrev pub IsAbsent : Side → Pairs → ℕ → ℕ → Option ℕ → Type 0
IsAbsent Up pairs from top answer = IsFirstAbsent pairs from top answer
IsAbsent Down pairs from top answer = IsLastAbsent pairs from top answer

-- Where that word is.
abbrev pub IsRoom : {V : _} → Side → ℕ → Pairs → ℕ → ℕ → Room V → Type 0
IsRoom Up words all from top room = IsRoomFrom words all from top room
IsRoom Down words all from top room = IsRoomUpTo words all from top room

-- The same past a block of so many words.
abbrev pub IsRoomPast : {V : _} → Side → ℕ → Pairs → ℕ → ℕ → ℕ → ℕ → Room V → Type 0
IsRoomPast Up words all from top start unit room = IsRoomFrom words all (start + unit) top room
IsRoomPast Down words all from top start unit room = IsRoomUpTo words all from start room

-- A turn is to a child that was passed by: its edge is the child's own byte, and its branch's words begin at a base.
pub record IsPassed {V : _} (words : ℕ) (passed : Turn V) : Type 0 where
  pub branch : IsWholeBranch words passed.branch.now
  pub child : slice_get passed.branch.now.bytes passed.place ≡ Some passed.edge
  pub small : passed.edge < 256
  pub fits : passed.base + 256 ^ (length passed.branch.now.skip + 1 + passed.branch.now.width) ≤ 2 ^ 64

-- A room of that branch is the nearest past the child.
abbrev pub IsRoomBeside : {V : _} → Side → ℕ → Turn V → Room V → Type 0
IsRoomBeside side words passed room = IsRoomPast side words (branch_words passed) passed.base (words_end passed) (edge_word passed) (256 ^ passed.branch.now.width) room

-- The nearest room past a child or, where its branch has none there, one of which something holds.
abbrev pub IsRoomOrElse : {V : _} → Side → ℕ → Turn V → (Room V → Type 0) → Room V → Type 0
IsRoomOrElse {V} side words passed Holds room = (past : Room V) × IsRoomBeside side words passed past × OrElse past Holds room

-- The nearest room past a child, where one was passed, or else another one.
abbrev pub IsNearestRoom : {V : _} → Side → ℕ → Option (Turn V) → Room V → Room V → Type 0
IsNearestRoom side words None beside room = room ≡ beside
IsNearestRoom {V} side words (Some passed) beside room = IsRoomOrElse side words passed (λ (other : Room V). other ≡ beside) room

-- The nearest room past a child or, where its branch has none there, past the one that was passed above it.
abbrev pub IsFirstRoom : {V : _} → Side → ℕ → Turn V → Option (Turn V) → Room V → Room V → Type 0
IsFirstRoom {V} side words passed above beside room = IsRoomOrElse side words passed (λ (other : Room V). IsNearestRoom side words above beside other) room

-- Turns are to children that were passed by, the second where there is one.
abbrev pub ArePassed : {V : _} → ℕ → Turn V → Option (Turn V) → Type 0
ArePassed words passed above = IsPassed words passed × MatchOption above (Unit {0}) (IsPassed words)

-- The nearest word from a key on that is no key of a map.
abbrev pub nearest_empty : Side → FinMap word_order ℕ → ℕ → Option ℕ
nearest_empty Up map key = first_empty map key
nearest_empty Down map key = last_empty map key
