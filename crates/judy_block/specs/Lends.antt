-- What the cells are, once a `&mut` into them has ended.
use Rattle.std.specs.Prelude.{ℕ, List, ◌++◌, take, drop, slice_set}
use Rattle.std.specs.Borrow.{Fml, MutBor, Array, Lends, u64}
use Rattle.std.specs.List.{refill}
use Rattle.judy_block.specs.declared.cells.Cells.{Cells}
use Rattle.judy_block.specs.contracts.cells.Cells.{the_row}

-- The same pointer with other words behind it.
abbrev pub with_items : Cells → List ℕ → Cells
with_items cells words = record cells { items = words }

-- The first n words are those last written through the slice, and the rest stay.
abbrev pub lends_front : MutBor Cells → ℕ → MutBor (List ℕ) → Fml
lends_front cells n slice = let words = cells.now.items in
    Lends the_row (Array u64 0) cells slice (λ front. with_items cells.now (refill n (take n words) front ++ drop n words))

-- The word i is the one last written through the slot, and the rest stay.
abbrev pub lends_word : MutBor Cells → ℕ → MutBor ℕ → Fml
lends_word cells i slot = Lends the_row u64 cells slot (λ word. with_items cells.now (slice_set cells.now.items i word))
