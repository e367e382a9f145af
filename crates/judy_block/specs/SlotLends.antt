-- What a block is, once a `&mut` to one of its words has ended.
use Rattle.std.specs.Prelude.{ℕ, slice_set}
use Rattle.std.specs.Borrow.{Fml, MutBor, Lends, u64}
use Rattle.judy_block.specs.Contents.{Contents}
use Rattle.judy_block.specs.contracts.block.Block.{the_row}

-- The word i is the one last written through the slot, and all else stays.
abbrev pub lends_slot : MutBor Contents → ℕ → MutBor ℕ → Fml
lends_slot block i slot = Lends the_row u64 block slot (λ word. record block.now { words = slice_set block.now.words i word })
