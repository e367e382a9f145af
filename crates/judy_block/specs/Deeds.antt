-- Which deed is whose.
use Rattle.std.specs.Prelude.{◌≡◌, length}
use Rattle.judy_block.specs.declared.cells.Cells.{Cells}
use Rattle.judy_block.specs.declared.cells.Deed.{Deed}

-- The deed is the right to give these cells' memory, all of it, back to this allocator.
abbrev pub IsDeedOf : {A : Type 0} → Deed A → A → Cells → Type 0
IsDeedOf deed alloc cells = (deed.alloc ≡ alloc) × (deed.at ≡ cells.head) × (deed.len ≡ length cells.items)
