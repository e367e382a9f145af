-- What C holds.
use Rattle.std.specs.Prelude.{Option, Some, None}
use base.Fml.{Fml, ftrue, ffalse}
use base.Stored.{Coded}
use denote.RattleType.{RattleType}
use denote.RawPtr.{Ptr, block_ptr, null_ptr}
use Rattle.std.specs.Box.Ownership.{box_owns}
use Rattle.std.specs.Global.{Global}
use Rattle.std.specs.Coded.{coded_option}
use Rattle.std_heap.specs.contracts.GlobalAllocator.TheImpl.{ghosts}
use Rattle.judy_word.specs.Rows.{judy1_row, judyl_row}
use Rattle.judy_sl.specs.Rows.{long_strings_row}
use Rattle.judy_hs.specs.contracts.judyhs.JudyHs as judyhs
use Rattle.judy_hs.specs.contracts.hash.Eights as eights
use Rattle.judy_hs.specs.contracts.hash.EightsByteHash.TheImpl as hash

-- The heap that the boxes are from.
abbrev pub heap : Global
heap = record { memory = record { seal = tt } }

-- A null pointer holds no array; any other is that of a box of one, which the handle owns.
abbrev pub held : (R : RattleType) → Ptr → Option R.Denot → Fml
held R null_ptr None = ftrue
held R null_ptr (Some x) = ffalse
held R (block_ptr b o) None = ffalse
held R (block_ptr b o) (Some x) = box_owns (ghosts.dealloc_token heap) R (block_ptr b o) x

-- Of a map from words: what its handle owns, and the code of what it holds.
abbrev pub held_judyl : Ptr → Option judyl_row.Denot → Fml
held_judyl = held judyl_row

abbrev pub map_coded : Coded (Option judyl_row.Denot)
map_coded = coded_option judyl_row.coded

-- The same of a set.
abbrev pub held_judy1 : Ptr → Option judy1_row.Denot → Fml
held_judy1 = held judy1_row

abbrev pub set_coded : Coded (Option judy1_row.Denot)
set_coded = coded_option judy1_row.coded

-- The same of a map from strings.
abbrev pub held_judysl : Ptr → Option long_strings_row.Denot → Fml
held_judysl = held long_strings_row

abbrev pub strings_coded : Coded (Option long_strings_row.Denot)
strings_coded = coded_option long_strings_row.coded

-- An array over byte strings, under the hash `Eights`.
abbrev pub judyhs_row : RattleType
judyhs_row = judyhs.the_row eights.the_row hash.ghosts

-- The same of a map from byte strings.
abbrev pub held_judyhs : Ptr → Option judyhs_row.Denot → Fml
held_judyhs = held judyhs_row

abbrev pub bytes_coded : Coded (Option judyhs_row.Denot)
bytes_coded = coded_option judyhs_row.coded
