-- Each handle of C as what it holds, and back: they have the same word and the same array.
use Rattle.judy_c.specs.Owned.{judyhs_row}
use Rattle.judy_c.specs.declared.held.Held.{Held}
use Rattle.judy_c.specs.declared.set.Set.{Set}
use Rattle.judy_c.specs.declared.map.Map.{Map}
use Rattle.judy_c.specs.declared.strings.Strings.{Strings}
use Rattle.judy_c.specs.declared.bytes.Bytes.{Bytes}
use Rattle.judy_word.specs.Rows.{judy1_row, judyl_row}
use Rattle.judy_sl.specs.Rows.{long_strings_row}

-- Of a set: what it holds, and the handle that holds that.
abbrev pub held_by_set : Set → Held judy1_row.Denot
held_by_set handle = record { at = handle.at; array = handle.array }

abbrev pub as_set : Held judy1_row.Denot → Set
as_set held = record { at = held.at; array = held.array }

-- Of a map from words.
abbrev pub held_by_map : Map → Held judyl_row.Denot
held_by_map handle = record { at = handle.at; array = handle.array }

abbrev pub as_map : Held judyl_row.Denot → Map
as_map held = record { at = held.at; array = held.array }

-- Of a map from strings.
abbrev pub held_by_strings : Strings → Held long_strings_row.Denot
held_by_strings handle = record { at = handle.at; array = handle.array }

abbrev pub as_strings : Held long_strings_row.Denot → Strings
as_strings held = record { at = held.at; array = held.array }

-- Of a map from byte strings.
abbrev pub held_by_bytes : Bytes → Held judyhs_row.Denot
held_by_bytes handle = record { at = handle.at; array = handle.array }

abbrev pub as_bytes : Held judyhs_row.Denot → Bytes
as_bytes held = record { at = held.at; array = held.array }
