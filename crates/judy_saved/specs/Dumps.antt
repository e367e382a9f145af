-- The text of the store of one array, with the most keys that a dump lets it hold.
use Rattle.std.specs.Prelude.{◌≡◌, ℕ, ◌<◌, ◌≤◌, Bool, true, false, nat_le, List, [], ◌∷◌, ◌++◌, length, Result, Ok, Err}
use Rattle.std.specs.List.{list_all}
use Rattle.std.specs.FinMap.{FinMap, len, entries}
use Rattle.judy_model.specs.Keys.{word_order, byte_order}
use Rattle.judy_model.specs.WordBytes.{low_bytes}
use Rattle.judy_model.specs.Arrays.{ArrayValue, judy1, judyl, judysl, judyhs}
use Rattle.judy_model.specs.DumpText as text
use Rattle.judy_model.specs.DumpText.{Version, dump_of, entries_by, length_order}
use Rattle.judy_model.specs.declared.keys.TheConstants.{LONGEST_KEY}
use Rattle.judy_saved.specs.declared.dumps.SaveError.{SaveError}
use Rattle.judy_saved.specs.declared.dumps.SaveError.TheVariants.{TooMany, NoMemory, LongKey}
use Rattle.judy_saved.specs.Rooms.{IsSaved}

-- The most keys that a dump lets an array hold.
abbrev pub most : ℕ
most = 4294967295

-- The dump of the store that has this array alone.
abbrev pub text_alone : Version → List ℕ → ArrayValue → List ℕ
text_alone version name array = dump_of version ((name, array) ∷ [])

abbrev pub set_text : Version → List ℕ → FinMap word_order ℕ → List ℕ
set_text version name map = text_alone version name (judy1 (record { limit = most; map = map }))

abbrev pub map_text : Version → List ℕ → FinMap word_order ℕ → List ℕ
map_text version name map = text_alone version name (judyl (record { limit = most; map = map }))

abbrev pub strings_text : Version → List ℕ → FinMap byte_order ℕ → List ℕ
strings_text version name map = text_alone version name (judysl (record { limit = most; map = map }))

abbrev pub bytes_text : Version → List ℕ → FinMap byte_order ℕ → List ℕ
bytes_text version name map = text_alone version name (judyhs (record { limit = most; map = map }))

-- What stands before the keys: the format's name, that it is one array, its name, its kind, its limit, and how many keys follow.
abbrev pub head_text : Version → List ℕ → ℕ → ℕ → List ℕ
head_text version name kind count =
    (text.magic version ++ low_bytes 4 1) ++ (text.name_text name ++ low_bytes 1 kind ++ text.word most ++ text.word count)

-- A byte string with its value.
abbrev pub entry_text : List ℕ × ℕ → List ℕ
entry_text entry = text.string entry.0 ++ text.word entry.1

-- No key of these entries has more bytes than a dump can say.
abbrev pub is_short : List (List ℕ × ℕ) → Bool
is_short pairs = list_all (λ entry. nat_le (length entry.0) LONGEST_KEY) pairs

-- A dump that is asked for: its text, how many keys it has, whether none of them is longer than a dump can say, and whether they are sorted first,
-- which takes memory.
pub record Dump : Type 0 where
  pub text : List ℕ
  pub count : ℕ
  pub short : Bool
  pub sorts : Bool

abbrev pub set_dump : Version → List ℕ → FinMap word_order ℕ → Dump
set_dump version name map = record { text = set_text version name map; count = len map; short = true; sorts = false }

abbrev pub map_dump : Version → List ℕ → FinMap word_order ℕ → Dump
map_dump version name map = record { text = map_text version name map; count = len map; short = true; sorts = false }

abbrev pub strings_dump : Version → List ℕ → FinMap byte_order ℕ → Dump
strings_dump version name map = record { text = strings_text version name map; count = len map; short = is_short (entries map); sorts = false }

abbrev pub bytes_dump : Version → List ℕ → FinMap byte_order ℕ → Dump
bytes_dump version name map = record { text = bytes_text version name map; count = len map; short = is_short (entries_by length_order map); sorts = true }

-- Why it isn't made: there are more keys than a dump can say; or there aren't, and there is no memory to sort them, or one is too long. So of words no
-- other error comes than the first, and of strings want of memory never does.
abbrev pub IsUnsaid : Dump → SaveError → Type 0
IsUnsaid dump TooMany = most < dump.count
IsUnsaid dump NoMemory = (dump.count ≤ most) × (dump.sorts ≡ true)
IsUnsaid dump LongKey = (dump.count ≤ most) × (dump.short ≡ false)

-- Its size is told, and it is written where it fits; or it isn't made, and the room is as it was.
abbrev pub IsDumped : Dump → List ℕ → Result ℕ SaveError → List ℕ → Type 0
IsDumped dump before (Ok size) after = (dump.count ≤ most) × (dump.short ≡ true) × IsSaved dump.text before size after
IsDumped dump before (Err fault) after = IsUnsaid dump fault × (after ≡ before)
