-- How the calls of C that dump an array to bytes, and load one of them, answer.
use Rattle.std.specs.Prelude.{◌≡◌, ◌≢◌, ℕ, zero, suc, ◌<◌, ◌≤◌, true, false, List, ◌++◌, length, drop, nat_le, if◌then◌else◌, Option, Some, None, Result, Ok, Err}
use Rattle.judy_model.specs.Keys.{byte_order}
use Rattle.judy_model.specs.Arrays.{ArrayOf, ArrayValue}
use Rattle.judy_model.specs.DumpText.{Version, jdy1, jdy2}
use Rattle.judy_model.specs.Tokens.{is_name}
use Rattle.judy_word.specs.WordArrays.{WordArray}
use Rattle.judy_shelf.specs.Ones.{set_with, map_with, strings_with, bytes_with}
use Rattle.judy_shelf.specs.declared.fault.LoadFault.{LoadFault}
use Rattle.judy_shelf.specs.declared.fault.LoadFault.TheVariants as load
use Rattle.judy_shelf.specs.declared.one.OneFault.{OneFault}
use Rattle.judy_shelf.specs.declared.one.OneFault.TheVariants.{Load, NotOne, OtherKind}
use Rattle.judy_saved.specs.Dumps.{Dump, IsUnsaid, most, set_dump, map_dump, strings_dump, bytes_dump}
use Rattle.judy_saved.specs.Loads.{IsLoadedOf, IsRefused}
use Rattle.judy_saved.specs.declared.dumps.SaveError.{SaveError}
use Rattle.judy_saved.specs.declared.dumps.SaveError.TheVariants.{TooMany, NoMemory, LongKey}
use Rattle.judy_c.specs.Sorted.{most_keys}
use Rattle.judy_c.specs.SortedStrings.{most_strings}

-- How arrays of a kind are saved: the dump of one in a format, under a name; the number that the kind has in dumps; an array with another limit, as
-- the definitions have it; and what holds of one that was loaded.
pub record SavedKind (Array : Type 0) : Type 1 where
  pub dump : Version → List ℕ → Array → Dump
  pub number : ℕ
  pub with_limit : ℕ → Array → ArrayValue
  pub IsNew : Array → Type 0

-- One of words may hold as many keys as there are words, but one, and its nodes are as small as its keys allow.
abbrev pub IsNewOfWords : WordArray → Type 0
IsNewOfWords array = (array.limit ≡ most_keys) × (array.loose ≡ false)

-- One of strings or of byte strings may hold the most keys.
abbrev pub IsNewOfBytes : ArrayOf byte_order → Type 0
IsNewOfBytes array = array.limit ≡ most_strings

abbrev pub saved_sets : SavedKind WordArray
saved_sets = record { dump = λ version name set. set_dump version name set.map; number = 1; with_limit = set_with; IsNew = IsNewOfWords }

abbrev pub saved_maps : SavedKind WordArray
saved_maps = record { dump = λ version name words. map_dump version name words.map; number = 2; with_limit = map_with; IsNew = IsNewOfWords }

abbrev pub saved_strings : SavedKind (ArrayOf byte_order)
saved_strings = record { dump = λ version name strings. strings_dump version name strings.map; number = 3; with_limit = strings_with; IsNew = IsNewOfBytes }

abbrev pub saved_bytes : SavedKind (ArrayOf byte_order)
saved_bytes = record { dump = λ version name bytes. bytes_dump version name bytes.map; number = 4; with_limit = bytes_with; IsNew = IsNewOfBytes }

-- ---- dumps

-- The number of a format. There are no others.
abbrev pub number_of_format : Version → ℕ
number_of_format jdy1 = 1
number_of_format jdy2 = 2

abbrev pub IsNoFormat : ℕ → Type 0
IsNoFormat format = (format ≢ 1) × (format ≢ 2)

-- What is the caller's: the bytes of its room, and where the size is told.
pub record Room : Type 0 where
  pub bytes : List ℕ
  pub size : ℕ

abbrev pub room_of : List ℕ → ℕ → Room
room_of bytes size = record { bytes = bytes; size = size }

-- What a dump is answered, and by which number.
pub data DumpAnswer : Type 0 where
  done : DumpAnswer
  no_memory : DumpAnswer
  bad_key : DumpAnswer
  too_small : DumpAnswer
  bad_name : DumpAnswer
  too_many : DumpAnswer
  bad_format : DumpAnswer

abbrev pub number_of : DumpAnswer → ℕ
number_of done = 1
number_of no_memory = 2
number_of bad_key = 4
number_of too_small = 5
number_of bad_name = 6
number_of too_many = 7
number_of bad_format = 9

-- What is answered of a dump by a call of judy_saved that was given so large a room, and the size that is told then.
abbrev pub answer_of : Result ℕ SaveError → ℕ → DumpAnswer
answer_of (Ok size) room = if nat_le size room then done else too_small
answer_of (Err TooMany) room = too_many
answer_of (Err NoMemory) room = no_memory
answer_of (Err LongKey) room = bad_key

abbrev pub size_told : Result ℕ SaveError → ℕ → ℕ
size_told (Ok size) before = size
size_told (Err fault) before = before

-- There are no more keys than a dump can say, and none that is longer.
abbrev pub CanBeSaid : Dump → Type 0
CanBeSaid dump = (dump.count ≤ most) × (dump.short ≡ true)

module _ (dump_of : Version → List ℕ → Dump) (format : ℕ) (name : List ℕ) where
  -- The format is known and the name is one, and of the dump that is asked for this holds.
  abbrev pub Asks : (Dump → Type 0) → Type 0
  Asks Holds = (version : Version) × (format ≡ number_of_format version) × (is_name name ≡ true) × Holds (dump_of version name)

  -- What each answer says: the first that applies of all but `done`, where want of memory comes before a key that is too long. The size is told at
  -- `done` and `too_small` alone, and at `done` alone a byte is written.
  abbrev pub Says : DumpAnswer → Room → Room → Type 0
  Says bad_format before after = IsNoFormat format × (after ≡ before)
  Says bad_name before after = (version : Version) × (format ≡ number_of_format version) × (is_name name ≡ false) × (after ≡ before)
  Says too_many before after = Asks (λ dump. IsUnsaid dump TooMany) × (after ≡ before)
  Says no_memory before after = Asks (λ dump. IsUnsaid dump NoMemory) × (after ≡ before)
  Says bad_key before after = Asks (λ dump. IsUnsaid dump LongKey) × (after ≡ before)
  Says too_small before after =
      Asks (λ dump. CanBeSaid dump × (after.size ≡ length dump.text) × (length before.bytes < after.size)) × (after.bytes ≡ before.bytes)
  Says done before after =
      Asks (λ dump. CanBeSaid dump × (after.size ≡ length dump.text) × (after.size ≤ length before.bytes) × (after.bytes ≡ dump.text ++ drop after.size before.bytes))

-- The dump of an array of a kind is asked for, and answered by a number.
abbrev pub IsDumpedBy : {Array : Type 0} → SavedKind Array → Array → ℕ → List ℕ → Room → ℕ → Room → Type 0
IsDumpedBy kind array format name before number after =
    (answer : DumpAnswer) × (number ≡ number_of answer) × Says (λ version name. kind.dump version name array) format name answer before after

-- ---- loads

-- The number by which a fault of bytes is told. There is none of want of memory, nor of a reader that fails: there is no reader.
abbrev pub number_of_load : LoadFault → Option ℕ
number_of_load load.Read = None
number_of_load load.Truncated = Some 1
number_of_load load.BadMagic = Some 2
number_of_load load.TooMany = Some 3
number_of_load load.BadName = Some 4
number_of_load load.SameName = Some 5
number_of_load load.BadKind = Some 6
number_of_load load.BadLimit = Some 7
number_of_load load.BadCount = Some 8
number_of_load load.BadKey = Some 9
number_of_load load.BadOrder = Some 10
number_of_load load.Trailing = Some 11
number_of_load load.NoMemory = None
number_of_load load.BadPrefix = Some 12

abbrev pub number_of_fault : OneFault → Option ℕ
number_of_fault (Load fault) = number_of_load fault
number_of_fault NotOne = Some 13
number_of_fault OtherKind = Some 14

-- 1: the bytes are the dump of a store that has the array alone, with some limit. 2: there is no memory behind a key count or an entry, before which the
-- bytes have no fault. 8: they are no such dump, and the number of the fault that they have is told. In these two cases the array is as it was,
-- as `same` says.
abbrev pub IsLoadedBy : {Array : Type 0} → SavedKind Array → List ℕ → Array → Type 0 → ℕ → ℕ → ℕ → Type 0
IsLoadedBy kind bytes array same before zero after = ⊥
IsLoadedBy kind bytes array same before (suc zero) after = IsLoadedOf (λ limit. kind.with_limit limit array) bytes × kind.IsNew array × (after ≡ before)
IsLoadedBy kind bytes array same before (suc (suc zero)) after = IsRefused kind.number bytes (Load load.NoMemory) × same × (after ≡ before)
IsLoadedBy kind bytes array same before (suc (suc (suc n))) after =
    (fault : OneFault) × IsRefused kind.number bytes fault × (number_of_fault fault ≡ Some after) × (suc (suc (suc n)) ≡ 8) × same
