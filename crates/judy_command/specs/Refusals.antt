-- The refusals of a shelf and of its arrays as those of a script.
use Rattle.judy_shelf.specs.declared.error.MakeError.{MakeError}
use Rattle.judy_shelf.specs.declared.error.MakeError.TheVariants as make
use Rattle.judy_word.specs.declared.error.InsertError.{InsertError}
use Rattle.judy_word.specs.declared.error.InsertError.TheVariants as word
use Rattle.judy_sl.specs.declared.error.SlError.{SlError}
use Rattle.judy_sl.specs.declared.error.SlError.TheVariants as strings
use Rattle.judy_hs.specs.declared.error.HsError.{HsError}
use Rattle.judy_hs.specs.declared.error.HsError.TheVariants as bytes
use Rattle.judy_command.specs.declared.reply.Refusal.{Refusal}
use Rattle.judy_command.specs.declared.reply.Refusal.TheVariants.{BadKey, BadLimit, Exists, TooManyArrays, Full, NoMemory}

-- Why a shelf makes no array.
abbrev pub refusal_of_make : MakeError → Refusal
refusal_of_make make.BadLimit = BadLimit
refusal_of_make make.Exists = Exists
refusal_of_make make.TooMany = TooManyArrays
refusal_of_make make.NoMemory = NoMemory

-- Why an array over words takes no key,
abbrev pub refusal_of_insert : InsertError → Refusal
refusal_of_insert word.Full = Full
refusal_of_insert word.NoMemory = NoMemory

-- one over strings,
abbrev pub refusal_of_strings : SlError → Refusal
refusal_of_strings strings.BadKey = BadKey
refusal_of_strings strings.Full = Full
refusal_of_strings strings.NoMemory = NoMemory

-- and one over byte strings, of which a key that is too long is none.
abbrev pub refusal_of_bytes : HsError → Refusal
refusal_of_bytes bytes.TooLong = BadKey
refusal_of_bytes bytes.Full = Full
refusal_of_bytes bytes.NoMemory = NoMemory
