-- The code's replies as those of the definitions.
use Rattle.std.specs.Prelude.{ℕ, List, Option, Some, None, Result, Ok, Err}
use Rattle.judy_model.specs.Stores.{Store}
use Rattle.judy_model.specs.Replies as model
use Rattle.judy_command.specs.declared.reply.Answer.{Answer}
use Rattle.judy_command.specs.declared.reply.Answer.TheVariants.{Done, Was, Flag, Number, Entry, StringEntry, Freed, Nothing}
use Rattle.judy_command.specs.declared.reply.Refusal.{Refusal}
use Rattle.judy_command.specs.declared.reply.Refusal.TheVariants.{LineTooLong, UnknownCommand, ArgumentCount, BadName, NoSuchArray, WrongKind, BadWord, BadKey, BadLimit, Exists}
use Rattle.judy_command.specs.declared.reply.Refusal.TheVariants.{TooManyArrays, Full, NoMemory}
use Rattle.judy_command.specs.declared.reply.LineReply.{LineReply}
use Rattle.judy_command.specs.declared.reply.LineReply.TheVariants.{Silent, Listed, Said}

-- A refusal.
abbrev pub refusal_of : Refusal → model.Refusal
refusal_of LineTooLong = model.line_too_long
refusal_of UnknownCommand = model.unknown_command
refusal_of ArgumentCount = model.argument_count
refusal_of BadName = model.bad_name
refusal_of NoSuchArray = model.no_such_array
refusal_of WrongKind = model.wrong_kind
refusal_of BadWord = model.bad_word
refusal_of BadKey = model.bad_key
refusal_of BadLimit = model.bad_limit
refusal_of Exists = model.exists
refusal_of TooManyArrays = model.too_many_arrays
refusal_of Full = model.full
refusal_of NoMemory = model.no_memory

-- An answer; the key of a `StringEntry` is what its buffer holds.
abbrev pub answer_of : Answer → model.Answer
answer_of Done = model.done
answer_of (Was value) = model.was value
answer_of (Flag holds) = model.flag holds
answer_of (Number value) = model.number value
answer_of (Entry key value) = model.entry key value
answer_of (StringEntry key value) = model.string_entry key.now.items value
answer_of (Freed count) = model.freed count
answer_of Nothing = model.nothing

-- A result of the code with its refusal as the definitions name it.
abbrev pub checked : {A : Type 0} → Result A Refusal → Result A model.Refusal
checked (Ok value) = Ok value
checked (Err refusal) = Err (refusal_of refusal)

-- The reply of a command.
abbrev pub reply_of : Result Answer Refusal → model.Reply
reply_of (Ok answer) = Ok (answer_of answer)
reply_of (Err refusal) = Err (refusal_of refusal)

-- The reply of a line that left this store.
abbrev pub line_reply_of : Store → LineReply → model.Reply
line_reply_of store Silent = Ok model.silent
line_reply_of store Listed = Ok (model.listed store)
line_reply_of store (Said reply) = reply_of reply

-- The answer of a scan that leaves the key found in its buffer, and that key's value if there is one.
abbrev pub found_entry : Option ℕ → List ℕ → model.Answer
found_entry (Some value) key = model.string_entry key value
found_entry None key = model.nothing
