-- Keys that are read into a buffer.
use Rattle.std.specs.Prelude.{ℕ, List, Option, Result, Ok, Err, ok_or}
use Rattle.judy_model.specs.KeyTokens.{is_bytes_key, passing}
use Rattle.judy_model.specs.Replies as model
use Rattle.judy_command.specs.declared.reply.Refusal.{Refusal}
use Rattle.judy_command.specs.Replies.{refusal_of}

-- What was read, as the definitions see it: what the buffer holds, or why there is no key.
abbrev pub read_into : Result (Unit {0}) Refusal → List ℕ → Result (List ℕ) model.Refusal
read_into (Ok done) key = Ok key
read_into (Err refusal) key = Err (refusal_of refusal)

-- The key that was said, if it is short enough for one, or that there is none.
abbrev pub key_or_refusal : Option (List ℕ) → Result (List ℕ) model.Refusal
key_or_refusal said = ok_or (passing is_bytes_key said) model.bad_key
