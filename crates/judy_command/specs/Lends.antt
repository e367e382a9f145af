-- How a command's array is lent.
use Rattle.std.specs.Prelude.{◌≡◌, ℕ, List, Result, Ok, Err}
use Rattle.std.specs.Borrow.{Fml, MutBor, LendsSoOk}
use Rattle.judy_model.specs.Arrays.{ArrayValue}
use Rattle.judy_model.specs.Replies as model
use Rattle.judy_model.specs.Stores.{Store, with_array}
use Rattle.judy_model.specs.Commands.{◌>>=◌, name_at, array_at}
use Rattle.judy_shelf.specs.declared.array.Array.{Array}
use Rattle.judy_shelf.specs.Arrays.{value_of}
use Rattle.judy_shelf.specs.Shelves.{Entries}
use Rattle.judy_shelf.specs.contracts.shelf.Shelf as shelf
use Rattle.judy_shelf.specs.contracts.array.Array as array
use Rattle.judy_command.specs.declared.reply.Refusal.{Refusal}
use Rattle.judy_command.specs.Replies.{refusal_of}

-- The array of a store that a token names, or why there is none.
abbrev pub named : Store → List ℕ → Result ArrayValue model.Refusal
named store token = name_at token >>= array_at store

-- What was lent, as the definitions see it.
abbrev pub lent_array : Result (MutBor Array) Refusal → Result ArrayValue model.Refusal
lent_array (Ok array) = Ok (value_of array.now)
lent_array (Err refusal) = Err (refusal_of refusal)

-- The array of that name is lent, and whatever it becomes stands in its place; where the name is refused,
-- the shelf is unchanged.
abbrev pub LendsNamed : MutBor Entries → List ℕ → Result (MutBor Array) Refusal → Fml
LendsNamed entries name lent =
    LendsSoOk shelf.the_row array.the_row entries lent (λ after array. after ≡ with_array entries.now name array) (λ after. after ≡ entries.now)
