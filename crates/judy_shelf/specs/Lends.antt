-- How a shelf lends one of its arrays.
use Rattle.std.specs.Prelude.{◌≡◌, ℕ, List, Option}
use Rattle.std.specs.Borrow.{Fml, MutBor, LendsSo}
use Rattle.judy_model.specs.Stores.{with_array}
use Rattle.judy_shelf.specs.declared.array.Array.{Array}
use Rattle.judy_shelf.specs.Shelves.{Entries}
use Rattle.judy_shelf.specs.contracts.shelf.Shelf as shelf
use Rattle.judy_shelf.specs.contracts.array.Array as array

-- The array of that name is lent, and whatever it becomes stands in its place; where no array has the name,
-- the shelf is unchanged.
abbrev pub LendsNamed : MutBor Entries → List ℕ → Option (MutBor Array) → Fml
LendsNamed entries name lent =
    LendsSo shelf.the_row array.the_row entries lent (λ after array. after ≡ with_array entries.now name array) (λ after. after ≡ entries.now)
