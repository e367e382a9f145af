-- Why a new array is refused.
use Rattle.std.specs.Prelude.{◌≡◌, ℕ, nat_lt, not, ◌&&◌, nat_le, is_some, if◌then◌else◌, List, length, Option, Some, None}
use Rattle.judy_model.specs.Stores.{array_named}
use Rattle.judy_shelf.specs.declared.error.MakeError.{MakeError}
use Rattle.judy_shelf.specs.declared.error.MakeError.TheVariants.{BadLimit, Exists, TooMany, NoMemory}

-- The first refusal that applies to a new array of that name and limit, want of memory left aside.
abbrev pub make_refusal : {A : Type 0} → List (List ℕ × A) → List ℕ → ℕ → Option MakeError
make_refusal arrays name limit =
    if not (nat_lt 0 limit && nat_le limit 4294967295) then Some BadLimit
    else if is_some (array_named arrays name) then Some Exists
    else if not (nat_lt (length arrays) 64) then Some TooMany
    else None

-- Want of memory is answered only where nothing else refuses the array.
abbrev pub IsMakeRefusal : Option MakeError → MakeError → Type 0
IsMakeRefusal first BadLimit = first ≡ Some BadLimit
IsMakeRefusal first Exists = first ≡ Some Exists
IsMakeRefusal first TooMany = first ≡ Some TooMany
IsMakeRefusal first NoMemory = first ≡ None
