-- Arrays that map keys to values, as the code and as the definitions see them.
use Rattle.std.specs.Prelude.{◌≡◌, ℕ, None, Result, Ok, Err, IsTrue, IsFalse}
use Rattle.std.specs.FinMap.{get}
use Rattle.std.specs.declared.cmp.Ordering.{Ordering}
use Rattle.judy_model.specs.Arrays.{ArrayOf, with_map, write, is_full}
use Rattle.judy_model.specs.Replies as model
use Rattle.judy_command.specs.declared.reply.Refusal.{Refusal}
use Rattle.judy_command.specs.declared.reply.Refusal.TheVariants.{Full, NoMemory}
use Rattle.judy_command.specs.Replies.{refusal_of}

-- The array with a value written at a key.
abbrev pub with_value : {K : Type 0} {order : K → K → Ordering} → ArrayOf order → K → ℕ → ArrayOf order
with_value array key value = with_map array (write array.map key value)

-- The key that was said, or why it is refused.
abbrev pub said : {A K : Type 0} → (A → K) → Result A Refusal → Result K model.Refusal
said key_of (Ok key) = Ok (key_of key)
said key_of (Err refusal) = Err (refusal_of refusal)

-- Why an insert is refused. Full: the key is absent, and the array holds as many keys as its limit. NoMemory:
-- the key is absent, and the array isn't full.
abbrev pub IsInsertRefusal : {K : Type 0} {order : K → K → Ordering} → ArrayOf order → K → Refusal → Type 0
IsInsertRefusal array key Full = IsTrue (is_full array key)
IsInsertRefusal array key NoMemory = (get array.map key ≡ None) × IsFalse (is_full array key)
IsInsertRefusal array key other = ⊥
