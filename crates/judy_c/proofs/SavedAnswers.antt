-- What a dump and a load of an array are refused for.
use Rattle.std.proofs.Common.{◌≡◌, ℕ, Bool, true, false, List, [], Some, None, refl, sym, append-nil}
use Rattle.std.specs.Prelude.{if◌then◌else◌}
use Rattle.judy_model.specs.Arrays.{ArrayValue}
use Rattle.judy_model.specs.Tokens.{is_name, name_of}
use Rattle.judy_shelf.specs.declared.fault.LoadFault.TheVariants.{NoMemory}
use Rattle.judy_shelf.specs.declared.one.OneFault.TheVariants.{Load}
use Rattle.judy_saved.specs.Loads.{IsLoadedOf, IsRefused}

spells_none : (is : Bool) (bytes : List ℕ) → None ≡ (if is then Some bytes else None) → is ≡ false
spells_none true bytes same = absurd cc
spells_none false bytes same = refl

-- Bytes that spell no name are none.
pub no_name_spelled : (bytes : List ℕ) → None ≡ name_of bytes → is_name bytes ≡ false
no_name_spelled bytes same = spells_none (is_name bytes) bytes same

-- Memory may be wanted behind all bytes of a dump.
pub wanted_behind_all : (array : ℕ → ArrayValue) (kind : ℕ) (bytes : List ℕ) → IsLoadedOf array bytes → IsRefused kind bytes (Load NoMemory)
wanted_behind_all array kind bytes loaded = (bytes, ([], sym (append-nil bytes)), loaded.ends)
