-- `Strings::insert`: what is said of what the handle holds is said of the handle.
use Rattle.std.proofs.Common.{◌≡◌, ap, subst, ◌∙◌}
use Rattle.judy_sl.specs.Strings.{IsString}
use Rattle.judy_sl.specs.Rows.{long_strings_row}
use Rattle.judy_c.specs.AsHeld.{as_strings}
use Rattle.judy_c.specs.KeyPuts.{IsStored}
use Rattle.judy_c.specs.StringMaps.{array_of}
use Rattle.judy_c.specs.declared.held.Held.{Held}
use Rattle.judy_c.proofs.FirstKeys.{stored_so}
use Rattle.judy_c.proofs.strings.Strings.insert.Goals as goal

pub returns : goal.returns
returns c =
    let key = c.args.key.now in let held = c.held.ensures.value in
    subst (λ (h : Held long_strings_row.Denot). IsStored IsString (array_of h.array) key c.args.value (as_strings c.store.new.self ≡ c.args.self.now) c.store.result
    (array_of c.store.new.self.array)) held
    (stored_so IsString _ _ key c.args.value c.store.result (λ same. ap as_strings (same ∙ held)) c.store.ensures)
