-- `Bytes::insert`: what is said of what the handle holds is said of the handle.
use Rattle.std.proofs.Common.{◌≡◌, ap, subst, ◌∙◌}
use Rattle.judy_c.specs.Owned.{judyhs_row}
use Rattle.judy_c.specs.AsHeld.{as_bytes}
use Rattle.judy_c.specs.KeyInserts.{IsShort}
use Rattle.judy_c.specs.KeyPuts.{IsStored}
use Rattle.judy_c.specs.StringMaps.{array_of}
use Rattle.judy_c.specs.declared.held.Held.{Held}
use Rattle.judy_c.proofs.FirstKeys.{stored_so}
use Rattle.judy_c.proofs.bytes.Bytes.insert.Goals as goal

pub returns : goal.returns
returns c =
    let key = c.args.key.now in let held = c.held.ensures.value in
    subst (λ (h : Held judyhs_row.Denot). IsStored IsShort (array_of h.array) key c.args.value (as_bytes c.store.new.self ≡ c.args.self.now) c.store.result (array_of c.store.new.self.array)) held
    (stored_so IsShort _ _ key c.args.value c.store.result (λ same. ap as_bytes (same ∙ held)) c.store.ensures)
