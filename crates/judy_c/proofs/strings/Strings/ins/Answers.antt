-- `Strings::ins`: what is said of what the handle holds is said of the handle.
use Rattle.std.proofs.Common.{refl, ap, subst, ◌∙◌}
use Rattle.judy_model.specs.Keys.{byte_order}
use Rattle.judy_model.specs.Arrays.{ArrayOf}
use Rattle.judy_sl.specs.Strings.{IsString}
use Rattle.judy_sl.specs.Rows.{long_strings_row}
use Rattle.judy_sl.specs.Lends.{with_value}
use Rattle.judy_c.specs.AsHeld.{as_strings}
use Rattle.judy_c.specs.KeyInserts.{IsMade}
use Rattle.judy_c.specs.StringMaps.{array_of}
use Rattle.judy_c.specs.declared.held.Held.{Held}
use Rattle.judy_c.proofs.HeldFacts.{on_err}
use Rattle.judy_c.proofs.strings.Strings.ins.Goals as goal

pub returns : goal.returns
returns c =
    let key = c.args.key.now in let held = c.held.ensures.value in let seen = ap (λ (h : Held long_strings_row.Denot). array_of h.array) held in (
      (
        refl,
        (λ w is. c.put_in.follows.holds w is ∙ ap (λ (a : ArrayOf byte_order). with_value a key w) seen),
        on_err c.put_in.result (λ same. ap as_strings (same ∙ held)) c.put_in.follows.holds-at-none,
      ),
      record { writes_back = tt; made = subst (λ (a : ArrayOf byte_order). IsMade IsString a key c.put_in.result) seen c.put_in.ensures.made },
    )
