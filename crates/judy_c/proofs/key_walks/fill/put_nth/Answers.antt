use Rattle.std.proofs.Common.{◌-◌, length, drop, ap, subst, sym, ◌∙◌, refl, Option}
use Rattle.std.specs.FinMap.{entries}
use Rattle.judy_c.specs.KeyWalks.{fitting, IsPut}
use Rattle.judy_c.specs.declared.key_walks.KeyEntry.{KeyEntry}
use Rattle.judy_c.proofs.PageLemmas.{fitting_none}
use Rattle.judy_c.proofs.PlacePairs.{none_left}
use Rattle.judy_c.proofs.key_walks.fill.put_nth.Goals as goal

pub returns-in_err-length : goal.returns-in_err-length
returns-in_err-length c =
    let before = c.args.bytes.now in
    let rest = drop c.args.place (entries c.args.array.now.map) in
    let room = length before - c.args.used in
    subst (λ (told : Option KeyEntry). IsPut rest c.args.used before told before) (sym c.from_residual.ensures)
    (ap (fitting room 1) (none_left c.args.array.now.map c.args.place c.in_err-length.ensures) ∙ fitting_none room 1, refl)
