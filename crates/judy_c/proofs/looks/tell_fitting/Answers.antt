use Rattle.std.proofs.Common.{◌++◌, drop, sym, ap, ◌∙◌, arith}
use Rattle.std.proofs.lemmas.List.{length-map, take-map}
use Rattle.judy_c.proofs.looks.tell_fitting.Goals as goal

pub returns : goal.returns
returns g c =
    let keys = c.args.keys.now in
    let fit = c.min-fit.result in
    let told_at = g.A.AsksMany.told_of c.args.array.now in (
      omega (arith, length-map keys told_at),
      ap (λ told. told ++ drop fit c.args.told.now) (c.tell_keys.ensures ∙ sym (take-map told_at fit keys)),
    )
