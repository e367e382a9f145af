use Rattle.std.proofs.Common.{◌≡◌, OnOk, subst}
use Rattle.judy_model.specs.Arrays.{ArrayOf, with_map}
use Rattle.judy_model.specs.Keys.{byte_order}
use Rattle.judy_model.specs.TwoMaps.{union}
use Rattle.judy_string_sets.specs.Walks.{picked}
use Rattle.judy_string_sets.proofs.fills.fill.Goals as goal

pub returns : goal.returns
returns g c =
    let front = picked c.args.which c.args.one.now.map c.args.other.now.map in
    subst (λ (a : ArrayOf byte_order). OnOk c.put_all.result (c.put_all.new.made ≡ with_map a (union front a.map))) c.in_ok-put_rest.ensures c.put_all.ensures
