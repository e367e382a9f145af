use Rattle.std.proofs.Common.{◌≡◌, OnOk, sym, ap, subst}
use Rattle.judy_model.specs.Arrays.{with_map}
use Rattle.judy_model.specs.TwoMaps.{union}
use Rattle.judy_string_sets.specs.Walks.{Strings}
use Rattle.judy_string_sets.proofs.FillFacts.{no_rest, rest_is}
use Rattle.judy_string_sets.proofs.fills.put_rest.Goals as goal

pub returns-then-not-rest : goal.returns-then-not-rest
returns-then-not-rest g c = ap (with_map c.args.made.now) (sym (no_rest c.args.rest c.args.one.now.map c.args.other.now.map c.args.made.now.map c.if-not-rest.true))

pub returns : goal.returns
returns g c =
    let made = c.args.made.now in
    subst (λ (w : Strings). OnOk c.put_all.result (c.put_all.new.made ≡ with_map made (union w made.map)))
    (rest_is c.args.rest c.args.one.now.map c.args.other.now.map c.if-not-rest.false) c.put_all.ensures
