use Rattle.std.proofs.Common.{Some, sym, ap, ◌∙◌}
use Rattle.judy_model.proofs.lemmas.maps.ChangesLemmas.{get-ins_same}
use Rattle.judy_command.proofs.NamedArrays.{Follows-inserted}
use Rattle.judy_command.proofs.values.insert.Goals as goal

pub returns : goal.returns
returns g c =
    let laws = g.met.M.ValueMap in
    let array = g.M.ValueMap.array_of c.args.map.now in
    let key = g.M.ValueMap.key_of c.args.key in
    rw c.in_ok-insert.ensures.put
    (Follows-inserted laws.is_total laws.is_antisymmetric g.M.ValueMap.kind_of array key c.args.value c.in_ok-insert.field-0 c.in_ok-insert.ensures.accepted
    (ap Some c.in_ok-insert.ensures.was ∙ sym (get-ins_same laws.is_total array.map key)))
