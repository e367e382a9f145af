use Rattle.std.proofs.Common.{length, None, Some, sym, ap, ◌∙◌, arith}
use Rattle.judy_model.specs.Neighbours.{first}
use Rattle.judy_sl.specs.declared.scans.Look.{Look}
use Rattle.judy_sl.specs.Scans.{neighbour_along}
use Rattle.judy_string_sets.proofs.NearFacts.{is_none, first_held, near_fits, told_in, inside_in}
use Rattle.judy_string_sets.proofs.ranges.first_from.Goals as goal

pub neighbour_in-requires-clause-room : goal.neighbour_in-requires-clause-room
neighbour_in-requires-clause-room g c =
    let m = c.args.array.now.map in
    near_fits (length c.args.buffer.now) m c.requires.longest c.inclusive.result (first m)
    (ap (λ (look : Look). neighbour_along look.side look.itself m) c.inclusive.ensures) (first_held m) _ _ (omega (arith, c.write_front.ensures.room))

pub returns-in_err-neighbour_in-clause-found : goal.returns-in_err-neighbour_in-clause-found
returns-in_err-neighbour_in-clause-found g c =
    let m = c.args.array.now.map in
    let from = c.args.from.now in
    is_none _ c.from_residual.result c.from_residual.ensures
    (told_in m c.inclusive.result (first m)
    (ap (λ (look : Look). neighbour_along look.side look.itself m) c.inclusive.ensures) (first_held m) c.write_front.new.buffer c.neighbour_in.new.buffer
    from (length from) c.neighbour_in.new.len c.write_front.ensures.begins c.neighbour_in.ensures.key
    None (sym c.in_err-neighbour_in.was ∙ c.neighbour_in.ensures.value))

pub returns-clause-found : goal.returns-clause-found
returns-clause-found g c =
    let m = c.args.array.now.map in
    let from = c.args.from.now in
    let long = c.neighbour_in.new.len in
    let after = c.neighbour_in.new.buffer in
    let asks = ap (λ (look : Look). neighbour_along look.side look.itself m) c.inclusive.ensures in record {
      is = (told_in m c.inclusive.result (first m) asks (first_held m) c.write_front.new.buffer after from (length from) long c.write_front.ensures.begins c.neighbour_in.ensures.key
          (Some c.in_ok-neighbour_in.field-0) (sym c.in_ok-neighbour_in.was ∙ c.neighbour_in.ensures.value)).0;
      inside = inside_in m c.inclusive.result (first m) asks (first_held m) c.write_front.new.buffer after from (length from) long c.write_front.ensures.begins c.neighbour_in.ensures.key;
    }
