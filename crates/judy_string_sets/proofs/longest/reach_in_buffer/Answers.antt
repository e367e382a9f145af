use Rattle.std.proofs.Common.{length, take, None, Some, sym, ap, ◌∙◌, arith}
use Rattle.judy_model.specs.Neighbours.{last}
use Rattle.judy_sl.specs.declared.scans.Look.{Look}
use Rattle.judy_sl.specs.Scans.{neighbour_along}
use Rattle.judy_string_sets.proofs.NearFacts.{is_none, last_held, near_fits, told_in, long_in}
use Rattle.judy_string_sets.proofs.longest.reach_in_buffer.Goals as goal

pub neighbour_in-requires-clause-room : goal.neighbour_in-requires-clause-room
neighbour_in-requires-clause-room g c =
    let m = c.args.strings.now.map in
    near_fits g.row.N m c.requires.longest c.inclusive.result (last m)
    (ap (λ (look : Look). neighbour_along look.side look.itself m) c.inclusive.ensures) (last_held m) _ _ (omega (arith, c.write_front.ensures.room))

pub returns-in_err-value : goal.returns-in_err-value
returns-in_err-value g c =
    let m = c.args.strings.now.map in
    let front = c.args.front.now in
    is_none _ c.from_residual.result c.from_residual.ensures
    (told_in m c.inclusive.result (last m)
    (ap (λ (look : Look). neighbour_along look.side look.itself m) c.inclusive.ensures) (last_held m) c.write_front.new.buffer c.neighbour_in.new.buffer
    front (length front) c.neighbour_in.new.len c.write_front.ensures.begins c.neighbour_in.ensures.key
    None (sym c.in_err-value.was ∙ c.neighbour_in.ensures.value))

pub returns-then-shared-len : goal.returns-then-shared-len
returns-then-shared-len g c =
    let m = c.args.strings.now.map in
    let front = c.args.front.now in
    let long = c.neighbour_in.new.len in
    let after = c.neighbour_in.new.buffer in
    let asks = ap (λ (look : Look). neighbour_along look.side look.itself m) c.inclusive.ensures in
    let same = long_in m c.inclusive.result (last m) asks (last_held m) c.write_front.new.buffer after front (length front) long c.write_front.ensures.begins c.neighbour_in.ensures.key in
    let found = told_in m c.inclusive.result (last m) asks (last_held m) c.write_front.new.buffer after front (length front) long c.write_front.ensures.begins c.neighbour_in.ensures.key
    (Some c.in_ok-value.value) (sym c.in_ok-value.was ∙ c.neighbour_in.ensures.value) in
    let all = c.if-shared-len.true ∙ same in
    (take long after, found.0, sym c.shared_front-shared.ensures.shared ∙ all, all, found.1)

pub returns-else-shared-len : goal.returns-else-shared-len
returns-else-shared-len g c =
    let m = c.args.strings.now.map in
    let front = c.args.front.now in
    let long = c.neighbour_in.new.len in
    let after = c.neighbour_in.new.buffer in
    let asks = ap (λ (look : Look). neighbour_along look.side look.itself m) c.inclusive.ensures in
    let same = long_in m c.inclusive.result (last m) asks (last_held m) c.write_front.new.buffer after front (length front) long c.write_front.ensures.begins c.neighbour_in.ensures.key in
    let found = told_in m c.inclusive.result (last m) asks (last_held m) c.write_front.new.buffer after front (length front) long c.write_front.ensures.begins c.neighbour_in.ensures.key
    (Some c.in_ok-value.value) (sym c.in_ok-value.was ∙ c.neighbour_in.ensures.value) in
    let most = c.shared_front-shared.ensures.within in
    let part = c.if-shared-len.false in
    (take long after, found.0, c.shared_front-shared.ensures.shared, omega (arith, same, most, part))
