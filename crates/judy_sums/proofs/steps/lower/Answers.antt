use Rattle.std.proofs.Common.{arith, sym, ◌∙◌}
use Rattle.judy_sums.proofs.SpotLemmas.{here, its_number, read_number, less_last, less_one}
use Rattle.judy_sums.proofs.steps.lower.Goals as goal

pub lower-requires-clause-some : goal.lower-requires-clause-some
lower-requires-clause-some c =
    let chunks = c.args.chunks.now in
    let spot = c.spot_there-spot.result in
    omega (
      arith,
      its_number chunks c.args.word spot.chunk spot.at c.requires.are (here chunks c.args.word spot.chunk spot.at c.requires.are c.all.ensures c.spot_there-spot.ensures),
      c.requires.some,
    )

pub returns-then-number-eq1-clause-lowered : goal.returns-then-number-eq1-clause-lowered
returns-then-number-eq1-clause-lowered c =
    let chunks = c.args.chunks.now in
    let spot = c.spot_there-spot.result in
    c.remove.ensures.removed
    ∙ less_last chunks c.args.word spot.chunk spot.at c.requires.are (here chunks c.args.word spot.chunk spot.at c.requires.are c.all.ensures c.spot_there-spot.ensures)
    (read_number chunks c.args.word spot.chunk spot.at c.requires.are c.all.ensures c.spot_there-spot.ensures c.all-2.ensures c.number.ensures ∙ c.if-number-eq1.true)

pub returns-else-number-eq1-clause-lowered : goal.returns-else-number-eq1-clause-lowered
returns-else-number-eq1-clause-lowered c =
    let chunks = c.args.chunks.now in
    let spot = c.spot_there-spot.result in
    c.lower.ensures.changed
    ∙ less_one chunks c.args.word spot.chunk spot.at c.requires.are (here chunks c.args.word spot.chunk spot.at c.requires.are c.all.ensures c.spot_there-spot.ensures)
    (λ e. c.if-number-eq1.false (sym (read_number chunks c.args.word spot.chunk spot.at c.requires.are c.all.ensures c.spot_there-spot.ensures c.all-2.ensures c.number.ensures) ∙ e))
