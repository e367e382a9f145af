use Rattle.std.proofs.Common.{arith}
use Rattle.judy_leaf.proofs.HalfSteps.{all_places}
use Rattle.judy_leaf.proofs.halves.place_in_all.Goals as goal

pub half_with-requires-clause-window : goal.half_with-requires-clause-window
half_with-requires-clause-window c = all_places c.args.words.now c.args.key c.requires.ascending

pub half_with-requires-then-size-ge16-clause-window : goal.half_with-requires-then-size-ge16-clause-window
half_with-requires-then-size-ge16-clause-window c = all_places c.args.words.now c.args.key c.requires.ascending

pub half_with-requires-then-size-ge8-clause-window : goal.half_with-requires-then-size-ge8-clause-window
half_with-requires-then-size-ge8-clause-window c = all_places c.args.words.now c.args.key c.requires.ascending

pub half_with-requires-else-size-ge8-clause-window : goal.half_with-requires-else-size-ge8-clause-window
half_with-requires-else-size-ge8-clause-window c = all_places c.args.words.now c.args.key c.requires.ascending

pub returns-then-size-lt2 : goal.returns-then-size-lt2
returns-then-size-lt2 c =
    let some = c.requires.some in
    let one = c.if-size-lt2.true in
    (some, λ held. let within = (all_places c.args.words.now c.args.key c.requires.ascending).1 held in (omega arith, omega arith))
