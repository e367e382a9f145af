use Rattle.std.proofs.Common.{ℕ, List, Option, ap}
use Rattle.judy_sl.specs.declared.reader.Stand.TheVariants.{InText}
use Rattle.judy_sl.proofs.lemmas.readers.LevelSteps.{step_final, step_within, step_inner}
use Rattle.judy_sl.proofs.arena.Arena.first_step.Goals as goal

pub returns-then-entry-eq0 : goal.returns-then-entry-eq0
returns-then-entry-eq0 c =
    step_final c.args.self.now c.requires.is_arena c.args.spot.now c.requires.spot c.spot_at-entry.result c.spot_at-entry.ensures c.if-entry-eq0.true _
    (ap (λ (left : Option (List ℕ)). InText left c.spot_at-entry.result.value) c.ended.ensures)

pub stand_behind-requires-clause-within : goal.stand_behind-requires-clause-within
stand_behind-requires-clause-within c =
    step_within c.args.self.now c.requires.is_arena c.args.spot.now c.requires.spot c.spot_at-entry.result c.spot_at-entry.ensures c.if-entry-eq0.false

pub returns : goal.returns
returns c =
    step_inner c.args.self.now c.requires.is_arena c.args.spot.now c.requires.spot c.spot_at-entry.result c.spot_at-entry.ensures c.if-entry-eq0.false
    c.stand_behind.result c.stand_behind.ensures.stands c.stand_behind.ensures.left
