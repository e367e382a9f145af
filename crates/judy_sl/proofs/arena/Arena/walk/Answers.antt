use Rattle.std.proofs.Common.{refl, sym, subst}
use Rattle.judy_sl.specs.Pieces.{pieces}
use Rattle.judy_sl.specs.Arenas.{world_of}
use Rattle.judy_sl.specs.Ways.{IsOnWay, passed_from}
use Rattle.judy_sl.proofs.lemmas.pieces.OnWay.{on-start}
use Rattle.judy_sl.proofs.arena.Arena.walk.Goals as goal

pub walk_on-requires-clause-on : goal.walk_on-requires-clause-on
walk_on-requires-clause-on g c =
    let on = on-start (world_of c.args.self.now) c.args.key.now c.args.self.now.root.map refl in
    subst (IsOnWay (world_of c.args.self.now) c.args.key.now 0 c.args.self.now.root.map) on.is_left on

pub returns-clause-passed : goal.returns-clause-passed
returns-clause-passed g c = λ text.
    let on = on-start (world_of c.args.self.now) c.args.key.now c.args.self.now.root.map refl in
    subst (λ rest. g.N.Notes.has c.walk_on.new.notes (passed_from (world_of c.args.self.now) 0 (pieces rest))) (sym on.is_left) (c.walk_on.ensures.passed text)
