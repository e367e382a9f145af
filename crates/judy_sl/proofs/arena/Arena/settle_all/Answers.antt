use Rattle.std.proofs.Common.{sym, subst}
use Rattle.judy_sl.specs.Settled.{IsSettled}
use Rattle.judy_sl.proofs.lemmas.moves.Settled.{settled-then}
use Rattle.judy_sl.proofs.arena.Arena.settle_all.Goals.{then-has, else-has}
use Rattle.judy_sl.proofs.arena.Arena.settle_all.Goals as goal

pub levels-preserved : goal.levels-preserved
levels-preserved c = elim c.if-has.branch [
  | then-has w ↦
      subst (IsSettled c.args.self.now) (sym w.self-is)
      (settled-then c.args.self.now c.levels.self w.settle_level-moved-then-has.new.self c.levels.invariant w.settle_level-moved-then-has.ensures)
  | else-has w ↦ subst (IsSettled c.args.self.now) (sym w.self-is) c.levels.invariant
]
