use Rattle.std.proofs.Common.{subst}
use Rattle.judy_change.specs.Removals.{IsNeeded}
use Rattle.judy_change.proofs.SettleFacts.{needed_settled}
use Rattle.judy_change.proofs.settle.settle.Goals as goal

pub returns-then-is_needed-clause-settled : goal.returns-then-is_needed-clause-settled
returns-then-is_needed-clause-settled g c =
    needed_settled g.V.Words.WORDS c.args.width c.args.kind.now c.requires.level c.requires.child (subst (IsNeeded c.args.kind.now) c.if-is_needed.true c.is_needed.ensures)
