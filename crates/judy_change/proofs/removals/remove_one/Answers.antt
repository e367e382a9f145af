use Rattle.judy_change.proofs.RootFacts.{one_gone, one_kept}
use Rattle.judy_change.proofs.removals.remove_one.Goals as goal

pub returns-then-only-key-clause-removed : goal.returns-then-only-key-clause-removed
returns-then-only-key-clause-removed g c = one_gone c.args.only c.args.value c.args.key c.gone.result c.if-only-key.true c.gone.ensures

pub returns-else-only-key-clause-removed : goal.returns-else-only-key-clause-removed
returns-else-only-key-clause-removed g c = one_kept c.args.only c.args.value c.args.key c.none.result c.if-only-key.false c.none.ensures
