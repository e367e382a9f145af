use Rattle.std.proofs.Common.{arith}
use Rattle.judy_sets.specs.Pages.{rest}
use Rattle.judy_sets.proofs.CountFacts.{ascends_all}
use Rattle.judy_sets.proofs.fills.fill_both.Goals as goal

pub fill-requires : goal.fill-requires
fill-requires g c = (
  omega arith,
  (
    omega arith,
    (omega arith, (c.requires, (ascends_all c.args.one.now.map (rest c.of-left.result) c.of-left.ensures, ascends_all c.args.other.now.map (rest c.of-right.result) c.of-right.ensures))),
  ),
)
