use Rattle.judy_hs.proofs.RelaidLemmas.{relaid-same, relaid-on}
use Rattle.judy_hs.proofs.long_group.LongGroup.move_all.Goals as goal

pub loop-init : goal.loop-init
loop-init c = relaid-same c.args.self.now

pub loop-preserved : goal.loop-preserved
loop-preserved c = relaid-on c.args.self.now c.loop.self c.move_first-from.new.self c.loop.invariant c.move_first-from.ensures
