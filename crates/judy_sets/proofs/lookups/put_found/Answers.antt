use Rattle.std.proofs.Common.{refl}
use Rattle.judy_sets.proofs.LookFacts.{common_none, common_more}
use Rattle.judy_sets.proofs.lookups.put_found.Goals as goal

pub pairs-init : goal.pairs-init
pairs-init g c = common_none g.V.Words.WORDS c.args.theirs c.args.many.now.map c.args.made.now _ refl

pub pairs-preserved : goal.pairs-preserved
pairs-preserved g c =
    common_more g.V.Words.WORDS c.args.theirs c.args.many.now.map c.args.made.now c.pairs.made c.put_one.new.made c.args.pairs.now c.pairs.pair-index c.pairs-test.true c.pairs.invariant
    c.in_ok-put_one.ensures
