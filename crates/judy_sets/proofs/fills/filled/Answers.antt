use Rattle.std.proofs.Common.{refl}
use Rattle.judy_sets.proofs.FillFacts.{filled_is}
use Rattle.judy_sets.proofs.fills.filled.Goals as goal

pub returns-in-Ok-clause-map : goal.returns-in-Ok-clause-map
returns-in-Ok-clause-map g c =
    filled_is g.V.Words.WORDS c.args.keep c.new-made.result c.fill_of.new.made c.args.one.now.map c.args.other.now.map _ _
    c.new-made.ensures.map refl refl c.len.ensures.zeros c.len-2.ensures.zeros c.in-Ok.ensures
