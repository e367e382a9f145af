use Rattle.judy_bits.proofs.FrontLemmas.{fronts-summed}
use Rattle.judy_bits.proofs.fronts.Fronts.of.Goals as goal

pub returns : goal.returns
returns c =
    fronts-summed c.words.result c.args.bits.now c.count-one.result c.count.result c.count-2.result c.words.ensures c.count-one.ensures c.count.ensures c.count-2.ensures
