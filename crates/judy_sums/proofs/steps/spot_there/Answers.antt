use Rattle.judy_sums.proofs.SpotLemmas.{spot_stands}
use Rattle.judy_sums.proofs.steps.spot_there.Goals as goal

pub returns : goal.returns
returns c = spot_stands c.args.chunks.now c.args.word c.spot_of.result.chunk c.spot_of.result.at c.requires.are c.spot_of.ensures c.requires.there
