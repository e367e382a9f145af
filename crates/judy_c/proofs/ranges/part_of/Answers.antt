use Rattle.std.proofs.Common.{ap, sym}
use Rattle.judy_c.specs.Maps.{array_of}
use Rattle.judy_c.proofs.WordHandles.{nothing_many}
use Rattle.judy_c.proofs.ranges.part_of.Goals as goal

pub returns-in-None-clause-few : goal.returns-in-None-clause-few
returns-in-None-clause-few g c = nothing_many _ (ap array_of (sym c.in-None.ensures.value))
