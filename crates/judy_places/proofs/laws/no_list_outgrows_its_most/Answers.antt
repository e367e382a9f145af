use Rattle.std.proofs.Common.{arith}
use Rattle.judy_places.proofs.PlaceLemmas.{within-most}
use Rattle.judy_places.proofs.laws.no_list_outgrows_its_most.Goals as goal

pub returns-clause-reused : goal.returns-clause-reused
returns-clause-reused c = within-most

pub returns-clause-freed : goal.returns-clause-freed
returns-clause-freed c = λ before first after next most freed short. (let long = freed.long in omega (arith, long, short))
