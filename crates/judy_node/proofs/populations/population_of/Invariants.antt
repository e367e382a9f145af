use Rattle.std.proofs.Common.{◌≡◌, take}
use Rattle.judy_node.specs.Populations.{population}
use Rattle.judy_node.proofs.populations.population_of.Given as goal

abbrev pub invariant-loop-child : goal.invariant-loop-child
invariant-loop-child g l = l.sum ≡ population (take l.child-index l.children)
