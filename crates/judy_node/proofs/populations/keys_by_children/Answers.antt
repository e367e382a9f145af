use Rattle.std.proofs.Common.{arith}
use Rattle.judy_node.proofs.Counts.{population-take, rest_population}
use Rattle.judy_node.proofs.populations.keys_by_children.Goals as goal

pub population_of-requires : goal.population_of-requires
population_of-requires g c =
    let parts = population-take c.args.children.now c.args.place in
    let all = c.requires.all in
    let fits = c.ranges.all.fits in
    omega arith

pub population_of-requires-else-place-children : goal.population_of-requires-else-place-children
population_of-requires-else-place-children g c =
    let rest = rest_population c.args.children.now c.args.place in
    let all = c.requires.all in
    let fits = c.ranges.all.fits in
    omega arith

pub overflow_sub-result : goal.overflow_sub-result
overflow_sub-result g c =
    let rest = rest_population c.args.children.now c.args.place in
    let all = c.requires.all in
    let sum = c.population_of-else-place-children.ensures in
    omega arith

pub returns-else-place-children : goal.returns-else-place-children
returns-else-place-children g c =
    let rest = rest_population c.args.children.now c.args.place in
    let all = c.requires.all in
    let sum = c.population_of-else-place-children.ensures in
    omega arith
