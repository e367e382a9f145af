use Rattle.std.proofs.Common.{◌+◌, ◌-◌, ◌*◌, ◌∙◌, arith, length-set}
use Rattle.judy_node.proofs.SumFacts.{span-le, groups-more}
use Rattle.judy_node.proofs.sums.groups_of.Goals as goal

pub population_of-requires : goal.population_of-requires
population_of-requires g c =
    let at = 16 * c.loop-group.group in
    let part = span-le c.args.children.now at (at + 16 - at) in
    let all = c.requires.fits in
    omega arith

pub loop-group-preserved : goal.loop-group-preserved
loop-group-preserved g c =
    let sums = c.loop-group.groups in
    let long = c.loop-group.invariant.0 in (
      length-set sums c.loop-group.group c.population_of.result ∙ long,
      groups-more c.args.children.now sums c.loop-group.group c.population_of.result long c.loop-group-test.true c.population_of.ensures c.loop-group.invariant.1,
    )
