use Rattle.std.proofs.Common.{◌+◌, ◌-◌, ◌*◌, ◌/◌, ◌∙◌, sym, arith}
use Rattle.judy_node.proofs.SumFacts.{groups-all, behind_group, before_group, span-le}
use Rattle.judy_node.proofs.sums.keys_by_groups.Goals as goal

pub keys_before_group-before-requires-clause-all : goal.keys_before_group-before-requires-clause-all
keys_before_group-before-requires-clause-all g c = c.requires.all ∙ sym (groups-all c.args.groups.now c.args.children.now c.requires.groups)

pub population_of-requires : goal.population_of-requires
population_of-requires g c =
    let border = 16 * ((c.args.place + 8) / 16) in
    let part = span-le c.args.children.now border (c.args.place - border) in
    let all = c.requires.all in
    let fits = c.ranges.all.fits in
    omega arith

pub overflow_add-result : goal.overflow_add-result
overflow_add-result g c =
    let border = 16 * ((c.args.place + 8) / 16) in
    let part = span-le c.args.children.now border (c.args.place - border) in
    let many = c.requires.groups.all in
    let place = c.requires.place in
    let before = c.keys_before_group-before.ensures ∙ c.requires.groups.each ((c.args.place + 8) / 16) (omega arith) in
    let own = c.population_of.ensures in
    let all = c.requires.all in
    let fits = c.ranges.all.fits in
    omega arith

pub population_of-requires-else-border-place : goal.population_of-requires-else-border-place
population_of-requires-else-border-place g c =
    let border = 16 * ((c.args.place + 8) / 16) in
    let part = span-le c.args.children.now c.args.place (border - c.args.place) in
    let all = c.requires.all in
    let fits = c.ranges.all.fits in
    omega arith

pub overflow_sub-result : goal.overflow_sub-result
overflow_sub-result g c =
    let parts = before_group c.args.groups.now c.args.children.now c.requires.groups ((c.args.place + 8) / 16) c.args.place (omega (arith, c.requires.groups.all, c.requires.place))
    (omega (arith, c.if-border-place.false)) in
    let before = c.keys_before_group-before.ensures in
    let own = c.population_of-else-border-place.ensures in
    omega arith

pub returns-then-border-place : goal.returns-then-border-place
returns-then-border-place g c =
    let parts = behind_group c.args.groups.now c.args.children.now c.requires.groups ((c.args.place + 8) / 16) c.args.place (omega (arith, c.requires.groups.all, c.requires.place))
    (omega (arith, c.if-border-place.true)) in
    let before = c.keys_before_group-before.ensures in
    let own = c.population_of.ensures in
    omega arith

pub returns-else-border-place : goal.returns-else-border-place
returns-else-border-place g c =
    let parts = before_group c.args.groups.now c.args.children.now c.requires.groups ((c.args.place + 8) / 16) c.args.place (omega (arith, c.requires.groups.all, c.requires.place))
    (omega (arith, c.if-border-place.false)) in
    let before = c.keys_before_group-before.ensures in
    let own = c.population_of-else-border-place.ensures in
    omega arith
