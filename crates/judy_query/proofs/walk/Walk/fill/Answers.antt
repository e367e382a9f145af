use Rattle.std.proofs.Common.{◌++◌, sym, ap, ◌∙◌, subst, arith}
use Rattle.judy_node.specs.Trees.{Pairs}
use Rattle.judy_query.specs.Givings.{AreGiven}
use Rattle.judy_query.specs.Walks.{rest_of_turn, waiting}
use Rattle.judy_query.proofs.GivingFacts.{given_with, put_more, length-mid, emptied, empty, all_given}
use Rattle.judy_query.proofs.walk.Walk.fill.Goals as goal

pub loop-count-init : goal.loop-count-init
loop-count-init g c =
    let made = g.E.FromPair.made in
    let left = waiting c.self.inside.turns.items in
    record {
      turns = c.self.invariant;
      given = subst (λ (all : Pairs). AreGiven made all (c.fill-count.new.self ++ left) c.args.out.now c.fill-count.new.out c.fill-count.result) c.self.view_is
          (given_with made c.self.inside.stretch c.fill-count.new.self c.args.out.now c.fill-count.new.out c.fill-count.result c.fill-count.ensures.given left);
      emptied = λ less. emptied made c.self.inside.stretch c.fill-count.new.self c.args.out.now c.fill-count.new.out c.fill-count.result c.fill-count.ensures.given c.fill-count.ensures.most less;
      visits = omega arith;
      no_fewer = omega arith;
    }

pub give_from-stretch-requires : goal.give_from-stretch-requires
give_from-stretch-requires g c =
    let n = c.loop-count.count in
    let room = c.loop-count-test.true in
    let long = length-mid g.E.FromPair.made n c.loop-count.out (omega arith) in
    let same = c.loop-count.auto.out in
    let visits = c.loop-count.invariant.visits in
    (omega arith, (c.in-Some.ensures.turn.0, (c.in-Some.ensures.turn.2, (c.in-Some.ensures.turns, (c.in-Some.ensures.turn.1, (omega arith, omega (arith, c.requires)))))))

pub loop-count-preserved : goal.loop-count-preserved
loop-count-preserved g c =
    let made = g.E.FromPair.made in
    let n = c.loop-count.count in
    let out = c.loop-count.out in
    let room = c.loop-count-test.true in
    let same = c.loop-count.auto.out in
    let long = length-mid made n out (omega arith) in
    let none = empty c.loop-count.self-inside.stretch (c.loop-count.invariant.emptied (omega arith)) in
    let mid : Pairs = rest_of_turn c.in-Some.turn ++ waiting c.take.new.turns.items in
    let split = ap (λ ps. ps ++ waiting c.loop-count.self-inside.turns.items) none ∙ c.in-Some.ensures.pairs in
    let given = subst (λ (left : Pairs). AreGiven made c.args.self.now left c.args.out.now out n) split c.loop-count.invariant.given in
    let visits = c.give_from-stretch.ensures.visits in
    let so_far = c.loop-count.invariant.visits in
    let no_fewer = c.loop-count.invariant.no_fewer in
    record {
      turns = c.give_from-stretch.ensures.turns;
      given =
          put_more made c.args.self.now mid c.args.out.now out n given (omega arith) (c.give_from-stretch.result.0 ++ waiting c.give_from-stretch.new.turns.items)
          c.give_from-stretch.new.out c.give_from-stretch.result.1
          c.give_from-stretch.ensures.given;
      emptied = λ less. c.give_from-stretch.ensures.most (omega arith);
      visits = omega arith;
      no_fewer = omega (arith, c.give_from-stretch.ensures.no_fewer);
    }

pub returns-after-loop-count-clause-most : goal.returns-after-loop-count-clause-most
returns-after-loop-count-clause-most g c =
    let past = c.loop-count-test.false in
    let same = c.loop-count.auto.out in
    let within = c.loop-count.invariant.given.within in
    let there = c.loop-count.invariant.given.there in
    omega arith

pub returns-in_default-clause-given : goal.returns-in_default-clause-given
returns-in_default-clause-given g c =
    let stretch = c.loop-count.self-inside.stretch in
    subst (λ (left : Pairs). AreGiven g.E.FromPair.made c.args.self.now left c.args.out.now c.loop-count.out c.loop-count.count)
    (ap (λ ps. stretch ++ ps) (c.in_default.ensures.pairs.0 ∙ sym c.in_default.ensures.pairs.1)) c.loop-count.invariant.given

pub returns-in_default-clause-most : goal.returns-in_default-clause-most
returns-in_default-clause-most g c =
    let room = c.loop-count-test.true in
    let same = c.loop-count.auto.out in
    let none = empty c.loop-count.self-inside.stretch (c.loop-count.invariant.emptied (omega arith)) in
    all_given g.E.FromPair.made c.args.self.now _ c.args.out.now c.loop-count.out c.loop-count.count c.loop-count.invariant.given (λ t. none t ++ c.in_default.ensures.pairs.0 t)
