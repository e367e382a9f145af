use Rattle.std.proofs.Common.{◌≡◌, ◌+◌, ◌-◌, ◌^◌, [], length, sym, refl, ap, ◌∙◌, subst, arith}
use Rattle.judy_node.specs.Populations.{keys_before}
use Rattle.judy_query.specs.Parts.{IsDown, width_of, passed}
use Rattle.judy_query.proofs.Downs.{down_branch, down_root, down_child, down_gap, child_inside, child_is, beside_is, branch_is, front_long, front_within, passed_few}
use Rattle.judy_query.proofs.Links.{rank_is}
use Rattle.judy_query.proofs.RankFacts.{part-rank, rank-le, rank-above}
use Rattle.judy_query.proofs.counts.rank.Goals as goal

pub down-init : goal.down-init
down-init g c =
    let down = down_root g.V.Words.WORDS c.args.tree.now c.enter-view.result c.args.key c.law.ensures c.enter-view.ensures.view (omega (arith, c.ranges.key)) in
    let narrow = down.shown.narrow in
    (down, refl, omega arith, omega arith)

pub keys_before-below-requires-clause-place : goal.keys_before-below-requires-clause-place
keys_before-below-requires-clause-place g c =
    let words = g.V.Words.WORDS in
    let b = c.in-Branch.branch.now in
    let down = down_branch c.down.invariant.0 c.in-Branch.is in
    let few = passed_few words b.width b.skip b.bytes b.children.items b.population c.down.left c.step-step.result (branch_is down) c.step-step.ensures in
    let same = c.passed.ensures in
    omega arith

pub overflow_add-below : goal.overflow_add-below
overflow_add-below g c =
    let words = g.V.Words.WORDS in
    let pairs = c.args.tree.now.pairs in
    let b = c.in-Branch.branch.now in
    let way = subst (λ v. (down : IsDown words pairs v c.args.key c.down.left) × (c.down.below ≡ length down.front)) c.in-Branch.is (c.down.invariant.0, c.down.invariant.1) in
    let few = front_within way.0 c.step-step.result c.step-step.ensures in
    let keys = c.keys_before-below.ensures ∙ ap (λ n. keys_before n b.children.items) c.passed.ensures in
    let below = way.1 in
    omega (arith, c.ranges.key)

pub returns-in_default-step : goal.returns-in_default-step
returns-in_default-step g c =
    let words = g.V.Words.WORDS in
    let pairs = c.args.tree.now.pairs in
    let b = c.in-Branch.branch.now in
    let way = subst (λ v. (down : IsDown words pairs v c.args.key c.down.left) × (c.down.below ≡ length down.front)) c.in-Branch.is (c.down.invariant.0, c.down.invariant.1) in
    let part = down_gap way.0 c.step-step.result (beside_is c.step-step.result c.in_default-step.not-Child) c.step-step.ensures in
    let long = front_long way.0 (passed (length b.children.items) c.step-step.result) in
    let keys = c.keys_before-below.ensures ∙ ap (λ n. keys_before n b.children.items) c.passed.ensures in
    let below = way.1 in
    let ranked = part-rank words (256 ^ 8) pairs c.args.key 1 0 c.args.key [] _ _ part (omega arith) (omega arith) in
    let some = c.down.invariant.0.shown.some in
    record {
      value = (let e : c.down.below + c.keys_before-below.result ≡ _ = omega arith in e) ∙ sym (rank_is words (256 ^ 8) pairs c.law.ensures.map c.args.key ∙ ranked);
      no_fewer = omega (arith, c.down.invariant.3, c.enter-view.ensures.visits);
      visits = omega (arith, c.down.invariant.2, c.enter-view.ensures.visits);
    }

pub index-requires : goal.index-requires
index-requires g c =
    let down = down_branch c.down.invariant.0 c.in-Branch.is in
    let inside = child_inside down c.in-Child.field-0 c.in-Child.place c.in-Child.rest c.in-Child.ensures in
    omega (arith, c.in-Branch.branch.now.children.ok.0)

pub enter-view-requires-in-Branch : goal.enter-view-requires-in-Branch
enter-view-requires-in-Branch g c =
    let down = down_branch c.down.invariant.0 c.in-Branch.is in
    (omega arith, (omega (arith, c.down.invariant.2, c.enter-view.ensures.visits, c.requires), child_is down c.in-Child.field-0 c.in-Child.place c.in-Child.rest c.in-Child.ensures c.index.ensures))

pub down-smaller : goal.down-smaller
down-smaller g c =
    let down = down_branch c.down.invariant.0 c.in-Branch.is in
    let next = down_child down c.in-Child.field-0 c.in-Child.place c.in-Child.rest c.in-Child.ensures c.index.ensures c.enter-view-in-Branch.ensures.view in
    omega (arith, ap width_of c.in-Branch.is, next.width_is)

pub down-preserved : goal.down-preserved
down-preserved g c =
    let words = g.V.Words.WORDS in
    let pairs = c.args.tree.now.pairs in
    let b = c.in-Branch.branch.now in
    let way = subst (λ v. (down : IsDown words pairs v c.args.key c.down.left) × (c.down.below ≡ length down.front)) c.in-Branch.is (c.down.invariant.0, c.down.invariant.1) in
    let next = down_child way.0 c.in-Child.field-0 c.in-Child.place c.in-Child.rest c.in-Child.ensures c.index.ensures c.enter-view-in-Branch.ensures.view in
    let here = ap width_of c.in-Branch.is in
    let less = next.width_is in
    let visits = c.enter-view-in-Branch.ensures.visits in
    let so_far = c.down.invariant.2 in
    let long = front_long way.0 c.in-Child.place in
    let keys = c.keys_before-below.ensures ∙ ap (λ n. keys_before n b.children.items) (c.passed.ensures ∙ ap (passed (length b.children.items)) c.in-Child.is) in
    let below = way.1 in
    let grown = ap length next.front_is in
    (next.down, omega arith, omega arith, omega (arith, visits, c.down.invariant.3))

pub overflow_add-result : goal.overflow_add-result
overflow_add-result g c =
    let words = g.V.Words.WORDS in
    let pairs = c.args.tree.now.pairs in
    let down = c.down.invariant.0 in
    let above = down.above in
    let below = c.down.invariant.1 in
    let last = c.rank_in.ensures in
    let ranked = part-rank words (256 ^ 8) pairs (c.args.key - c.down.left) (256 ^ width_of c.down.view) c.down.left c.args.key _ down.front down.back down.part
    (omega arith) (let inside = down.inside in omega arith) in
    let few = rank-le words 0 (256 ^ 8) pairs c.args.key (omega arith) c.law.ensures.map in
    omega (arith, c.ranges.key)

pub returns : goal.returns
returns g c =
    let words = g.V.Words.WORDS in
    let pairs = c.args.tree.now.pairs in
    let down = c.down.invariant.0 in
    let above = down.above in
    let below = c.down.invariant.1 in
    let ranked = part-rank words (256 ^ 8) pairs (c.args.key - c.down.left) (256 ^ width_of c.down.view) c.down.left c.args.key _ down.front down.back down.part
    (omega arith) (let inside = down.inside in omega arith) in
    let some = down.shown.some in
    record {
      value = (λ t. below t + c.rank_in.ensures t) ∙ sym (rank_is words (256 ^ 8) pairs c.law.ensures.map c.args.key ∙ ranked);
      no_fewer = omega (arith, c.down.invariant.3, c.enter-view.ensures.visits);
      visits = omega (arith, c.down.invariant.2, c.enter-view.ensures.visits);
    }

pub returns-then-key-eq0 : goal.returns-then-key-eq0
returns-then-key-eq0 g c =
    let words = g.V.Words.WORDS in
    let pairs = c.args.tree.now.pairs in
    record {
      value = sym (rank_is words (256 ^ 8) pairs c.law.ensures.map c.args.key ∙ rank-above words 0 (256 ^ 8) pairs c.args.key (omega (arith, c.if-key-eq0.true)) c.law.ensures.map);
      no_fewer = omega arith;
      visits = omega arith;
    }
