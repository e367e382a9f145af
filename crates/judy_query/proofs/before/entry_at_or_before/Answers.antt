use Rattle.std.proofs.Common.{ℕ, ◌-◌, ◌*◌, ◌^◌, [], length, None, Some, sym, refl, ap, ◌∙◌, arith}
use Rattle.std.specs.Option.{option_or}
use Rattle.judy_model.specs.WordBytes.{number_of}
use Rattle.judy_leaf.specs.KeyLists.{shift}
use Rattle.judy_node.specs.Trees.{Pairs}
use Rattle.judy_node.specs.Views.{view_pairs}
use Rattle.judy_node.specs.declared.view.ViewOf.TheVariants.{Branch}
use Rattle.judy_query.specs.Parts.{width_of, passed}
use Rattle.judy_query.specs.Turns.{last_pair}
use Rattle.judy_query.proofs.Downs.{down_root, down_child, down_gap, child_inside, child_is, beside_is, branch_is, passed_few}
use Rattle.judy_query.proofs.NearFacts.{part-up_to, last_pair-append, up_to_below, down_up_to}
use Rattle.judy_query.proofs.LaterFacts.{passed_rank, passed_small}
use Rattle.judy_query.proofs.Splits.{first_of}
use Rattle.judy_query.proofs.before.entry_at_or_before.Goals as goal

pub down-init : goal.down-init
down-init g c =
    let down = down_root g.V.Words.WORDS c.args.tree.now (Branch c.in-Branch.top) c.args.key c.law.ensures c.in-Branch.ensures.view (omega (arith, c.ranges.key)) in
    let narrow = down.shown.narrow in
    (down, refl, tt, omega (arith, c.enter.ensures.visits), omega (arith, c.enter.ensures.visits))

pub turn_to-earlier-requires-clause-inside : goal.turn_to-earlier-requires-clause-inside
turn_to-earlier-requires-clause-inside g c =
    let words = g.V.Words.WORDS in
    let b = c.down.at.0.now in
    passed_few words b.width b.skip b.bytes b.children.items b.population c.down.at.1 c.step-step.result (branch_is c.down.invariant.0) c.step-step.ensures

pub turn_to-earlier-requires-clause-step : goal.turn_to-earlier-requires-clause-step
turn_to-earlier-requires-clause-step g c =
    let words = g.V.Words.WORDS in
    let b = c.down.at.0.now in
    let branch = branch_is c.down.invariant.0 in
    let left = c.down.at.1 in (
      passed_rank words b.width b.skip b.bytes b.children.items b.population branch left c.step-step.result c.step-step.ensures,
      passed_small words b.width b.skip b.bytes b.children.items b.population branch left c.step-step.result c.step-step.ensures,
    )

pub returns-in_default-step : goal.returns-in_default-step
returns-in_default-step g c =
    let words = g.V.Words.WORDS in
    let pairs = c.args.tree.now.pairs in
    let b = c.down.at.0.now in
    let base = c.args.key - c.down.at.1 in
    let way = c.down.invariant in
    let beside = beside_is c.step-step.result c.in_default-step.not-Child in
    let part = down_gap way.0 c.step-step.result beside c.step-step.ensures in
    let some = way.0.shown.some in
    record {
      entry = c.greatest.ensures.entry ∙ c.turn_to-earlier.ensures.pair
          ∙ (λ t. option_or (last_pair (shift base (first_of (256 ^ b.width) (number_of b.skip * 256) b.bytes b.children.items (passed (length b.children.items) c.step-step.result)))) (sym way.1 t))
          ∙ sym (last_pair-append way.0.front (shift base (first_of (256 ^ b.width) (number_of b.skip * 256) b.bytes b.children.items (passed (length b.children.items) c.step-step.result))))
          ∙ sym (part-up_to words (256 ^ 8) pairs c.args.key 1 0 c.args.key [] _ _ part (omega arith) (omega arith));
      no_fewer = omega (arith, way.4, c.greatest.ensures.no_fewer);
      visits = omega (arith, way.3, c.greatest.ensures.visits);
    }

pub index-requires : goal.index-requires
index-requires g c =
    let inside = child_inside c.down.invariant.0 c.in-Child.field-0 c.in-Child.place c.in-Child.rest c.in-Child.ensures in
    omega (arith, c.down.at.0.now.children.ok.0)

pub enter-requires-in-down : goal.enter-requires-in-down
enter-requires-in-down g c =
    (omega arith, (omega (arith, c.down.invariant.3, c.requires), child_is c.down.invariant.0 c.in-Child.field-0 c.in-Child.place c.in-Child.rest c.in-Child.ensures c.index.ensures))

pub down-preserved : goal.down-preserved
down-preserved g c =
    let b = c.down.at.0.now in
    let base = c.args.key - c.down.at.1 in
    let way = c.down.invariant in
    let next = down_child way.0 c.in-Child.field-0 c.in-Child.place c.in-Child.rest c.in-Child.ensures c.index.ensures c.in-Branch-enter.ensures.view in
    let place = ap (passed (length b.children.items)) c.in-Child.is in
    let less = next.width_is in
    let visits = c.enter-in-down.ensures.visits in
    let so_far = way.3 in (
      next.down,
      ap (λ ps. last_pair ps) next.front_is ∙ last_pair-append way.0.front (shift base (first_of (256 ^ b.width) (number_of b.skip * 256) b.bytes b.children.items c.in-Child.place))
          ∙ (λ t. option_or (last_pair (shift base (first_of (256 ^ b.width) (number_of b.skip * 256) b.bytes b.children.items (sym place t)))) (way.1 t))
          ∙ sym c.turn_to-earlier.ensures.pair,
      c.turn_to-earlier.ensures.turn,
      omega arith,
      omega (arith, visits, way.4),
    )

pub returns-in_default-up_to_in : goal.returns-in_default-up_to_in
returns-in_default-up_to_in g c =
    let words = g.V.Words.WORDS in
    let pairs = c.args.tree.now.pairs in
    let b = c.down.at.0.now in
    let base = c.args.key - c.down.at.1 in
    let way = c.down.invariant in
    let view = c.enter-in-down.result in
    let next = down_child way.0 c.in-Child.field-0 c.in-Child.place c.in-Child.rest c.in-Child.ensures c.index.ensures c.enter-in-down.ensures.view in
    let front : ℕ → Pairs = λ place. shift base (first_of (256 ^ b.width) (number_of b.skip * 256) b.bytes b.children.items place) in
    let place = ap (passed (length b.children.items)) c.in-Child.is in
    let some = next.down.shown.some in
    let visits = c.enter-in-down.ensures.visits in
    record {
      entry =
          c.greatest-in_default-up_to_in.ensures.entry ∙ c.turn_to-earlier.ensures.pair ∙ (λ t. option_or (last_pair (front (place t))) (sym way.1 t)) ∙
          sym (last_pair-append way.0.front (front c.in-Child.place)) ∙ sym (ap (λ ps. last_pair ps) next.front_is)
          ∙ down_up_to words pairs view c.args.key c.in-Child.rest next.down None (sym c.in_default-up_to_in.is ∙ c.up_to_in-in_default-enter.ensures);
      no_fewer = omega (arith, way.4, c.greatest-in_default-up_to_in.ensures.no_fewer, visits);
      visits = omega (arith, way.3, c.greatest-in_default-up_to_in.ensures.visits, next.width_is);
    }

pub overflow_add-result : goal.overflow_add-result
overflow_add-result g c =
    let view = c.enter-in-down.result in
    let next = down_child c.down.invariant.0 c.in-Child.field-0 c.in-Child.place c.in-Child.rest c.in-Child.ensures c.index.ensures c.enter-in-down.ensures.view in
    let down = next.down in
    let fits = down.part.fits in
    let below = up_to_below g.V.Words.WORDS 0 (256 ^ width_of view) c.in-Child.rest (view_pairs view) c.in-Some.found.0 c.in-Some.found.1 down.shown.map
    (sym c.up_to_in-in_default-enter.ensures ∙ c.in-Some.is) in
    omega arith

pub returns-in_default-enter : goal.returns-in_default-enter
returns-in_default-enter g c =
    let words = g.V.Words.WORDS in
    let pairs = c.args.tree.now.pairs in
    let view = c.enter-in-down.result in
    let next = down_child c.down.invariant.0 c.in-Child.field-0 c.in-Child.place c.in-Child.rest c.in-Child.ensures c.index.ensures c.enter-in-down.ensures.view in
    let some = next.down.shown.some in
    record {
      entry = down_up_to words pairs view c.args.key c.in-Child.rest next.down (Some c.in-Some.found) (sym c.in-Some.is ∙ c.up_to_in-in_default-enter.ensures);
      no_fewer = omega (arith, c.down.invariant.4, c.enter-in-down.ensures.visits);
      visits = omega (arith, c.down.invariant.3, c.enter-in-down.ensures.visits, next.width_is);
    }
