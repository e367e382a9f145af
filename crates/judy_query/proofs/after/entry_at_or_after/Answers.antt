use Rattle.std.proofs.Common.{◌≡◌, suc, ◌+◌, ◌-◌, ◌*◌, ◌^◌, [], length, slice_get, None, Some, sym, refl, ap, ◌∙◌, arith, is_ge}
use Rattle.std.specs.Option.{option_or}
use Rattle.judy_model.specs.Keys.{word_order}
use Rattle.judy_model.specs.WordBytes.{number_of}
use Rattle.judy_leaf.specs.KeyLists.{shift}
use Rattle.judy_node.specs.Views.{view_pairs}
use Rattle.judy_node.specs.declared.step.Step.TheVariants.{Child}
use Rattle.judy_node.specs.declared.view.ViewOf.TheVariants.{Branch}
use Rattle.judy_query.specs.Parts.{width_of, passed}
use Rattle.judy_query.proofs.Downs.{down_root, down_child, down_gap, child_inside, child_is, beside_is, branch_is, passed_few, beside_reached}
use Rattle.judy_query.proofs.NearFacts.{part-from, head-append, found_below, down_from}
use Rattle.judy_query.proofs.LaterFacts.{reached_rank}
use Rattle.judy_query.proofs.Splits.{rest_of}
use Rattle.judy_query.proofs.after.entry_at_or_after.Goals as goal

pub down-init : goal.down-init
down-init g c =
    let down = down_root g.V.Words.WORDS c.args.tree.now (Branch c.in-Branch.top) c.args.key c.law.ensures c.in-Branch.ensures.view (omega (arith, c.ranges.key)) in
    let narrow = down.shown.narrow in
    (down, refl, tt, omega (arith, c.enter.ensures.visits), omega (arith, c.enter.ensures.visits))

pub pair_behind-requires : goal.pair_behind-requires
pair_behind-requires g c =
    let words = g.V.Words.WORDS in
    let b = c.down.at.0.now in
    let way = c.down.invariant in
    let branch = branch_is way.0 in
    let some = way.0.shown.some in
    let room = c.requires in
    record {
      branch = branch;
      inside = passed_few words b.width b.skip b.bytes b.children.items b.population c.down.at.1 c.step-step.result branch c.step-step.ensures;
      step = reached_rank words b.width b.skip b.bytes b.children.items b.population branch c.down.at.1 c.step-step.result c.step-step.ensures;
      fits = way.0.part.fits;
      before = way.2;
      room = omega (arith, way.3, room);
    }

pub returns-in_default-step : goal.returns-in_default-step
returns-in_default-step g c =
    let words = g.V.Words.WORDS in
    let pairs = c.args.tree.now.pairs in
    let b = c.down.at.0.now in
    let base = c.args.key - c.down.at.1 in
    let way = c.down.invariant in
    let beside = beside_is c.step-step.result c.in_default-step.not-Child in
    let part = down_gap way.0 c.step-step.result beside c.step-step.ensures in
    let place = beside_reached (length b.children.items) c.step-step.result beside in
    let some = way.0.shown.some in
    record {
      entry = c.pair_behind.ensures.entry
          ∙ (λ t. option_or (slice_get (shift base (rest_of (256 ^ b.width) (number_of b.skip * 256) b.bytes b.children.items (place t))) 0) (sym way.1 t))
          ∙ sym (head-append (shift base (rest_of (256 ^ b.width) (number_of b.skip * 256) b.bytes b.children.items (passed (length b.children.items) c.step-step.result))) way.0.back)
          ∙ sym (part-from words (256 ^ 8) pairs c.args.key 1 0 c.args.key [] _ _ part (omega arith) (omega arith));
      no_fewer = omega (arith, way.4, c.pair_behind.ensures.no_fewer);
      visits = omega (arith, way.3, c.pair_behind.ensures.visits);
    }

pub index-requires : goal.index-requires
index-requires g c =
    let inside = child_inside c.down.invariant.0 c.in-Child.field-0 c.in-Child.place c.in-Child.rest c.in-Child.ensures in
    omega (arith, c.down.at.0.now.children.ok.0)

pub enter-requires-in-down : goal.enter-requires-in-down
enter-requires-in-down g c =
    (omega arith, (omega (arith, c.down.invariant.3, c.requires), child_is c.down.invariant.0 c.in-Child.field-0 c.in-Child.place c.in-Child.rest c.in-Child.ensures c.index.ensures))

pub turn_to-later-requires-clause-inside : goal.turn_to-later-requires-clause-inside
turn_to-later-requires-clause-inside g c =
    let inside = child_inside c.down.invariant.0 c.in-Child.field-0 c.in-Child.place c.in-Child.rest c.in-Child.ensures in
    omega arith

pub turn_to-later-requires-clause-step : goal.turn_to-later-requires-clause-step
turn_to-later-requires-clause-step g c =
    let words = g.V.Words.WORDS in
    let b = c.down.at.0.now in
    reached_rank words b.width b.skip b.bytes b.children.items b.population (branch_is c.down.invariant.0) c.down.at.1
    (Child c.in-Child.field-0 c.in-Child.place c.in-Child.rest) c.in-Child.ensures

pub down-preserved : goal.down-preserved
down-preserved g c =
    let b = c.down.at.0.now in
    let base = c.args.key - c.down.at.1 in
    let way = c.down.invariant in
    let next = down_child way.0 c.in-Child.field-0 c.in-Child.place c.in-Child.rest c.in-Child.ensures c.index.ensures c.in-Branch-enter.ensures.view in
    let less = next.width_is in
    let visits = c.enter-in-down.ensures.visits in
    let so_far = way.3 in (
      next.down,
      ap (λ ps. slice_get ps 0) next.back_is ∙ head-append (shift base (rest_of (256 ^ b.width) (number_of b.skip * 256) b.bytes b.children.items (suc c.in-Child.place))) way.0.back
          ∙ (λ t. option_or (slice_get (shift base (rest_of (256 ^ b.width) (number_of b.skip * 256) b.bytes b.children.items (suc c.in-Child.place))) 0) (way.1 t))
          ∙ sym c.turn_to-later.ensures.pair,
      c.turn_to-later.ensures.turn,
      omega arith,
      omega (arith, visits, way.4),
    )

pub returns-in-Some : goal.returns-in-Some
returns-in-Some g c =
    let words = g.V.Words.WORDS in
    let pairs = c.args.tree.now.pairs in
    let view = c.enter-in-down.result in
    let next = down_child c.down.invariant.0 c.in-Child.field-0 c.in-Child.place c.in-Child.rest c.in-Child.ensures c.index.ensures c.enter-in-down.ensures.view in
    let above = next.down.above in
    let whole : c.args.key ≡ c.args.key - c.in-Child.rest + c.in-Child.rest = omega arith in
    let some = next.down.shown.some in
    record {
      entry = (λ t. Some (whole t, c.in-Some.value)) ∙ down_from words pairs view c.args.key c.in-Child.rest next.down (Some (c.in-Child.rest, c.in-Some.value)) (sym c.in-Some.ensures);
      no_fewer = omega (arith, c.down.invariant.4, c.enter-in-down.ensures.visits);
      visits = omega (arith, c.down.invariant.3, c.enter-in-down.ensures.visits, next.width_is);
    }

pub pair_behind-requires-in_default-from_in : goal.pair_behind-requires-in_default-from_in
pair_behind-requires-in_default-from_in g c =
    let words = g.V.Words.WORDS in
    let b = c.down.at.0.now in
    let way = c.down.invariant in
    let next = down_child way.0 c.in-Child.field-0 c.in-Child.place c.in-Child.rest c.in-Child.ensures c.index.ensures c.enter-in-down.ensures.view in
    let kid = child_inside way.0 c.in-Child.field-0 c.in-Child.place c.in-Child.rest c.in-Child.ensures in
    let branch = branch_is way.0 in
    let less = next.width_is in
    let some = next.down.shown.some in
    let visits = c.enter-in-down.ensures.visits in
    let room = c.requires in
    record {
      branch = branch;
      inside = omega (arith, kid);
      step = reached_rank words b.width b.skip b.bytes b.children.items b.population branch c.down.at.1 (Child c.in-Child.field-0 c.in-Child.place c.in-Child.rest) c.in-Child.ensures;
      fits = way.0.part.fits;
      before = way.2;
      room = omega (arith, way.3, visits, room);
    }

pub returns-in_default-from_in : goal.returns-in_default-from_in
returns-in_default-from_in g c =
    let words = g.V.Words.WORDS in
    let pairs = c.args.tree.now.pairs in
    let b = c.down.at.0.now in
    let base = c.args.key - c.down.at.1 in
    let way = c.down.invariant in
    let view = c.enter-in-down.result in
    let next = down_child way.0 c.in-Child.field-0 c.in-Child.place c.in-Child.rest c.in-Child.ensures c.index.ensures c.enter-in-down.ensures.view in
    let behind = shift base (rest_of (256 ^ b.width) (number_of b.skip * 256) b.bytes b.children.items (suc c.in-Child.place)) in
    let some = next.down.shown.some in
    let visits = c.enter-in-down.ensures.visits in
    record {
      entry = c.pair_behind-in_default-from_in.ensures.entry ∙ (λ t. option_or (slice_get behind 0) (sym way.1 t)) ∙ sym (head-append behind way.0.back) ∙ sym (ap (λ ps. slice_get ps 0) next.back_is)
          ∙ down_from words pairs view c.args.key c.in-Child.rest next.down None (sym c.in_default-from_in.is ∙ c.from_in.ensures);
      no_fewer = omega (arith, way.4, c.pair_behind-in_default-from_in.ensures.no_fewer, visits);
      visits = omega (arith, way.3, c.pair_behind-in_default-from_in.ensures.visits, next.width_is);
    }

pub overflow_add-result : goal.overflow_add-result
overflow_add-result g c =
    let view = c.enter-in-down.result in
    let next = down_child c.down.invariant.0 c.in-Child.field-0 c.in-Child.place c.in-Child.rest c.in-Child.ensures c.index.ensures c.enter-in-down.ensures.view in
    let down = next.down in
    let fits = down.part.fits in
    let below = found_below g.V.Words.WORDS 0 (256 ^ width_of view) (λ pair. is_ge (word_order pair.0 c.in-Child.rest))
    (view_pairs view) c.in-Some-from_in.found.0 c.in-Some-from_in.found.1 down.shown.map (sym c.from_in.ensures ∙ c.in-Some-from_in.is) in
    omega arith

pub returns-in_default-enter : goal.returns-in_default-enter
returns-in_default-enter g c =
    let words = g.V.Words.WORDS in
    let pairs = c.args.tree.now.pairs in
    let view = c.enter-in-down.result in
    let next = down_child c.down.invariant.0 c.in-Child.field-0 c.in-Child.place c.in-Child.rest c.in-Child.ensures c.index.ensures c.enter-in-down.ensures.view in
    let some = next.down.shown.some in
    record {
      entry = down_from words pairs view c.args.key c.in-Child.rest next.down (Some c.in-Some-from_in.found) (sym c.in-Some-from_in.is ∙ c.from_in.ensures);
      no_fewer = omega (arith, c.down.invariant.4, c.enter-in-down.ensures.visits);
      visits = omega (arith, c.down.invariant.3, c.enter-in-down.ensures.visits, next.width_is);
    }
