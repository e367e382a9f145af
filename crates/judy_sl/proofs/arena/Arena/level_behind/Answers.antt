use Rattle.std.proofs.Common.{◌∙◌, ◌-◌, sym, ap, arith, length, refl}
use Rattle.std.proofs.lemmas.List.{take_rest}
use Rattle.std.proofs.lemmas.Option.{none-some}
use Rattle.std.specs.FinMap.{get}
use Rattle.judy_sl.specs.Pieces.{pieces}
use Rattle.judy_sl.specs.Arenas.{world_of, node_of}
use Rattle.judy_sl.proofs.lemmas.seats.Linked.{taken_of}
use Rattle.judy_sl.proofs.lemmas.scans.RunWays.{way_start, way_step, way_child, way_moved, way_end, never_gone, never_tail}
use Rattle.judy_sl.proofs.arena.Arena.level_behind.Goals as goal

pub loop-rest-init : goal.loop-rest-init
loop-rest-init c = λ target leads. rw c.clear.ensures (way_start (world_of c.args.self.now) c.args.key.now c.args.depth target c.args.self.now.root.map refl leads)

pub unreachable-requires : goal.unreachable-requires
unreachable-requires c =
    let leads = c.requires.leads.1 in
    let step = way_step (world_of c.args.self.now) leads.front leads.seat c.requires.leads.0 (length c.args.key.now - c.args.depth) c.loop-rest.level.now.map
    c.loop-rest.rest.now c.loop-rest.above.items c.loop-rest.known (c.loop-rest.invariant c.requires.leads.0 leads) c.loop-rest-test.true in
    none-some step.at (sym c.in_default.is ∙ c.get.ensures ∙ ap (λ p. get c.loop-rest.level.now.map p) c.first_piece.ensures ∙ step.entry)

pub slice_bounds-rest-count : goal.slice_bounds-rest-count
slice_bounds-rest-count c =
    let leads = c.requires.leads.1 in
    let step = way_step (world_of c.args.self.now) leads.front leads.seat c.requires.leads.0 (length c.args.key.now - c.args.depth) c.loop-rest.level.now.map
    c.loop-rest.rest.now c.loop-rest.above.items c.loop-rest.known (c.loop-rest.invariant c.requires.leads.0 leads) c.loop-rest-test.true in
    omega (arith, step.eight)

pub slice_bounds-rest-start : goal.slice_bounds-rest-start
slice_bounds-rest-start c =
    let leads = c.requires.leads.1 in
    let step = way_step (world_of c.args.self.now) leads.front leads.seat c.requires.leads.0 (length c.args.key.now - c.args.depth) c.loop-rest.level.now.map
    c.loop-rest.rest.now c.loop-rest.above.items c.loop-rest.known (c.loop-rest.invariant c.requires.leads.0 leads) c.loop-rest-test.true in
    omega (arith, step.eight)

pub child-requires : goal.child-requires
child-requires c =
    let leads = c.requires.leads.1 in
    let step = way_step (world_of c.args.self.now) leads.front leads.seat c.requires.leads.0 (length c.args.key.now - c.args.depth) c.loop-rest.level.now.map
    c.loop-rest.rest.now c.loop-rest.above.items c.loop-rest.known (c.loop-rest.invariant c.requires.leads.0 leads) c.loop-rest-test.true in
    let here = way_child step c.in-Some.at (sym (ap (λ p. get c.loop-rest.level.now.map p) c.first_piece.ensures) ∙ sym c.get.ensures ∙ c.in-Some.is) in
    taken_of c.args.self.now c.in-Some.at (λ none. never_gone step.below (sym none ∙ here))

pub loop-rest-preserved : goal.loop-rest-preserved
loop-rest-preserved c = λ target leads.
    let step = way_step (world_of c.args.self.now) leads.front leads.seat target (length c.args.key.now - c.args.depth) c.loop-rest.level.now.map c.loop-rest.rest.now c.loop-rest.above.items
    c.loop-rest.known (c.loop-rest.invariant target leads) c.loop-rest-test.true in
    let child = c.in-Level.ensures in
    rw take_rest (way_moved step c.in-Some.at (sym (ap (λ p. get c.loop-rest.level.now.map p) c.first_piece.ensures) ∙ sym c.get.ensures ∙ c.in-Some.is)
    c.loop-rest.level refl c.keep_above.new.above.items c.keep_above.new.known c.keep_above.ensures c.in-Level.next.now.map (ap node_of child))

pub unreachable-requires-in-Tail : goal.unreachable-requires-in-Tail
unreachable-requires-in-Tail c =
    let leads = c.requires.leads.1 in
    let step = way_step (world_of c.args.self.now) leads.front leads.seat c.requires.leads.0 (length c.args.key.now - c.args.depth) c.loop-rest.level.now.map
    c.loop-rest.rest.now c.loop-rest.above.items c.loop-rest.known (c.loop-rest.invariant c.requires.leads.0 leads) c.loop-rest-test.true in
    let child = c.in-Tail.ensures in
    never_tail (pieces c.in-Tail.field-0.0) c.in-Tail.field-0.1 step.below (sym (ap node_of child) ∙
    way_child step c.in-Some.at (sym (ap (λ p. get c.loop-rest.level.now.map p) c.first_piece.ensures) ∙ sym c.get.ensures ∙ c.in-Some.is))

pub returns : goal.returns
returns c = λ target leads.
    let past = c.loop-rest-test.false in
    way_end (world_of c.args.self.now) leads.front leads.seat target (length c.args.key.now - c.args.depth) c.loop-rest.level.now.map c.loop-rest.rest.now c.loop-rest.above.items
    c.loop-rest.known (c.loop-rest.invariant target leads) (omega (arith, past))
