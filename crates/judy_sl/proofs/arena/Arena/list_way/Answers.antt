use Rattle.std.proofs.Common.{◌≡◌, ℕ, ◌-◌, is_some, List, take, drop, length, sym, ap, subst, ◌∙◌, arith}
use Rattle.std.proofs.lemmas.List.{length-take-le, take_rest}
use Rattle.judy_sl.specs.Arenas.{world_of}
use Rattle.judy_sl.specs.Ways.{seat_in, levels_passed}
use Rattle.judy_sl.specs.Listed.{others_begin, IsBegun, AreListedBut, AreBegun}
use Rattle.judy_sl.proofs.lemmas.counts.ListSteps.{listed_off, listed_on, listed_end}
use Rattle.judy_sl.proofs.lemmas.counts.WayLevels.{IsNext, along-front, along-way, next-along, next-is, none-left}
use Rattle.judy_sl.proofs.arena.Arena.list_way.Goals.{In-levels}
use Rattle.judy_sl.proofs.arena.Arena.list_way.Goals as goal

abbrev next : (c : In-levels) → IsNext (world_of c.args.self.now) (seat_in c.levels.child) c.levels.invariant.places c.levels.rest.now
next c =
    next-along (world_of c.args.self.now) (seat_in c.levels.child) c.levels.invariant.places c.levels.rest.now c.levels.left c.levels.invariant.many
    (let some = c.levels-test.true in omega (arith, some)) c.levels.invariant.along

pub levels-init : goal.levels-init
levels-init c =
    let world = world_of c.args.self.now in
    let passed = levels_passed world c.args.key.now in
    record {
      places = take c.args.count passed;
      many = length-take-le c.args.count passed c.requires.deep;
      along = along-front world c.args.count passed 0 c.args.key.now (along-way world c.args.key.now);
      but = c.requires.but;
      begun = c.requires.begun;
    }

pub level_under-at-requires : goal.level_under-at-requires
level_under-at-requires c = ap is_some (next (goal.at.level_under-at-requires c).In-levels).entry

pub slice_bounds-rest-count : goal.slice_bounds-rest-count
slice_bounds-rest-count c = (next (goal.at.slice_bounds-rest-count c).In-levels).long

pub slice_bounds-rest-start : goal.slice_bounds-rest-start
slice_bounds-rest-start c = (next (goal.at.slice_bounds-rest-start c).In-levels).long

pub list_key-requires-clause-off : goal.list_key-requires-clause-off
list_key-requires-clause-off c =
    let at = next (goal.at.list_key-requires-clause-off c).In-levels in
    let is = next-is (world_of c.args.self.now) (seat_in c.levels.child) c.levels.invariant.places c.levels.rest.now at c.level_under-at.result c.level_under-at.ensures in
    rw take_rest (listed_off c.args.comes c.args.self.now c.levels.lists c.level_under-at.result at.more c.levels.rest.now
    (subst (λ (left : List ℕ). AreListedBut c.args.comes c.args.self.now c.levels.lists left c.levels.rest.now) is.0 c.levels.invariant.but))

pub list_key-requires-clause-begun : goal.list_key-requires-clause-begun
list_key-requires-clause-begun c comes =
    let at = next (goal.at.list_key-requires-clause-begun c).In-levels in
    let is = next-is (world_of c.args.self.now) (seat_in c.levels.child) c.levels.invariant.places c.levels.rest.now at c.level_under-at.result c.level_under-at.ensures in
    let one = ap (λ (places : List ℕ). length places) (sym is.0) ∙ c.levels.invariant.many in
    let begun = subst (λ (left : List ℕ). AreBegun (world_of c.args.self.now) left c.levels.rest.now c.args.beside) is.0 (c.levels.invariant.begun comes) in
    let same : length at.more ≡ c.levels.left - 1 = omega (arith, one) in
    rw take_rest (subst (IsBegun (world_of c.args.self.now) c.level_under-at.result (drop 8 c.levels.rest.now)) (ap (λ left. others_begin left c.args.beside) same ∙ sym c.others_begin.ensures)
    begun.0)

pub levels-preserved : goal.levels-preserved
levels-preserved c =
    let at = next (goal.at.levels-preserved c).In-levels in
    let is = next-is (world_of c.args.self.now) (seat_in c.levels.child) c.levels.invariant.places c.levels.rest.now at c.level_under-at.result c.level_under-at.ensures in
    let one = ap (λ (places : List ℕ). length places) (sym is.0) ∙ c.levels.invariant.many in
    let but = subst (λ (left : List ℕ). AreListedBut c.args.comes c.args.self.now c.levels.lists left c.levels.rest.now) is.0 c.levels.invariant.but in
    rw take_rest (record {
      places = at.more;
      many = omega (arith, one);
      along = is.1;
      but = listed_on c.args.comes c.args.self.now c.levels.lists c.level_under-at.result at.more c.levels.rest.now but c.list_key.new.lists c.list_key.ensures.here c.list_key.ensures.others;
      begun = λ comes. (subst (λ (left : List ℕ). AreBegun (world_of c.args.self.now) left c.levels.rest.now c.args.beside) is.0 (c.levels.invariant.begun comes)).1;
    })

pub returns : goal.returns
returns c =
    let none = none-left c.levels.invariant.places c.levels.left c.levels.invariant.many (let ends = c.levels-test.false in omega (arith, ends)) in
    listed_end c.args.comes c.args.self.now c.levels.lists c.levels.rest.now
    (subst (λ (left : List ℕ). AreListedBut c.args.comes c.args.self.now c.levels.lists left c.levels.rest.now) none c.levels.invariant.but)
