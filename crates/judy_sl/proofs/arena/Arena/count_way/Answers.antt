use Rattle.std.proofs.Common.{ℕ, suc, is_some, List, take, drop, length, sym, ap, subst, ◌∙◌, arith}
use Rattle.std.proofs.lemmas.List.{length-take-le, take_rest}
use Rattle.judy_sl.specs.Arenas.{world_of}
use Rattle.judy_sl.specs.World.{World}
use Rattle.judy_sl.specs.Ways.{seat_in, levels_passed}
use Rattle.judy_sl.proofs.lemmas.counts.Stepping.{IsStepping, stepping-start, here, next-world, stepping-on, stepping-end}
use Rattle.judy_sl.proofs.lemmas.counts.PassedLevels.{once-front, once-passed}
use Rattle.judy_sl.proofs.lemmas.counts.WayLevels.{AreAlong, IsNext, along-front, along-way, next-along, next-is, none-left}
use Rattle.judy_sl.proofs.arena.Arena.count_way.Goals.{In-levels}
use Rattle.judy_sl.proofs.arena.Arena.count_way.Goals as goal

abbrev next : (c : In-levels) → IsNext (world_of c.levels.self) (seat_in c.levels.child) c.levels.invariant.places c.levels.rest.now
next c =
    next-along (world_of c.levels.self) (seat_in c.levels.child) c.levels.invariant.places c.levels.rest.now c.levels.left c.levels.invariant.many
    (let some = c.levels-test.true in omega (arith, some)) c.levels.invariant.along

pub levels-init : goal.levels-init
levels-init c =
    let world = world_of c.args.self.now in
    let passed = levels_passed world c.args.key.now in
    record {
      places = take c.args.count passed;
      many = length-take-le c.args.count passed c.requires.deep;
      along = along-front world c.args.count passed 0 c.args.key.now (along-way world c.args.key.now);
      stepping = stepping-start c.args.comes c.args.self.now (take c.args.count passed) c.requires.is_arena
          (once-front c.args.count passed (once-passed world c.requires.is_arena.behind c.requires.is_arena.is_world c.args.key.now c.requires.is_key)) c.requires.can;
    }

pub level_under-at-requires : goal.level_under-at-requires
level_under-at-requires c = ap is_some (next (goal.at.level_under-at-requires c).In-levels).entry

pub slice_bounds-rest-count : goal.slice_bounds-rest-count
slice_bounds-rest-count c = (next (goal.at.slice_bounds-rest-count c).In-levels).long

pub slice_bounds-rest-start : goal.slice_bounds-rest-start
slice_bounds-rest-start c = (next (goal.at.slice_bounds-rest-start c).In-levels).long

pub count_at-requires : goal.count_at-requires
count_at-requires c =
    let at = next (goal.at.count_at-requires c).In-levels in
    let is = next-is (world_of c.levels.self) (seat_in c.levels.child) c.levels.invariant.places c.levels.rest.now at c.level_under-at.result c.level_under-at.ensures in
    let all = take c.args.count (levels_passed (world_of c.args.self.now) c.args.key.now) in
    let can = here c.args.comes c.args.self.now c.levels.self c.level_under-at.result at.more all
    (subst (λ (left : List ℕ). IsStepping c.args.comes c.args.self.now c.levels.self left all) is.0 c.levels.invariant.stepping) in
    record { inside = can.0; can = can.1 }

pub levels-preserved : goal.levels-preserved
levels-preserved c =
    let at = next (goal.at.levels-preserved c).In-levels in
    let is = next-is (world_of c.levels.self) (seat_in c.levels.child) c.levels.invariant.places c.levels.rest.now at c.level_under-at.result c.level_under-at.ensures in
    let all = take c.args.count (levels_passed (world_of c.args.self.now) c.args.key.now) in
    let so_far = subst (λ (left : List ℕ). IsStepping c.args.comes c.args.self.now c.levels.self left all) is.0 c.levels.invariant.stepping in
    let same = next-world c.args.comes c.args.self.now c.levels.self c.level_under-at.result at.more all so_far c.count_at.new.self c.count_at.ensures in
    let one = ap (λ (places : List ℕ). length places) (sym is.0) ∙ c.levels.invariant.many in
    rw take_rest (record {
      places = at.more;
      many = omega (arith, one);
      along = subst (λ (world : World). AreAlong world (suc c.level_under-at.result) at.more (drop 8 c.levels.rest.now)) (sym same) is.1;
      stepping = stepping-on c.args.comes c.args.self.now c.levels.self c.level_under-at.result at.more all so_far c.count_at.new.self c.count_at.ensures;
    })

pub returns : goal.returns
returns c =
    let all = take c.args.count (levels_passed (world_of c.args.self.now) c.args.key.now) in
    let none = none-left c.levels.invariant.places c.levels.left c.levels.invariant.many (let ends = c.levels-test.false in omega (arith, ends)) in
    stepping-end c.args.comes c.args.self.now c.levels.self all
    (subst (λ (left : List ℕ). IsStepping c.args.comes c.args.self.now c.levels.self left all) none c.levels.invariant.stepping)
