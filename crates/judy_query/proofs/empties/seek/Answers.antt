use Rattle.std.proofs.Common.{◌+◌, ◌-◌, ◌^◌, ◌<◌, length, Some, sym, ap, ◌∙◌, subst, refl, arith}
use Rattle.judy_node.specs.Views.{view_pairs}
use Rattle.judy_node.specs.declared.view.ViewOf.TheVariants.{Branch}
use Rattle.judy_query.specs.Parts.{width_of}
use Rattle.judy_query.specs.Rooms.{IsAbsent, IsRoomPast, low_of, high_of}
use Rattle.judy_query.proofs.Downs.{down_root, down_child, child_inside, child_is, beside_is, branch_is, view_width}
use Rattle.judy_query.proofs.BranchRooms.{beside_absent, not_full, all_full}
use Rattle.judy_query.proofs.RoomSteps.{down_absent, child_room}
use Rattle.judy_query.proofs.SideRooms.{high_within, absent_below, room_told, past_all, at_key, down_told, down_past, room_passed, full_past}
use Rattle.judy_query.proofs.empties.seek.Goals as goal

pub down-init : goal.down-init
down-init g c =
    let words = g.V.Words.WORDS in
    let all = c.args.tree.now.pairs in
    let key = c.args.key in
    let down = down_root words c.args.tree.now (Branch c.in-Branch.top) key c.law.ensures c.in-Branch.ensures.view (omega (arith, c.ranges.key)) in
    let wide = view_width words 8 c.args.tree.now (Branch c.in-Branch.top) (λ none. refl) c.in-Branch.ensures.view in (
      down,
      (λ room is. subst (IsRoomPast c.args.side words all 0 (2 ^ 64) (key - key) (256 ^ width_of (Branch c.in-Branch.top))) (sym is)
          (past_all _ c.args.side words all (2 ^ 64) (key - key) (256 ^ width_of (Branch c.in-Branch.top)) (omega arith) (ap (λ w. 256 ^ w) wide))),
      tt,
      omega (arith, c.enter_root.ensures.visits),
      omega (arith, c.enter_root.ensures.visits),
      c.enter_root.ensures.full,
    )

pub returns-in_default-step : goal.returns-in_default-step
returns-in_default-step g c =
    let words = g.V.Words.WORDS in
    let all = c.args.tree.now.pairs in
    let b = c.down.at.0.now in
    let key = c.args.key in
    let left = c.down.at.1 in
    let down = c.down.invariant.0 in
    let absent = beside_absent words b.width b.skip b.bytes b.children.items b.population (branch_is down) c.step.result left
    (beside_is c.step.result c.in_default-step.not-Child) c.step.ensures down.inside in
    let some = down.shown.some in
    record {
      room = at_key _ c.args.side words all key (2 ^ 64) (omega (arith, c.ranges.key)) (down_absent words all (Branch c.down.at.0) key left down absent);
      no_fewer = c.down.invariant.4;
      spared = c.down.invariant.5;
      visits = omega (arith, c.down.invariant.3);
    }

pub index-child-requires : goal.index-child-requires
index-child-requires g c =
    let inside = child_inside c.down.invariant.0 c.in-Child.byte c.in-Child.place c.in-Child.rest c.in-Child.ensures in
    omega (arith, c.down.at.0.now.children.ok.0)

pub returns-then-is_full-clause-room : goal.returns-then-is_full-clause-room
returns-then-is_full-clause-room g c =
    let b = c.down.at.0 in
    let side = c.args.side in
    let full = all_full (length c.index-child.result.now.pairs) (256 ^ b.now.width) c.is_full.result c.is_full.ensures c.if-is_full.true in
    full_past g.V.Words.WORDS c.args.tree.now.pairs b c.args.key c.down.at.1 c.down.invariant.0 c.in-Child.byte c.in-Child.place c.in-Child.rest c.in-Child.ensures
    side c.index-child.result.now c.room_beside.result c.index-child.ensures full
    (room_passed c.down.invariant.0 refl c.in-Child.byte c.in-Child.place c.in-Child.rest c.in-Child.ensures c.from.result c.from.ensures side _ c.room_beside.result
    c.room_beside.ensures c.down.invariant.1)

pub enter-requires-clause-child : goal.enter-requires-clause-child
enter-requires-clause-child g c = child_is c.down.invariant.0 c.in-Child.byte c.in-Child.place c.in-Child.rest c.in-Child.ensures c.index-child.ensures

pub enter-requires-clause-room : goal.enter-requires-clause-room
enter-requires-clause-room g c =
    let b = c.down.at.0 in
    let some = not_full (length c.index-child.result.now.pairs) (256 ^ b.now.width) c.is_full.result c.is_full.ensures c.if-is_full.false in
    let room = child_room g.V.Words.WORDS c.args.tree.now.pairs b c.args.key c.down.at.1 c.down.invariant.0 c.in-Child.byte c.in-Child.place c.in-Child.rest
    c.in-Child.ensures c.index-child.result.now c.index-child.ensures some in
    omega (arith, room)

pub down-preserved : goal.down-preserved
down-preserved g c =
    let side = c.args.side in
    let next = down_child c.down.invariant.0 c.in-Child.byte c.in-Child.place c.in-Child.rest c.in-Child.ensures c.index-child.ensures c.in-Branch-enter.ensures.view in
    let less = next.width_is in
    let visits = c.in-Branch-enter.ensures.visits in
    let so_far = c.down.invariant.3 in
    let further = c.nearest_room-beside in (
      next.down,
      (λ room past. subst (λ w. IsRoomPast side g.V.Words.WORDS c.args.tree.now.pairs 0 (2 ^ 64) (c.args.key - c.in-Child.rest) (256 ^ w) room) (sym less)
          (room_passed c.down.invariant.0 refl c.in-Child.byte c.in-Child.place c.in-Child.rest c.in-Child.ensures c.from.result c.from.ensures side _ room past
          (λ other is. subst (IsRoomPast side g.V.Words.WORDS c.args.tree.now.pairs 0 (2 ^ 64) (c.args.key - c.down.at.1) (256 ^ width_of (Branch c.down.at.0)))
          (sym is) (c.down.invariant.1 further.result further.ensures)))),
      record {
        branch = branch_is c.down.invariant.0;
        child = c.in-Child.ensures.1 ∙ ap Some (sym c.from.ensures);
        small = omega (arith, c.from.ensures, c.in-Child.ensures.0.byte_is);
        fits = omega (arith, c.down.invariant.0.part.fits);
      },
      omega arith,
      omega (arith, visits, c.down.invariant.4),
      c.in-Branch-enter.ensures.spared ∙ c.down.invariant.5,
    )

pub absent-requires-in_default-enter-clause-shown : goal.absent-requires-in_default-enter-clause-shown
absent-requires-in_default-enter-clause-shown g c = (down_child c.down.invariant.0 c.in-Child.byte c.in-Child.place c.in-Child.rest c.in-Child.ensures
    c.index-child.ensures c.enter.ensures.view).down.shown

pub absent-requires-in_default-enter-clause-width : goal.absent-requires-in_default-enter-clause-width
absent-requires-in_default-enter-clause-width g c =
    sym (down_child c.down.invariant.0 c.in-Child.byte c.in-Child.place c.in-Child.rest c.in-Child.ensures c.index-child.ensures c.enter.ensures.view).width_is

pub absent-requires-in_default-enter-clause-within : goal.absent-requires-in_default-enter-clause-within
absent-requires-in_default-enter-clause-within g c =
    let next = down_child c.down.invariant.0 c.in-Child.byte c.in-Child.place c.in-Child.rest c.in-Child.ensures c.index-child.ensures c.enter.ensures.view in
    subst (λ w. c.in-Child.rest < 256 ^ w) next.width_is next.down.inside

pub returns-in_default-absent : goal.returns-in_default-absent
returns-in_default-absent g c =
    let side = c.args.side in
    let words = g.V.Words.WORDS in
    let all = c.args.tree.now.pairs in
    let rest = c.in-Child.rest in
    let view = c.enter.result in
    let next = down_child c.down.invariant.0 c.in-Child.byte c.in-Child.place rest c.in-Child.ensures c.index-child.ensures c.enter.ensures.view in
    let beside = c.room_beside-in_default-absent in
    let told = subst (IsAbsent side (view_pairs view) (low_of side rest) (high_of side rest (256 ^ width_of view))) c.in_default-absent.is
    (subst (λ w. IsAbsent side (view_pairs view) (low_of side rest) (high_of side rest (256 ^ w)) c.absent-in_default-enter.result) (sym next.width_is) c.absent-in_default-enter.ensures) in
    let some = next.down.shown.some in
    record {
      room = down_past words all view c.args.key rest next.down side beside.result told
          (subst (λ w. IsRoomPast side words all 0 (2 ^ 64) (c.args.key - rest) (256 ^ w) beside.result) (sym next.width_is)
          (room_passed c.down.invariant.0 refl c.in-Child.byte c.in-Child.place rest c.in-Child.ensures c.from.result c.from.ensures side _ beside.result beside.ensures c.down.invariant.1));
      no_fewer = omega (arith, c.down.invariant.4, c.enter.ensures.visits);
      spared = c.enter.ensures.spared ∙ c.down.invariant.5;
      visits = omega (arith, c.down.invariant.3, c.enter.ensures.visits, next.width_is);
    }

pub overflow_add-result : goal.overflow_add-result
overflow_add-result g c =
    let side = c.args.side in
    let key = c.args.key in
    let all = c.args.tree.now.pairs in
    let next = down_child c.down.invariant.0 c.in-Child.byte c.in-Child.place c.in-Child.rest c.in-Child.ensures c.index-child.ensures c.enter.ensures.view in
    let word = down_told g.V.Words.WORDS all c.enter.result key c.in-Child.rest next.down side c.in-Some.word (sym next.width_is) c.in-Some.is c.absent-in_default-enter.ensures in
    omega (arith, absent_below side all (low_of side key) (high_of side key (2 ^ 64)) (key - c.in-Child.rest + c.in-Some.word) word, high_within side key (2 ^ 64) (omega (arith, c.ranges.key)))

pub returns-in_default-enter : goal.returns-in_default-enter
returns-in_default-enter g c =
    let side = c.args.side in
    let key = c.args.key in
    let all = c.args.tree.now.pairs in
    let next = down_child c.down.invariant.0 c.in-Child.byte c.in-Child.place c.in-Child.rest c.in-Child.ensures c.index-child.ensures c.enter.ensures.view in
    let word = down_told g.V.Words.WORDS all c.enter.result key c.in-Child.rest next.down side c.in-Some.word (sym next.width_is) c.in-Some.is c.absent-in_default-enter.ensures in
    let some = next.down.shown.some in
    record {
      room = room_told _ side g.V.Words.WORDS all (low_of side key) (high_of side key (2 ^ 64)) (Some (key - c.in-Child.rest + c.in-Some.word)) word;
      no_fewer = omega (arith, c.down.invariant.4, c.enter.ensures.visits);
      spared = c.enter.ensures.spared ∙ c.down.invariant.5;
      visits = omega (arith, c.down.invariant.3, c.enter.ensures.visits, next.width_is);
    }
