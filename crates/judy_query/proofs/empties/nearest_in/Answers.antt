use Rattle.std.proofs.Common.{◌≡◌, ◌^◌, ◌≤◌, None, Some, sym, ap, ◌∙◌, subst, arith}
use Rattle.std.proofs.Math.Nat.{pow-le-pow_right}
use Rattle.judy_model.proofs.lemmas.orders.ByteLemmas.{unit_pos}
use Rattle.judy_node.specs.Views.{view_pairs}
use Rattle.judy_query.specs.Parts.{width_of}
use Rattle.judy_query.specs.Rooms.{HasWidth, IsAbsent}
use Rattle.judy_query.proofs.SideRooms.{end_within, from_end, absent_below, IsNarrowed, kid_width, narrowed_kid, whole_room, whole_run, branch_at, branch_in, branch_nowhere, narrowed_at, some_absent}
use Rattle.judy_query.proofs.empties.nearest_in.Goals as goal

pub down-init : goal.down-init
down-init g c =
    let words = g.V.Words.WORDS in
    let child = c.args.child.now in
    let width = c.args.width in
    let side = c.args.side in
    let whole = whole_room words width child c.requires.child c.requires.narrow c.requires.room in
    let view = c.enter-view.result in
    let wide = kid_width side words child.pairs (256 ^ width) child width 0 view whole c.enter-view.ensures.view in (
      narrowed_kid side words child.pairs (256 ^ width) child width 0 view whole c.enter-view.ensures.view (whole_run side child.pairs (256 ^ width)) (omega arith),
      sym wide,
      omega (arith, wide, c.enter-view.ensures.visits),
      omega (arith, wide),
      omega (arith, c.enter-view.ensures.visits),
      c.enter-view.ensures.spared,
    )

pub room_of-requires : goal.room_of-requires
room_of-requires g c =
    let here = subst (λ v. IsNarrowed c.args.side g.V.Words.WORDS c.args.child.now.pairs (256 ^ c.args.width) v c.down.start) c.in-Branch.is c.down.invariant.0 in
    let widest : 256 ^ c.args.width ≤ 256 ^ 7 = pow-le-pow_right {n = 256} (omega arith) c.requires.narrow in
    let fits = here.fits in
    record {
      branch = here.shown.place.1;
      wide = c.down.invariant.1 ∙ ap width_of c.in-Branch.is;
      narrow = omega (arith, c.down.invariant.1, c.down.invariant.3, c.requires.narrow);
      fits = omega arith;
    }

pub returns-in-At-clause-word : goal.returns-in-At-clause-word
returns-in-At-clause-word g c =
    let words = g.V.Words.WORDS in
    let all = c.args.child.now.pairs in
    let top = 256 ^ c.args.width in
    let side = c.args.side in
    branch_at words all top c.down.view c.down.start c.in-Branch.branch c.in-Branch.is c.room_of.result side c.in-At.word c.in-At.is c.down.invariant.0 c.room_of.ensures.room

pub enter-view-requires-in-In : goal.enter-view-requires-in-In
enter-view-requires-in-In g c =
    let words = g.V.Words.WORDS in
    let all = c.args.child.now.pairs in
    let top = 256 ^ c.args.width in
    let side = c.args.side in
    let kid = branch_in words all top c.down.view c.down.start c.in-Branch.branch c.in-Branch.is c.room_of.result side c.in-In.inner c.in-In.width c.in-In.from
    c.in-In.is c.down.invariant.0 c.room_of.ensures.room in
    let some = c.down.invariant.0.shown.some in
    record {
      below = omega (arith, c.down.invariant.2, c.requires.below, c.requires.narrow);
      child = kid.0.child;
      narrow = kid.0.narrow;
      room = kid.0.room;
    }

pub down-smaller : goal.down-smaller
down-smaller g c =
    let words = g.V.Words.WORDS in
    let all = c.args.child.now.pairs in
    let top = 256 ^ c.args.width in
    let side = c.args.side in
    let kid = branch_in words all top c.down.view c.down.start c.in-Branch.branch c.in-Branch.is c.room_of.result side c.in-In.inner c.in-In.width c.in-In.from
    c.in-In.is c.down.invariant.0 c.room_of.ensures.room in
    let wide = kid_width side words all top c.in-In.inner.now c.in-In.width c.in-In.from c.enter-view-in-In.result kid.0 c.enter-view-in-In.ensures.view in
    let narrower = subst (HasWidth c.in-Branch.branch.now.width) c.in-In.is c.room_of.ensures.width in
    omega (arith, ap width_of c.in-Branch.is)

pub down-preserved : goal.down-preserved
down-preserved g c =
    let words = g.V.Words.WORDS in
    let all = c.args.child.now.pairs in
    let top = 256 ^ c.args.width in
    let side = c.args.side in
    let kid = branch_in words all top c.down.view c.down.start c.in-Branch.branch c.in-Branch.is c.room_of.result side c.in-In.inner c.in-In.width c.in-In.from
    c.in-In.is c.down.invariant.0 c.room_of.ensures.room in
    let wide = kid_width side words all top c.in-In.inner.now c.in-In.width c.in-In.from c.enter-view-in-In.result kid.0 c.enter-view-in-In.ensures.view in
    let narrower = subst (HasWidth c.in-Branch.branch.now.width) c.in-In.is c.room_of.ensures.width in
    let less = ap width_of c.in-Branch.is in
    let visits = c.enter-view-in-In.ensures.visits in
    let so_far = c.down.invariant.2 in
    let narrow = c.down.invariant.3 in (
      narrowed_kid side words all top c.in-In.inner.now c.in-In.width c.in-In.from c.enter-view-in-In.result kid.0 c.enter-view-in-In.ensures.view kid.1 kid.2,
      sym wide,
      omega arith,
      omega arith,
      omega (arith, visits, c.down.invariant.4),
      c.enter-view-in-In.ensures.spared ∙ c.down.invariant.5,
    )

pub unreachable-requires : goal.unreachable-requires
unreachable-requires g c =
    let words = g.V.Words.WORDS in
    let all = c.args.child.now.pairs in
    let top = 256 ^ c.args.width in
    let side = c.args.side in
    absurd (branch_nowhere words all top c.down.view c.down.start c.in-Branch.branch c.in-Branch.is c.room_of.result side c.in-Nowhere.is c.down.invariant.0 c.room_of.ensures.room)

pub end-requires : goal.end-requires
end-requires g c = omega (arith, c.down.invariant.1, c.down.invariant.3, c.requires.narrow)

pub absent-requires-clause-shown : goal.absent-requires-clause-shown
absent-requires-clause-shown g c = c.down.invariant.0.shown

pub absent-requires-clause-within : goal.absent-requires-clause-within
absent-requires-clause-within g c =
    let within = end_within c.args.side (256 ^ c.down.wide) (unit_pos c.down.wide) in
    omega (arith, c.end.ensures)

pub overflow_add-result : goal.overflow_add-result
overflow_add-result g c =
    let side = c.args.side in
    let pairs = view_pairs c.down.view in
    let told = from_end side pairs c.end.result (256 ^ c.down.wide) c.absent.result (unit_pos c.down.wide) c.end.ensures c.absent.ensures in
    let below = absent_below side pairs 0 (256 ^ c.down.wide) c.in-Some.word (subst (IsAbsent side pairs 0 (256 ^ c.down.wide)) c.in-Some.is told) in
    let widest : 256 ^ c.args.width ≤ 256 ^ 7 = pow-le-pow_right {n = 256} (omega arith) c.requires.narrow in
    let wide : 256 ^ c.down.wide ≡ 256 ^ width_of c.down.view = ap (λ w. 256 ^ w) c.down.invariant.1 in
    omega (arith, c.down.invariant.0.fits)

pub unreachable-requires-in-None : goal.unreachable-requires-in-None
unreachable-requires-in-None g c =
    let side = c.args.side in
    let pairs = view_pairs c.down.view in
    let told = from_end side pairs c.end.result (256 ^ c.down.wide) c.absent.result (unit_pos c.down.wide) c.end.ensures c.absent.ensures in
    absurd (some_absent side g.V.Words.WORDS pairs (256 ^ width_of c.down.view) c.down.invariant.0.shown.map c.down.invariant.0.room
    (subst (λ w. IsAbsent side pairs 0 (256 ^ w) None) c.down.invariant.1 (subst (IsAbsent side pairs 0 (256 ^ c.down.wide)) c.in-None.is told)))

pub returns : goal.returns
returns g c =
    let side = c.args.side in
    let here = c.down.invariant.0 in
    let pairs = view_pairs c.down.view in
    let told = from_end side pairs c.end.result (256 ^ c.down.wide) c.absent.result (unit_pos c.down.wide) c.end.ensures c.absent.ensures in
    let found = subst (λ w. IsAbsent side pairs 0 (256 ^ w) (Some c.in-Some.word)) c.down.invariant.1 (subst (IsAbsent side pairs 0 (256 ^ c.down.wide)) c.in-Some.is told) in
    let some = here.shown.some in
    record {
      word = narrowed_at g.V.Words.WORDS c.args.child.now.pairs pairs (256 ^ c.args.width) c.down.start (256 ^ width_of c.down.view) here.window here.fits side c.in-Some.word here.run found;
      no_fewer = omega (arith, c.down.invariant.4, c.enter-view.ensures.visits);
      spared = c.down.invariant.5;
      visits = omega (arith, c.down.invariant.2, c.enter-view.ensures.visits);
    }
