use Rattle.std.proofs.Common.{◌≡◌, ◌+◌, ◌<◌, sym, subst, ◌∙◌, arith}
use Rattle.std.specs.FinMap.{len}
use Rattle.judy_node.specs.Trees.{Pairs}
use Rattle.judy_word.specs.Held.{map_in, with_all}
use Rattle.judy_word.proofs.FillingFacts.{past_with, full_with, room_with}
use Rattle.judy_word.proofs.filling.Filling.refusal_of.Goals as goal

pub returns-in_default : goal.returns-in_default
returns-in_default g c = λ value.
    let tree = c.self.inside.tree in
    let past = subst (λ (kept : Pairs). tree.limit < len (with_all (map_in tree) kept)) c.deref.ensures.value (c.room_beside.ensures.none c.in_default.is) in
    rw (← c.self.view_is) (past_with (with_all (map_in tree) c.self.inside.kept.items) c.args.key value tree.limit past)

pub returns-then-room-gt0 : goal.returns-then-room-gt0
returns-then-room-gt0 g c = λ value.
    let tree = c.self.inside.tree in
    let left = subst (λ (kept : Pairs). c.in-Some.room + len (with_all (map_in tree) kept) ≡ tree.limit) c.deref.ensures.value c.in-Some.ensures.room in
    rw (← c.self.view_is) (room_with (with_all (map_in tree) c.self.inside.kept.items) c.args.key value tree.limit c.in-Some.room (omega (arith, c.if-room-gt0.true)) left)

pub returns : goal.returns
returns g c = λ value.
    let tree = c.self.inside.tree in
    let left = subst (λ (kept : Pairs). c.in-Some.room + len (with_all (map_in tree) kept) ≡ tree.limit) c.deref.ensures.value c.in-Some.ensures.room in
    let none = c.if-room-gt0.false in
    let absent = sym c.has.ensures ∙ c.if-has.false in
    let missing = rw (← c.self.view_is) at absent in
    rw (← c.self.view_is) (full_with (with_all (map_in tree) c.self.inside.kept.items) c.args.key value tree.limit missing (omega (arith, left, none)))
