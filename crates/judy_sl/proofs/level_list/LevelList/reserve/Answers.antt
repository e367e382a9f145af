use Rattle.std.proofs.Common.{ap, ◌∙◌, arith}
use Rattle.slab.specs.Slab.{Slab}
use Rattle.judy_sl.specs.LevelLists.{LevelParts, side_by_side}
use Rattle.judy_sl.proofs.lemmas.seats.Numbered.{count-both, same-but-room, room-all}
use Rattle.judy_sl.proofs.level_list.LevelList.reserve.Goals as goal

pub overflow_sub-capacity : goal.overflow_sub-capacity
overflow_sub-capacity c =
    let same = count-both c.self.inside.words c.self.inside.numbers.items c.args.self.now c.self.view_is in
    omega (arith, same, c.len-levels.ensures, c.capacity.ensures.holds_all)

pub returns-then-capacity-levels-clause-room : goal.returns-then-capacity-levels-clause-room
returns-then-capacity-levels-clause-room c =
    let same = count-both c.self.inside.words c.self.inside.numbers.items c.args.self.now c.self.view_is in
    omega (arith, same, c.len-levels.ensures, c.capacity.ensures.value, c.capacity.ensures.holds_all, c.if-capacity-levels.true)

pub returns-in_err-reserve_exact-clause-unasked : goal.returns-in_err-reserve_exact-clause-unasked
returns-in_err-reserve_exact-clause-unasked c = λ room.
    let same = count-both c.self.inside.words c.self.inside.numbers.items c.args.self.now c.self.view_is in
    absurd (omega (arith, same, c.len-levels.ensures, c.capacity.ensures.value, c.if-capacity-levels.false, room))

pub returns-in_err-lengthen-clause-same : goal.returns-in_err-lengthen-clause-same
returns-in_err-lengthen-clause-same c =
    let after = c.reserve_exact.new.self in
    let others = c.lengthen.new.numbers.items in
    same-but-room c.self.inside.words after c.self.inside.numbers.items others c.reserve_exact.ensures.rest_kept c.lengthen.ensures.same
    ∙ ap (λ (levels : Slab LevelParts). record levels { capacity = (side_by_side after others).capacity }) c.self.view_is

pub returns-in_err-lengthen-clause-unasked : goal.returns-in_err-lengthen-clause-unasked
returns-in_err-lengthen-clause-unasked c = λ room.
    let same = count-both c.self.inside.words c.self.inside.numbers.items c.args.self.now c.self.view_is in
    absurd (omega (arith, same, c.len-levels.ensures, c.capacity.ensures.value, c.if-capacity-levels.false, room))

pub returns-clause-same : goal.returns-clause-same
returns-clause-same c =
    let after = c.reserve_exact.new.self in
    let others = c.lengthen.new.numbers.items in
    same-but-room c.self.inside.words after c.self.inside.numbers.items others c.reserve_exact.ensures.rest_kept c.lengthen.ensures.same
    ∙ ap (λ (levels : Slab LevelParts). record levels { capacity = (side_by_side after others).capacity }) c.self.view_is

pub returns-clause-room : goal.returns-clause-room
returns-clause-room c =
    room-all c.reserve_exact.new.self c.lengthen.new.numbers.items
    (omega (arith, c.in_ok-lengthen.ensures.long, c.capacity-2.ensures.value, c.lengthen.new.numbers.ok))
    c.args.more
    (omega (arith, c.in_ok-reserve_exact.ensures.room, c.saturating_add.ensures, c.ranges.more.fits))

pub returns-clause-unasked : goal.returns-clause-unasked
returns-clause-unasked c = λ room.
    let same = count-both c.self.inside.words c.self.inside.numbers.items c.args.self.now c.self.view_is in
    absurd (omega (arith, same, c.len-levels.ensures, c.capacity.ensures.value, c.if-capacity-levels.false, room))
