-- `sellumaq_judy1_walk_down`: what is written is of the array that the handle lends; a null handle has no keys.
use Rattle.std.proofs.Common.{Option, length, subst, refl}
use Rattle.judy_word.specs.WordArrays.{WordArray}
use Rattle.judy_c.specs.Maps.{array_of, set_of}
use Rattle.judy_c.specs.Walks.{IsFilled, keys_down}
use Rattle.judy_c.proofs.DownWalks.{keys_filled, nothing_down}
use Rattle.judy_c.proofs.walks.sellumaq_judy1_walk_down.Goals as goal

pub returns-in-Some-clause-filled : goal.returns-in-Some-clause-filled
returns-in-Some-clause-filled c =
    let before = c.args.keys.now in
    let after = c.fill_down.new.out in
    let count = c.fill_down.result in
    subst (λ (held : Option WordArray). IsFilled (keys_down (array_of held).map c.args.from) before count after) c.in-Some.ensures.value
    (keys_filled c.in-Some.array.now.map c.args.from before after count c.fill_down.ensures.count c.fill_down.ensures.out)

pub returns-in-None-clause-filled : goal.returns-in-None-clause-filled
returns-in-None-clause-filled c =
    let before = c.args.keys.now in
    keys_filled (set_of c.args.handle.now) c.args.from before before 0
    (nothing_down (array_of c.args.handle.now.array) c.args.from (length before) c.in-None.ensures.null) refl
