-- `sellumaq_judyl_walk_down`: what is written is of the array that the handle lends; a null handle has no keys.
use Rattle.std.proofs.Common.{ℕ, Option, length, subst, refl}
use Rattle.judy_word.specs.WordArrays.{WordArray}
use Rattle.judy_c.specs.declared.walks.Pair.{Pair}
use Rattle.judy_c.specs.Maps.{array_of, map_of}
use Rattle.judy_c.specs.Walks.{IsFilled, pairs_down}
use Rattle.judy_c.proofs.DownWalks.{made_filled, nothing_down}
use Rattle.judy_c.proofs.walks.sellumaq_judyl_walk_down.Goals as goal

abbrev pair_of : ℕ → ℕ → Pair
pair_of key value = record { key = key; value = value }

pub returns-in-Some-clause-filled : goal.returns-in-Some-clause-filled
returns-in-Some-clause-filled c =
    let before = c.args.pairs.now in
    let after = c.fill_down.new.out in
    let count = c.fill_down.result in
    subst (λ (held : Option WordArray). IsFilled (pairs_down (array_of held).map c.args.from) before count after) c.in-Some.ensures.value
    (made_filled c.in-Some.array.now.map c.args.from pair_of before after count c.fill_down.ensures.count c.fill_down.ensures.out)

pub returns-in-None-clause-filled : goal.returns-in-None-clause-filled
returns-in-None-clause-filled c =
    let before = c.args.pairs.now in
    made_filled (map_of c.args.handle.now) c.args.from pair_of before before 0
    (nothing_down (array_of c.args.handle.now.array) c.args.from (length before) c.in-None.ensures.null) refl
