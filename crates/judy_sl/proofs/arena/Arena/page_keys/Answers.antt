use Rattle.std.proofs.Common.{◌+◌, ap, arith}
use Rattle.std.proofs.lemmas.List.{take_all}
use Rattle.judy_sl.specs.Arenas.{world_of}
use Rattle.judy_sl.specs.Counted.{keys_behind_all}
use Rattle.judy_sl.proofs.lemmas.places.PageCounts.{front_rest, front_one}
use Rattle.judy_sl.proofs.arena.Arena.page_keys.Goals as goal

pub overflow_add-keys : goal.overflow_add-keys
overflow_add-keys c =
    let world = world_of c.args.self.now in
    let page = c.args.page.now in
    let more = front_one world page c.loop-piece.piece-index c.loop-piece-test.true in
    let all = front_rest world page (c.loop-piece.piece-index + 1) in
    let so_far = c.loop-piece.invariant in
    let here = c.keys_at-keys.ensures in
    let fits = c.requires.fits in
    omega arith

pub loop-piece-preserved : goal.loop-piece-preserved
loop-piece-preserved c =
    let more = front_one (world_of c.args.self.now) c.args.page.now c.loop-piece.piece-index c.loop-piece-test.true in
    let so_far = c.loop-piece.invariant in
    let here = c.keys_at-keys.ensures in
    omega arith

pub returns : goal.returns
returns c =
    let all = ap (λ pairs. keys_behind_all (world_of c.args.self.now) pairs) (take_all c.loop-piece.piece-index c.args.page.now c.loop-piece-test.false) in
    let so_far = c.loop-piece.invariant in
    omega arith
