use Rattle.std.proofs.Common.{◌+◌, take, drop, ap, arith}
use Rattle.std.proofs.lemmas.List.{take_all}
use Rattle.judy_sl.specs.Arenas.{world_of}
use Rattle.judy_sl.specs.Counted.{keys_behind_all}
use Rattle.judy_sl.proofs.lemmas.places.PageCounts.{front_one}
use Rattle.judy_sl.proofs.lemmas.places.PageReads.{split_at}
use Rattle.judy_sl.proofs.arena.Arena.page_spot.Goals as goal

pub loop-piece-preserved : goal.loop-piece-preserved
loop-piece-preserved c =
    let more = front_one (world_of c.args.self.now) c.args.page.now c.loop-piece.piece-index c.loop-piece-test.true in
    let so_far = c.loop-piece.invariant in
    let here = c.keys_at-keys.ensures in
    let past = c.if-left-keys.false in
    omega arith

pub returns-then-left-keys : goal.returns-then-left-keys
returns-then-left-keys c =
    let page = c.args.page.now in
    let place = c.loop-piece.piece-index in
    let here = c.keys_at-keys.ensures in
    let less = c.if-left-keys.true in
    record {
      front = take place page;
      back = drop (place + 1) page;
      split = split_at page place c.loop-piece-test.true;
      within = omega arith;
      passed = c.loop-piece.invariant;
    }

pub returns : goal.returns
returns c =
    let all = ap (keys_behind_all (world_of c.args.self.now)) (take_all c.loop-piece.piece-index c.args.page.now c.loop-piece-test.false) in
    let so_far = c.loop-piece.invariant in
    omega arith
