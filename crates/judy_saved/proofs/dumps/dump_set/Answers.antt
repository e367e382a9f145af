use Rattle.std.proofs.Common.{◌≤◌, refl, arith}
use Rattle.std.specs.FinMap.{len}
use Rattle.judy_model.specs.Arrays.{judy1}
use Rattle.judy_shelf.specs.Versions.{format_of}
use Rattle.judy_saved.specs.Dumps.{most, set_text}
use Rattle.judy_saved.proofs.RoomLemmas.{saved, not_saved}
use Rattle.judy_saved.proofs.DumpLemmas.{size_alone, size_of_set}
use Rattle.judy_saved.proofs.dumps.dump_set.Goals as goal

pub returns-then-size-room : goal.returns-then-size-room
returns-then-size-room c =
    let version = format_of c.args.version in
    let m = c.args.set.now.map in
    let over = c.if-size-room.true in
    let few : len m ≤ most = omega arith in
    let is = size_alone version c.args.name.now (judy1 (record { limit = most; map = m })) refl c.len-count.result c.len-count.ensures.count _ _ c.put_head-head.result _ c.put_head-head.ensures.adds
    (size_of_set version m c.len-count.result c.len-count.ensures.count) in
    (few, refl, not_saved (set_text version c.args.name.now m) c.args.room.now _ is over)

pub returns : goal.returns
returns c =
    let version = format_of c.args.version in
    let m = c.args.set.now.map in
    let fits = c.if-size-room.false in
    let few : len m ≤ most = omega arith in
    let is = size_alone version c.args.name.now (judy1 (record { limit = most; map = m })) refl c.len-count.result c.len-count.ensures.count _ _ c.put_head-head.result _ c.put_head-head.ensures.adds
    (size_of_set version m c.len-count.result c.len-count.ensures.count) in
    (few, refl, saved (set_text version c.args.name.now m) c.args.room.now _ c.write_set.result _ is fits c.write_set.ensures)
