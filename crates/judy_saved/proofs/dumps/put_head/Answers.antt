use Rattle.std.proofs.Common.{List, ℕ, ◌++◌, length, ap, subst, ◌∙◌, arith}
use Rattle.judy_model.specs.DumpText as text
use Rattle.judy_model.specs.WordBytes.{low_bytes}
use Rattle.judy_shelf.specs.Versions.{format_of}
use Rattle.judy_shelf.specs.Writes.{kind_number}
use Rattle.judy_saved.specs.Dumps.{most}
use Rattle.judy_saved.specs.Rooms.{Adds}
use Rattle.judy_saved.proofs.RoomLemmas.{adds_both}
use Rattle.judy_saved.proofs.dumps.put_head.Goals as goal

pub returns-clause-few : goal.returns-clause-few
returns-clause-few c =
    let first = c.put-end.ensures.end in
    let eight = ap length c.heading_of.ensures in
    let last = c.put.ensures.end in
    let short = c.head_of.ensures.short in
    let same = ap length c.deref.ensures.0 in
    omega arith

pub returns-clause-adds : goal.returns-clause-adds
returns-clause-adds c =
    let version = format_of c.args.version in
    let heading = text.magic version ++ low_bytes 4 1 in
    let head = text.name_text c.args.name.now ++ low_bytes 1 (kind_number c.args.kind) ++ text.word most ++ text.word c.args.count in
    let one = subst (λ (t : List ℕ). Adds t 0 c.args.room.now c.put-end.result c.put-end.new.room) c.heading_of.ensures c.put-end.ensures.adds in
    let two = subst (λ (t : List ℕ). Adds t c.put-end.result c.put-end.new.room c.put.result c.put.new.room) (c.deref.ensures.0 ∙ c.head_of.ensures.head) c.put.ensures.adds in
    adds_both heading head _ _ _ _ _ _ one two
