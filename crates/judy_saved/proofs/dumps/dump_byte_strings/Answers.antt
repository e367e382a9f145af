use Rattle.std.proofs.Common.{◌≡◌, ◌≤◌, true, sym, ap, ◌∙◌, refl, arith}
use Rattle.std.specs.FinMap.{len}
use Rattle.judy_model.specs.DumpText.{entries_by, length_order}
use Rattle.judy_hs.specs.Listed.{entries_in}
use Rattle.judy_shelf.specs.Versions.{format_of}
use Rattle.judy_saved.specs.Dumps.{most, bytes_text, is_short}
use Rattle.judy_saved.proofs.RoomLemmas.{saved_again, not_saved, from_front}
use Rattle.judy_saved.proofs.DumpLemmas.{adds_listed}
use Rattle.judy_saved.proofs.EntryLemmas.{listed_within}
use Rattle.judy_saved.proofs.dumps.dump_byte_strings.Goals as goal

-- What the list says of the keys' lengths, the map says.
pub returns-then-not-are_short-clause-dumped : goal.returns-then-not-are_short-clause-dumped
returns-then-not-are_short-clause-dumped g c =
    let few : len c.args.bytes.now.map ≤ most = omega (arith, c.len-count.ensures.count, c.len-count.ensures.most) in (
      (
        few,
        ap is_short (sym (ap entries_in c.deref.ensures.value ∙ c.in-Ok.ensures)) ∙ sym c.are_short.ensures
            ∙ c.if-not-are_short.true,
      ),
      refl,
    )

pub returns-then-size-room-clause-dumped : goal.returns-then-size-room-clause-dumped
returns-then-size-room-clause-dumped g c =
    let version = format_of c.args.version in
    let name = c.args.name.now in
    let m = c.args.bytes.now.map in
    let text = bytes_text version name m in
    let few : len m ≤ most = omega (arith, c.len-count.ensures.count, c.len-count.ensures.most) in
    let short : is_short (entries_by length_order m) ≡ true =
    ap is_short (sym (ap entries_in c.deref.ensures.value ∙ c.in-Ok.ensures)) ∙ sym c.are_short.ensures ∙ c.if-not-are_short.false in
    let asked = adds_listed version name m c.len-count.result c.len-count.ensures.count (entries_in c.deref-2.result.now) (ap entries_in c.deref-2.ensures.value ∙ c.in-Ok.ensures) _ _ _
    c.write_byte_strings-size.ensures in
    let stands = from_front text _ _ _ asked in
    (few, short, not_saved text c.args.room.now _ stands.ends c.if-size-room.true)

pub returns-clause-dumped : goal.returns-clause-dumped
returns-clause-dumped g c =
    let version = format_of c.args.version in
    let name = c.args.name.now in
    let m = c.args.bytes.now.map in
    let text = bytes_text version name m in
    let few : len m ≤ most = omega (arith, c.len-count.ensures.count, c.len-count.ensures.most) in
    let short : is_short (entries_by length_order m) ≡ true =
    ap is_short (sym (ap entries_in c.deref.ensures.value ∙ c.in-Ok.ensures)) ∙ sym c.are_short.ensures ∙ c.if-not-are_short.false in
    let asked = adds_listed version name m c.len-count.result c.len-count.ensures.count (entries_in c.deref-2.result.now) (ap entries_in c.deref-2.ensures.value ∙ c.in-Ok.ensures) _ _ _
    c.write_byte_strings-size.ensures in
    let written = adds_listed version name m c.len-count.result c.len-count.ensures.count (entries_in c.deref-3.result.now) (ap entries_in c.deref-3.ensures.value ∙ c.in-Ok.ensures) _ _ _
    c.write_byte_strings.ensures in
    let stands = from_front text _ _ _ asked in
    (few, short, saved_again text c.args.room.now _ _ _ stands.ends c.if-size-room.false written)

pub write_byte_strings-size-requires-clause-few : goal.write_byte_strings-size-requires-clause-few
write_byte_strings-size-requires-clause-few g c =
    let within = listed_within c.args.bytes.now.map c.deref-2.result.now (ap entries_in c.deref-2.ensures.value ∙ c.in-Ok.ensures) in
    omega (arith, within, c.len-count.ensures.count, c.len-count.ensures.most)

pub write_byte_strings-requires-clause-few : goal.write_byte_strings-requires-clause-few
write_byte_strings-requires-clause-few g c =
    let within = listed_within c.args.bytes.now.map c.deref-3.result.now (ap entries_in c.deref-3.ensures.value ∙ c.in-Ok.ensures) in
    omega (arith, within, c.len-count.ensures.count, c.len-count.ensures.most)
