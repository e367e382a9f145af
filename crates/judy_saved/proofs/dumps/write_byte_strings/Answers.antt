use Rattle.std.specs.List.{flat_map}
use Rattle.judy_hs.specs.Listed.{entries_in}
use Rattle.judy_shelf.specs.Versions.{format_of}
use Rattle.judy_saved.specs.Dumps.{head_text, entry_text}
use Rattle.judy_saved.proofs.RoomLemmas.{adds_both}
use Rattle.judy_saved.proofs.dumps.write_byte_strings.Goals as goal

pub returns : goal.returns
returns c =
    adds_both (head_text (format_of c.args.version) c.args.name.now 4 c.args.count) (flat_map entry_text (entries_in c.args.entries.now)) _ _ _ _ _ _
    c.put_head-head.ensures.adds c.put_byte_strings.ensures
