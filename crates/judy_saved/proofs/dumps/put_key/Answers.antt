use Rattle.std.proofs.Common.{List, ℕ, drop, sym, ap, subst, ◌∙◌}
use Rattle.std.proofs.lemmas.List.{take_rest}
use Rattle.judy_model.specs.WordBytes.{low_bytes}
use Rattle.judy_model.specs.DumpText as text
use Rattle.judy_model.specs.DumpText.{shared_length}
use Rattle.judy_shelf.specs.declared.version.Version.{Version}
use Rattle.judy_shelf.specs.Versions.{format_of}
use Rattle.judy_saved.specs.Rooms.{Adds}
use Rattle.judy_saved.proofs.RoomLemmas.{adds_both}
use Rattle.judy_saved.proofs.dumps.put_key.Goals as goal

pub returns-in-Second-clause-adds : goal.returns-in-Second-clause-adds
returns-in-Second-clause-adds c =
    let key = c.args.key.now in
    let shared = shared_length c.args.before.now key in
    let told = c.len_bytes.ensures ∙ ap (low_bytes 2) c.shared_len-shared.ensures.shared in
    let one = subst (λ (t : List ℕ). Adds t c.args.at c.args.room.now c.put-end.result c.put-end.new.room) told c.put-end.ensures.adds in
    let rest = take_rest key c.shared_len-shared.result ∙ ap (λ n. drop n key) c.shared_len-shared.ensures.shared in
    let two = subst (λ (t : List ℕ). Adds (text.string t) c.put-end.result c.put-end.new.room c.put_string-in-Second.result c.put_string-in-Second.new.room) rest c.put_string-in-Second.ensures.adds in
    subst (λ (version : Version). Adds (text.string_key (format_of version) c.args.before.now key) c.args.at c.args.room.now c.put_string-in-Second.result c.put_string-in-Second.new.room)
    (sym c.in-Second.is)
    (adds_both (low_bytes 2 shared) (text.string (drop shared key)) _ _ _ _ _ _ one two)
