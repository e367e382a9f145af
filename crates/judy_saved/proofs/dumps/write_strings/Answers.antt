use Rattle.std.proofs.Common.{refl}
use Rattle.judy_model.specs.Arrays.{judysl}
use Rattle.judy_shelf.specs.Versions.{format_of}
use Rattle.judy_saved.specs.Dumps.{most}
use Rattle.judy_saved.proofs.DumpLemmas.{adds_alone}
use Rattle.judy_saved.proofs.dumps.write_strings.Goals as goal

pub returns : goal.returns
returns g c =
    adds_alone (format_of c.args.version) c.args.name.now (judysl (record { limit = most; map = c.args.strings.now.map })) refl c.len.result c.len.ensures.count _ _ _ _ _
    c.put_head-head.ensures.adds c.put_strings.ensures
