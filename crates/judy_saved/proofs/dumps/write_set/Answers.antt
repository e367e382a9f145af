use Rattle.std.proofs.Common.{refl}
use Rattle.judy_model.specs.Arrays.{judy1}
use Rattle.judy_shelf.specs.Versions.{format_of}
use Rattle.judy_saved.specs.Dumps.{most}
use Rattle.judy_saved.proofs.DumpLemmas.{adds_alone}
use Rattle.judy_saved.proofs.dumps.write_set.Goals as goal

pub returns : goal.returns
returns c =
    adds_alone (format_of c.args.version) c.args.name.now (judy1 (record { limit = most; map = c.args.set.now.map })) refl c.len.result c.len.ensures.count _ _ _ _ _
    c.put_head-head.ensures.adds c.put_keys.ensures
