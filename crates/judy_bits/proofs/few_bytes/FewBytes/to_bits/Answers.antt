use Rattle.std.proofs.Common.{take, get_or, sym}
use Rattle.std.proofs.lemmas.Option.{slice_get-get_or}
use Rattle.judy_bits.proofs.SetLemmas.{added_next}
use Rattle.judy_bits.proofs.few_bytes.FewBytes.to_bits.Goals as goal

pub loop-byte-preserved : goal.loop-byte-preserved
loop-byte-preserved c =
    let members = take c.self.inside.count c.self.inside.bytes in
    let at = c.loop-byte.byte-index in
    added_next members c.loop-byte.bits c.add.new.self at (get_or members at 0) c.self.invariant.1.ascending
    (sym (slice_get-get_or members at 0 c.loop-byte-test.true)) c.loop-byte.invariant c.add.ensures
