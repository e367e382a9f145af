use Rattle.std.proofs.Common.{slice_get, sym, ap, ◌∙◌}
use Rattle.judy_bits.proofs.SetLemmas.{next_from-rank}
use Rattle.judy_bits.proofs.few_bytes.FewBytes.next_from.Goals as goal

pub returns : goal.returns
returns c = c.nth.ensures.member ∙ ap (slice_get c.args.self.now) c.rank.ensures ∙ sym (next_from-rank c.args.self.now c.nth.ensures.is_set.ascending c.args.byte)
