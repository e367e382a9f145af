use Rattle.std.proofs.Common.{sym, ◌∙◌}
use Rattle.judy_bits.specs.ByteSets.{count_up_to}
use Rattle.judy_bits.specs.Paddings.{length-meant}
use Rattle.judy_bits.proofs.FewLemmas.{count_up_to-all}
use Rattle.judy_bits.proofs.few_bytes.FewBytes.count_up_to.Goals as goal

pub returns-then-byte-eq255 : goal.returns-then-byte-eq255
returns-then-byte-eq255 c =
    sym (length-meant 255 c.self.inside.bytes c.self.inside.count c.self.invariant.0) ∙ sym (count_up_to-all _ c.self.invariant.1)
    ∙ (λ t. count_up_to (c.self.view_is t) (sym c.if-byte-eq255.true t))
