use Rattle.std.proofs.Common.{◌/◌, ap, ◌∙◌}
use Rattle.judy_model.specs.WordBytes.{number_of}
use Rattle.judy_bits.proofs.SkipLemmas.{number_of-skip}
use Rattle.judy_bits.proofs.skip.Skip.number.Goals as goal

pub returns : goal.returns
returns c =
    ap (λ all. all / 256) c.from_be_bytes.ensures
    ∙ number_of-skip c.self.inside.bytes c.self.inside.len c.self.invariant ∙ ap number_of c.self.view_is
