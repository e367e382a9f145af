use Rattle.std.proofs.Common.{◌+◌, ap, ◌∙◌}
use Rattle.judy_leaf.proofs.KeysIn.{unit_top}
use Rattle.judy_leaf.proofs.gaps.top.Goals as goal

pub returns : goal.returns
returns g c = ap (λ n. n + 1) c.low_part.ensures ∙ unit_top g.row.W c.requires
