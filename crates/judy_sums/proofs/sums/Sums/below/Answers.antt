use Rattle.std.proofs.Common.{ap, sym, ◌∙◌}
use Rattle.judy_sums.specs.Pairs.{Pairs, sum_below}
use Rattle.judy_sums.specs.Chunks.{joined}
use Rattle.judy_sums.proofs.SumsLemmas.{entries_is}
use Rattle.judy_sums.proofs.sums.Sums.below.Goals as goal

pub returns : goal.returns
returns c =
    c.below.ensures ∙ ap (λ (pairs : Pairs). sum_below pairs c.args.word) (sym (entries_is c.self.inside.chunks c.args.self.now c.self.invariant c.self.view_is))
