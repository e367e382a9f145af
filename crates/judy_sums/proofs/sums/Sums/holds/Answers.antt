use Rattle.std.proofs.Common.{ℕ, List, Option, is_some, ap, sym, ◌∙◌}
use Rattle.std.specs.FinMap.{find}
use Rattle.judy_model.specs.Keys.{word_order}
use Rattle.judy_sums.specs.Pairs.{Pairs}
use Rattle.judy_sums.specs.Chunks.{joined}
use Rattle.judy_sums.proofs.SumsLemmas.{get_is}
use Rattle.judy_sums.proofs.sums.Sums.holds.Goals as goal

pub returns : goal.returns
returns c =
    c.holds.ensures
    ∙ ap (λ (all : List Pairs). is_some (find word_order c.args.word (joined all))) c.all.ensures
    ∙ ap (λ (found : Option ℕ). is_some found) (sym (get_is c.self.inside.chunks c.args.self.now c.self.invariant c.self.view_is c.args.word))
