use Rattle.std.proofs.Common.{ℕ, ap}
use Rattle.std.specs.FinMap.{FinMap}
use Rattle.judy_model.specs.Keys.{word_order}
use Rattle.judy_word.proofs.FrontFacts.{map-appended}
use Rattle.judy_word.proofs.tree_array.TreeArray.append.Goals as goal

pub returns-clause-set : goal.returns-clause-set
returns-clause-set g c =
    rw (← c.self.view_is)
    (ap (λ (map : FinMap word_order ℕ). record { limit = c.self.inside.limit; map = map })
    (map-appended g.V.Words.WORDS c.append-count.result c.args.pairs.now c.self.inside.root c.append-count.new.node c.append-count.ensures c.law-2.ensures))
