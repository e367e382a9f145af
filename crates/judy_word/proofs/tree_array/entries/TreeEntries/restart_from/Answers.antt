use Rattle.std.proofs.Common.{◌^◌, drop, ap, ◌∙◌}
use Rattle.std.specs.FinMap as map
use Rattle.judy_model.specs.Counts as counts
use Rattle.judy_word.specs.Held.{map_in}
use Rattle.judy_word.proofs.IterFacts.{pairs_from}
use Rattle.judy_word.proofs.tree_array.entries.TreeEntries.restart_from.Goals as goal

pub returns : goal.returns
returns g c =
    c.restart.ensures.pairs ∙ pairs_from g.V.Words.WORDS (256 ^ 8) c.array.inside.root.pairs c.law.ensures.map c.args.from
    ∙ ap (λ held. drop (counts.rank (map_in held) c.args.from) (map.entries (map_in held))) c.array.view_is
