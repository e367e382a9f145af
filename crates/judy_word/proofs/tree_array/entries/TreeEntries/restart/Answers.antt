use Rattle.std.proofs.Common.{◌^◌, ◌∙◌, ap}
use Rattle.judy_word.specs.Held.{map_in}
use Rattle.std.specs.FinMap as map
use Rattle.judy_word.proofs.IterFacts.{all_pairs}
use Rattle.judy_word.proofs.tree_array.entries.TreeEntries.restart.Goals as goal

pub returns : goal.returns
returns g c =
    c.restart.ensures.pairs ∙ all_pairs g.V.Words.WORDS (256 ^ 8) c.array.inside.root.pairs c.law.ensures.map ∙ ap (λ held. map.entries (map_in held)) c.array.view_is
