use Rattle.std.proofs.Common.{◌^◌, ◌∙◌}
use Rattle.judy_word.proofs.IterFacts.{all_pairs}
use Rattle.judy_sets.proofs.pages.Pages.of_tree.Goals as goal

pub returns : goal.returns
returns g c = c.ahead_of.ensures ∙ c.from_key.ensures.pairs ∙ all_pairs g.V.Words.WORDS (256 ^ 8) c.args.root.now.pairs c.law.ensures.map
