use Rattle.std.proofs.Common.{◌^◌, ◌∙◌}
use Rattle.judy_word.proofs.IterFacts.{pairs_from}
use Rattle.judy_sets.specs.Pages.{rest}
use Rattle.judy_sets.proofs.FromFacts.{is_from}
use Rattle.judy_sets.proofs.pages.Pages.from_key_of_tree.Goals as goal

pub returns : goal.returns
returns g c =
    let pairs = c.args.root.now.pairs in
    is_from g.V.Words.WORDS c.args.from pairs c.law.ensures.map (rest c.ahead_of.result)
    (c.ahead_of.ensures ∙ c.from_key.ensures.pairs ∙ pairs_from g.V.Words.WORDS (256 ^ 8) pairs c.law.ensures.map c.args.from)
