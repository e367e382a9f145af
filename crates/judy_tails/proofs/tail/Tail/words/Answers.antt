use Rattle.std.proofs.Common.{ℕ, List, ap, ◌∙◌}
use Rattle.judy_records.specs.Texts.{words_of}
use Rattle.judy_tails.proofs.TailLemmas.{whole-is}
use Rattle.judy_tails.proofs.tail.Tail.words.Goals as goal

pub returns : goal.returns
returns c = c.text.ensures ∙ whole-is c.self.inside.stored c.self.invariant ∙ ap (λ (tail : List ℕ × ℕ). words_of tail.0) c.self.view_is
