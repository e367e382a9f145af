use Rattle.std.proofs.Common.{subst}
use Rattle.judy_word.specs.Held.{IsHeld}
use Rattle.judy_word.proofs.Sets.{IsSet-held}
use Rattle.judy_word.proofs.word_array.WordArray.len.Goals as goal

pub returns-clause-zeros : goal.returns-clause-zeros
returns-clause-zeros g c =
    let tree = c.self.inside.tree in rw (← c.self.view_is) (λ none. IsSet-held tree (subst (λ words. IsHeld words tree) none c.law.ensures))
