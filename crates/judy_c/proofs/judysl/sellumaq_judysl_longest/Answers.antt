-- `sellumaq_judysl_longest`: a null handle has no key.
use Rattle.std.proofs.Common.{sym, ap, is_some, ◌∙◌, true≢false}
use Rattle.judy_c.specs.StringMaps.{array_in}
use Rattle.judy_c.proofs.StringHandles.{nothing_held}
use Rattle.judy_c.proofs.judysl.sellumaq_judysl_longest.Goals as goal

pub returns-in-None-clause-within : goal.returns-in-None-clause-within
returns-in-None-clause-within c = λ key value held.
    absurd (true≢false (sym (ap is_some held) ∙ ap is_some (nothing_held (array_in c.args.handle.now) key c.in-None.ensures.null)))
