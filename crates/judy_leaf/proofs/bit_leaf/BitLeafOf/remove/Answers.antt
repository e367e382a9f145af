use Rattle.std.proofs.Common.{get_or, ap, ◌∙◌}
use Rattle.judy_leaf.specs.KeyLists.{keys_of}
use Rattle.judy_leaf.proofs.BitSteps.{byte_at}
use Rattle.judy_leaf.proofs.bit_leaf.BitLeafOf.remove.Goals as goal

pub take-requires-clause-there : goal.take-requires-clause-there
take-requires-clause-there g c =
    byte_at g.V.Words.WORDS c.self.inside.block c.self.invariant c.args.self.now c.self.view_is c.args.at c.key_at-key.result c.requires
    (c.key_at-key.ensures.key ∙ ap (λ l. get_or (keys_of l.pairs) c.args.at 0) c.reading.ensures)
