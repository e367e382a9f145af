use Rattle.std.proofs.Common.{◌∙◌}
use Rattle.judy_hs.proofs.ChainEntryLemmas.{lookup-pairs}
use Rattle.judy_hs.proofs.chain.Chain.get.Goals as goal

pub returns : goal.returns
returns c = rw (← c.self.view_is) (c.copied.ensures ∙ c.get.ensures.value ∙ lookup-pairs c.args.key.now c.self.inside.entries.entries)
