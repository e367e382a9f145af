use Rattle.std.proofs.Common.{◌∙◌, ap}
use Rattle.judy_hs.specs.ChainEntries.{pairs_of}
use Rattle.judy_hs.proofs.ChainEntryLemmas.{without-pairs}
use Rattle.judy_hs.proofs.chain.Chain.remove.Goals as goal

pub returns : goal.returns
returns c = rw (← c.self.view_is) (ap pairs_of c.remove.ensures.entries ∙ without-pairs c.args.key.now c.self.inside.entries.entries)
