use Rattle.std.proofs.Common.{ap, ◌∙◌}
use Rattle.std.specs.Option.{ghost_name_of}
use borrow.Follows.Closed.{read_of}
use Rattle.judy_hs.specs.ChainEntries.{pairs_of}
use Rattle.judy_hs.proofs.ChainEntryLemmas.{lookup-pairs, written-pairs}
use Rattle.judy_hs.proofs.chain.Chain.slot.Goals as goal

pub returns : goal.returns
returns c =
    rw (← c.self.view_is) (
      λ t. read_of (ghost_name_of c.get_mut.result) (λ w. (ap pairs_of (c.get_mut.follows.holds w).0 ∙ written-pairs c.args.key.now c.self.inside.entries.entries w) t)
          (ap (λ m. pairs_of m.entries) c.get_mut.follows.holds-at-none t),
      record { writes_back = tt; value = c.get_mut.ensures.value ∙ lookup-pairs c.args.key.now c.self.inside.entries.entries },
    )
