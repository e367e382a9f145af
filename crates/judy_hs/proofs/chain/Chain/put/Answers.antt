use Rattle.std.proofs.Common.{List, ℕ, ◌∙◌, ap}
use Rattle.judy_hs.specs.Chains.{with_pair}
use Rattle.judy_hs.specs.ChainEntries.{pairs_of}
use Rattle.judy_hs.proofs.ChainEntryLemmas.{put-pairs}
use Rattle.judy_hs.proofs.chain.Chain.put.Goals as goal

pub returns-clause-added : goal.returns-clause-added
returns-clause-added c =
    rw (← c.self.view_is) (
    ap pairs_of c.in_ok-insert.ensures.entries
    ∙ put-pairs c.self.inside.entries.entries c.in_ok-to_vec.field-0 c.args.value
    ∙ ap (λ (key : List ℕ). with_pair (pairs_of c.self.inside.entries.entries) key c.args.value) (c.in_ok-to_vec.ensures.items_if_clones_equal (λ x y e. e))
    )
