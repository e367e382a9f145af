use Rattle.std.proofs.Common.{drop, ap, ◌∙◌}
use Rattle.std.specs.FinMap.{entries, from_entries}
use Rattle.judy_model.specs.Keys.{byte_order}
use Rattle.judy_model.specs.DumpText.{length_order}
use Rattle.judy_c.specs.KeyWalks.{page_of, pairs_behind}
use Rattle.judy_c.specs.ByteMaps.{array_in}
use Rattle.judy_c.proofs.PageLemmas.{nothing_fits}
use Rattle.judy_c.proofs.PairLemmas.{drop_nil, no_pairs}
use Rattle.judy_c.proofs.key_walks.sellumaq_judyhs_walk.Goals as goal

pub returns-in_default-clause-filled : goal.returns-in_default-clause-filled
returns-in_default-clause-filled c written =
    nothing_fits (pairs_behind (array_in c.args.handle.now).map c.args.behind) (page_of c.args.bytes.now c.args.entries.now)
    (ap (λ array. pairs_behind array.map c.args.behind) c.in_default.ensures.null
    ∙ ap (λ pairs. drop c.args.behind (entries (from_entries {R = length_order} pairs))) (no_pairs byte_order)
    ∙ ap (drop c.args.behind) (no_pairs length_order) ∙ drop_nil c.args.behind)
