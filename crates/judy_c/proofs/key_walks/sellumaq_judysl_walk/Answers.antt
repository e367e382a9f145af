use Rattle.std.proofs.Common.{drop, ap, ◌∙◌, if◌then◌else◌}
use Rattle.judy_model.specs.Arrays.{empty_array}
use Rattle.judy_model.specs.Counts.{rank, count_up_to}
use Rattle.judy_model.specs.Keys.{byte_order}
use Rattle.judy_c.specs.KeyWalks.{page_of, pairs_from}
use Rattle.judy_c.specs.StringMaps.{array_in}
use Rattle.judy_c.proofs.PageLemmas.{nothing_fits}
use Rattle.judy_c.proofs.PairLemmas.{drop_nil, no_pairs}
use Rattle.judy_c.proofs.key_walks.sellumaq_judysl_walk.Goals as goal

pub returns-in-None-clause-filled : goal.returns-in-None-clause-filled
returns-in-None-clause-filled c text =
    let before = if c.args.itself then rank (empty_array {order = byte_order} 4294967295).map c.args.from.now else count_up_to (empty_array {order = byte_order} 4294967295).map c.args.from.now in
    nothing_fits (pairs_from (array_in c.args.handle.now).map c.args.from.now c.args.itself) (page_of c.args.bytes.now c.args.entries.now)
    (ap (λ array. pairs_from array.map c.args.from.now c.args.itself) c.in-None.ensures.null ∙ ap (drop before) (no_pairs byte_order) ∙ drop_nil before)
