use Rattle.std.proofs.Common.{◌∙◌, sym, arith}
use Rattle.judy_sl.proofs.lemmas.counts.RankCounts.{words_none}
use Rattle.judy_sl.proofs.lemmas.counts.LoneKeys.{lone_below}
use Rattle.judy_sl.proofs.lemmas.places.PageCounts.{entries_lead}
use Rattle.judy_sl.proofs.lemmas.counts.CountWays.{rank_rises, shares_of}
use Rattle.judy_sl.proofs.arena.Arena.keys_between.Goals as goal

pub overflow_sub-between : goal.overflow_sub-between
overflow_sub-between c =
    let rises = rank_rises c.args.level.now.map c.args.low c.args.high c.requires.rising in
    let before = c.lesser_in-before.ensures in
    let up_to = c.lesser_in-up_to.ensures in
    omega arith

pub returns-then-all-entries : goal.returns-then-all-entries
returns-then-all-entries c =
    let stands = c.requires.told in
    let alone = sym stands.told ∙ sym c.from-all.ensures ∙ c.if-all-entries.true ∙ c.len-entries.ensures.count in
    let below = lone_below c.requires.is_arena.is_world stands.seat c.args.level.now.map stands.is_level alone in
    let parts = shares_of c.requires.is_arena.is_world stands c.args.low c.args.high c.requires.rising c.lesser_in-before.ensures c.lesser_in-up_to.ensures c.len-entries.ensures.count in
    omega (arith, below c.args.low, below c.args.high, parts.rises, c.lesser_in-before.ensures, c.lesser_in-up_to.ensures)

pub keys_from-requires-clause-leads : goal.keys_from-requires-clause-leads
keys_from-requires-clause-leads c = entries_lead c.requires.is_arena.is_world c.requires.told.seat c.args.level.now.map c.requires.told.is_level

pub keys_from-requires-clause-there : goal.keys_from-requires-clause-there
keys_from-requires-clause-there c =
    let parts = shares_of c.requires.is_arena.is_world c.requires.told c.args.low c.args.high c.requires.rising c.lesser_in-before.ensures c.lesser_in-up_to.ensures c.len-entries.ensures.count in
    omega (arith, parts.rises, parts.within, c.lesser_in-before.ensures)

pub keys_from-requires-clause-fits : goal.keys_from-requires-clause-fits
keys_from-requires-clause-fits c =
    let parts = shares_of c.requires.is_arena.is_world c.requires.told c.args.low c.args.high c.requires.rising c.lesser_in-before.ensures c.lesser_in-up_to.ensures c.len-entries.ensures.count in
    omega (arith, parts.between, parts.last, c.ranges.keys.fits)

pub returns-then-between-entries : goal.returns-then-between-entries
returns-then-between-entries c =
    let parts = shares_of c.requires.is_arena.is_world c.requires.told c.args.low c.args.high c.requires.rising c.lesser_in-before.ensures c.lesser_in-up_to.ensures c.len-entries.ensures.count in
    omega (arith, parts.between, c.keys_from.ensures)

pub keys_from-outside-requires-clause-leads : goal.keys_from-outside-requires-clause-leads
keys_from-outside-requires-clause-leads c = entries_lead c.requires.is_arena.is_world c.requires.told.seat c.args.level.now.map c.requires.told.is_level

pub keys_from-outside-requires-clause-there : goal.keys_from-outside-requires-clause-there
keys_from-outside-requires-clause-there c =
    let parts = shares_of c.requires.is_arena.is_world c.requires.told c.args.low c.args.high c.requires.rising c.lesser_in-before.ensures c.lesser_in-up_to.ensures c.len-entries.ensures.count in
    omega (arith, parts.rises, parts.within, words_none c.args.level.now.map)

pub keys_from-outside-requires-clause-fits : goal.keys_from-outside-requires-clause-fits
keys_from-outside-requires-clause-fits c =
    let parts = shares_of c.requires.is_arena.is_world c.requires.told c.args.low c.args.high c.requires.rising c.lesser_in-before.ensures c.lesser_in-up_to.ensures c.len-entries.ensures.count in
    omega (arith, parts.first, parts.between, parts.last, c.ranges.keys.fits)

pub overflow_sub-result : goal.overflow_sub-result
overflow_sub-result c =
    let parts = shares_of c.requires.is_arena.is_world c.requires.told c.args.low c.args.high c.requires.rising c.lesser_in-before.ensures c.lesser_in-up_to.ensures c.len-entries.ensures.count in
    omega (arith, parts.first, parts.between, parts.last, c.keys_from-outside.ensures, c.from-all.ensures)

pub overflow_sub-entries : goal.overflow_sub-entries
overflow_sub-entries c =
    let parts = shares_of c.requires.is_arena.is_world c.requires.told c.args.low c.args.high c.requires.rising c.lesser_in-before.ensures c.lesser_in-up_to.ensures c.len-entries.ensures.count in
    omega (arith, parts.within, c.len-entries.ensures.count)

pub keys_from-requires-else-between-entries-clause-leads : goal.keys_from-requires-else-between-entries-clause-leads
keys_from-requires-else-between-entries-clause-leads c = entries_lead c.requires.is_arena.is_world c.requires.told.seat c.args.level.now.map c.requires.told.is_level

pub keys_from-requires-else-between-entries-clause-there : goal.keys_from-requires-else-between-entries-clause-there
keys_from-requires-else-between-entries-clause-there c =
    let parts = shares_of c.requires.is_arena.is_world c.requires.told c.args.low c.args.high c.requires.rising c.lesser_in-before.ensures c.lesser_in-up_to.ensures c.len-entries.ensures.count in
    omega (arith, parts.within, c.lesser_in-up_to.ensures, c.len-entries.ensures.count)

pub keys_from-requires-else-between-entries-clause-fits : goal.keys_from-requires-else-between-entries-clause-fits
keys_from-requires-else-between-entries-clause-fits c =
    let parts = shares_of c.requires.is_arena.is_world c.requires.told c.args.low c.args.high c.requires.rising c.lesser_in-before.ensures c.lesser_in-up_to.ensures c.len-entries.ensures.count in
    omega (arith, parts.last, c.ranges.keys.fits)

pub overflow_sub-result-else-between-entries : goal.overflow_sub-result-else-between-entries
overflow_sub-result-else-between-entries c =
    let parts = shares_of c.requires.is_arena.is_world c.requires.told c.args.low c.args.high c.requires.rising c.lesser_in-before.ensures c.lesser_in-up_to.ensures c.len-entries.ensures.count in
    omega (arith, parts.first, parts.between, parts.last, c.keys_from-outside.ensures, c.keys_from-else-between-entries.ensures, c.from-all.ensures)

pub returns-else-between-entries : goal.returns-else-between-entries
returns-else-between-entries c =
    let parts = shares_of c.requires.is_arena.is_world c.requires.told c.args.low c.args.high c.requires.rising c.lesser_in-before.ensures c.lesser_in-up_to.ensures c.len-entries.ensures.count in
    omega (arith, parts.first, parts.between, parts.last, c.keys_from-outside.ensures, c.keys_from-else-between-entries.ensures, c.from-all.ensures)
