use Rattle.std.proofs.Common.{sym, arith}
use Rattle.std.proofs.lemmas.Option.{slice_get_past}
use Rattle.judy_query.proofs.RankFacts.{pair_at}
use Rattle.judy_query.proofs.surroundings.pair_on.Goals as goal

pub returns-then-at-count : goal.returns-then-at-count
returns-then-at-count g c =
    let len = c.requires in
    let below = c.if-at-count.true in
    sym (pair_at c.args.list.now.pairs c.args.at c.key_at.result c.value_at.result (omega arith) c.key_at.ensures c.value_at.ensures)

pub returns-else-at-count : goal.returns-else-at-count
returns-else-at-count g c =
    let len = c.requires in
    let past = c.if-at-count.false in
    sym (slice_get_past c.args.list.now.pairs c.args.at (omega arith))
