use Rattle.std.proofs.Common.{◌≡◌, ◌≤◌, ◌<◌, get_or, length, arith, subst}
use Rattle.judy_sums.proofs.PairLemmas.{place_from_ends}
use Rattle.judy_sums.proofs.chunk.place.Goals as goal

pub returns : goal.returns
returns c =
    let now = c.search in
    let met : now.high ≡ now.low = omega arith in
    place_from_ends c.args.entries.now c.args.word now.low c.requires (omega arith) now.invariant.before
    (subst (λ end. end < length c.args.entries.now → c.args.word ≤ (get_or c.args.entries.now end (0, 0)).0) met now.invariant.behind)
