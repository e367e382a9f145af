use Rattle.std.proofs.Common.{◌+◌, ◌-◌, arith}
use Rattle.judy_leaf.proofs.HalfSteps.{rank_behind, rank_at_most}
use Rattle.judy_leaf.proofs.halves.narrowed.Goals as goal

pub returns-then-words-from-clause-rank : goal.returns-then-words-from-clause-rank
returns-then-words-from-clause-rank c =
    let within = c.requires.inside in
    let half = c.requires.half in
    let rank = c.requires.rank in
    let behind = rank_behind c.args.words.now c.args.key (c.args.from + (c.args.size - c.args.next) - 1) c.requires.ascending (omega arith) c.if-words-from.true in
    (omega arith, omega arith)

pub returns-else-words-from-clause-rank : goal.returns-else-words-from-clause-rank
returns-else-words-from-clause-rank c =
    let within = c.requires.inside in
    let half = c.requires.half in
    let rank = c.requires.rank in
    let most = rank_at_most c.args.words.now c.args.key (c.args.from + (c.args.size - c.args.next) - 1) c.requires.ascending (omega arith) (let e = c.if-words-from.false in omega arith) in
    (rank.0, omega arith)
