use Rattle.std.proofs.Common.{arith}
use Rattle.judy_leaf.proofs.LeafLists.{rank_within}
use Rattle.judy_leaf.proofs.HalfSteps.{rank_behind, rank_at_most}
use Rattle.judy_leaf.proofs.halves.rank_of.Goals as goal
use Rattle.judy_leaf.proofs.halves.rank_of.Goals.{else-size-gt0-via-then-size-gt0+else-words-from, else-size-gt0-via-else-size-gt0}

pub narrowed_to-window-requires-clause-rank : goal.narrowed_to-window-requires-clause-rank
narrowed_to-window-requires-clause-rank c = let within = rank_within c.args.words.now c.args.key in (omega arith, omega arith)

pub returns-then-words-from : goal.returns-then-words-from
returns-then-words-from c =
    let one = c.narrowed_to-from.ensures in
    let behind = rank_behind c.args.words.now c.args.key c.narrowed_to-from.result.0 c.requires.ascending (omega arith) c.if-words-from.true in
    omega arith

pub returns-else-size-gt0 : goal.returns-else-size-gt0
returns-else-size-gt0 c =
    let one = c.narrowed_to-from.ensures in
    elim c.else-size-gt0.branch [
      | else-size-gt0-via-then-size-gt0+else-words-from w ↦
          (let most = rank_at_most c.args.words.now c.args.key c.narrowed_to-from.result.0 c.requires.ascending (omega arith) (let e = w.if-words-from.false in omega arith) in omega arith)
      | else-size-gt0-via-else-size-gt0 w ↦ (let none = w.if-size-gt0.false in omega arith)
    ]
