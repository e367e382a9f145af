use Rattle.std.proofs.Common.{ℕ, ◌-◌, ◌∙◌, ap, sym, arith}
use Rattle.std.specs.FinMap.{FinMap}
use Rattle.judy_model.specs.Keys.{word_order}
use Rattle.judy_model.specs.Counts.{rank, count}
use Rattle.judy_sl.proofs.lemmas.counts.RankCounts.{words_below, words_none}
use Rattle.judy_sl.proofs.counts.lesser_in.Goals as goal

pub returns-then-piece-eq0 : goal.returns-then-piece-eq0
returns-then-piece-eq0 c = sym (ap (rank c.args.level.now.map) c.if-piece-eq0.true ∙ words_none c.args.level.now.map)

pub returns-else-piece-eq0 : goal.returns-else-piece-eq0
returns-else-piece-eq0 c =
    let some = c.if-piece-eq0.false in
    c.count.ensures ∙ ap (λ (words : FinMap word_order ℕ). count words 0 (c.args.piece - 1)) c.array.ensures.map ∙ words_below c.args.level.now.map c.args.piece (omega (arith, some))
