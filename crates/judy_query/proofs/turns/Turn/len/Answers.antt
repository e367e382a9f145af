use Rattle.std.proofs.Common.{sym, ◌∙◌, arith}
use Rattle.judy_query.proofs.Downs.{kid_some}
use Rattle.judy_query.proofs.TurnFacts.{turn_long}
use Rattle.judy_query.proofs.turns.Turn.len.Goals as goal

pub returns-clause-count : goal.returns-clause-count
returns-clause-count g c =
    let turn = c.args.self.now in
    let b = turn.branch.now in
    c.pop.ensures ∙ sym (turn_long g.V.Words.WORDS b.width b.skip b.bytes b.children.items b.population c.requires.branch turn.place turn.base c.index.result.now c.requires.inside c.index.ensures)

pub returns-clause-some : goal.returns-clause-some
returns-clause-some g c =
    let turn = c.args.self.now in
    let b = turn.branch.now in
    let some = kid_some g.V.Words.WORDS b.width b.skip b.bytes b.children.items b.population c.requires.branch 0 turn.place c.index.result.now c.requires.inside c.index.ensures in
    let pop = c.pop.ensures in
    omega arith
