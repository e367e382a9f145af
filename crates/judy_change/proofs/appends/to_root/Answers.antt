use Rattle.std.proofs.Common.{sym, subst}
use Rattle.judy_node.specs.Roots.{root_tree}
use Rattle.judy_change.specs.Appended.{IsAppended}
use Rattle.judy_change.proofs.AppendFacts.{appended_root}
use Rattle.judy_change.proofs.appends.to_root.Goals as goal

pub returns-in-Many-clause-appended : goal.returns-in-Many-clause-appended
returns-in-Many-clause-appended g c =
    let new = c.append_in-count.new.child in
    subst (λ root. IsAppended c.append_in-count.result c.args.more.pairs.now (root_tree root) (record new { width = 8 })) (sym c.in-Many.is)
    (appended_root g.V.Words.WORDS c.append_in-count.result c.args.more.pairs.now c.in-Many.child new c.requires.map c.append_in-count.ensures.longer)
