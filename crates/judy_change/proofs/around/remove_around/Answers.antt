use Rattle.judy_change.proofs.AroundFacts.{cleared_one}
use Rattle.judy_change.proofs.around.remove_around.Goals as goal

pub returns-then-pop-lt3 : goal.returns-then-pop-lt3
returns-then-pop-lt3 g c =
    cleared_one g.V.Words.WORDS c.args.span.key c.args.span.before c.args.span.after c.from.result c.args.node.now c.remove-removed.new.node c.remove-removed.result c.law.ensures.map
    c.remove-removed.ensures (λ was. rw was at c.from.ensures) (λ was. rw was at c.from.ensures)
