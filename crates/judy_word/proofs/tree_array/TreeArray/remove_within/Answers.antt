use Rattle.judy_word.proofs.RangeFacts.{outside-cleared, len-cleared, some-cleared, bounded-cleared}
use Rattle.judy_word.proofs.tree_array.TreeArray.remove_within.Goals as goal

pub invariant_of-self : goal.invariant_of-self
invariant_of-self g c = bounded-cleared c.self.inside.limit _ _ _ _ _ c.remove_around-cleared.result _ c.remove_around-cleared.ensures c.self.invariant

pub returns-clause-outside : goal.returns-clause-outside
returns-clause-outside g c =
    rw (← c.self.view_is) (outside-cleared g.V.Words.WORDS c.args.key c.args.from c.args.to c.requires.low c.requires.high _ _ c.remove_around-cleared.result c.law.ensures c.law-2.ensures
    c.remove_around-cleared.ensures)

pub returns-clause-count : goal.returns-clause-count
returns-clause-count g c =
    rw (← c.self.view_is) (len-cleared g.V.Words.WORDS c.args.key c.args.from c.args.to c.requires.low c.requires.high _ _ c.remove_around-cleared.result c.law.ensures c.law-2.ensures
    c.remove_around-cleared.ensures)

pub returns-clause-some : goal.returns-clause-some
returns-clause-some g c =
    rw (← c.self.view_is) (some-cleared g.V.Words.WORDS c.args.key c.args.from c.args.to c.requires.low c.requires.high _ _ c.remove_around-cleared.result c.law.ensures c.law-2.ensures
    c.remove_around-cleared.ensures)
