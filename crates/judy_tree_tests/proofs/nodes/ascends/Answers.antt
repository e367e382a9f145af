use Rattle.std.proofs.Common.{◌+◌, ◌^◌, drop, sym, subst}
use Rattle.std.proofs.lemmas.List.{drop_more, drop_all}
use Rattle.judy_node.specs.Trees.{IsMap}
use Rattle.judy_tree_tests.proofs.nodes.ascends.Goals as goal

pub loop-pair-init : goal.loop-pair-init
loop-pair-init g c = λ map. map

pub loop-pair-preserved : goal.loop-pair-preserved
loop-pair-preserved g c = λ rest.
    let words = g.V.Words.WORDS in
    let pairs = c.args.pairs.now in
    let at = c.loop-pair.pair-index in
    let fits = c.follows.ensures c.if-not-follows.false in
    c.loop-pair.invariant (subst (IsMap words c.loop-pair.low (256 ^ c.args.width)) (sym (drop_more pairs at (0, 0) c.loop-pair-test.true))
    (fits.0, fits.1, fits.2, subst (λ key. IsMap words (key + 1) (256 ^ c.args.width) (drop (at + 1) pairs)) c.from-low.ensures rest))

pub returns : goal.returns
returns g c = λ _. c.loop-pair.invariant (subst (IsMap g.V.Words.WORDS c.loop-pair.low (256 ^ c.args.width)) (sym (drop_all c.loop-pair.pair-index c.args.pairs.now c.loop-pair-test.false)) tt)
