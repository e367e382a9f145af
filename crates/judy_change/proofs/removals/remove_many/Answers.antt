use Rattle.std.proofs.Common.{◌≢◌, ◌≤◌, length, sym, ap, ◌∙◌, subst, arith}
use Rattle.judy_node.specs.Trees.{Tree, IsChild}
use Rattle.judy_change.specs.Removals.{IsRemoved}
use Rattle.judy_change.proofs.RootFacts.{absent_kept, gone_many, gone_two}
use Rattle.judy_change.proofs.removals.remove_many.Goals as goal

pub remove_of_two-requires : goal.remove_of_two-requires
remove_of_two-requires g c = (omega arith, (omega arith, (c.requires.child, sym c.pop.ensures ∙ c.if-pop-eq2.true)))

pub returns-then-pop-eq2-clause-removed : goal.returns-then-pop-eq2-clause-removed
returns-then-pop-eq2-clause-removed g c =
    c.remove_of_two.ensures.removed

pub remove_in-requires : goal.remove_in-requires
remove_in-requires g c =
    let apart : length c.args.child.pairs ≢ 2 = λ two. c.if-pop-eq2.false (c.pop.ensures ∙ two) in
    let two = c.requires.two in
    (omega arith, (c.requires.one, (c.requires.child, λ wide. omega arith)))

pub unreachable-requires : goal.unreachable-requires
unreachable-requires g c =
    let one = ap length c.in-Only.ensures.0 in
    let two = c.requires.two in
    omega arith

pub returns-in-Absent-clause-root : goal.returns-in-Absent-clause-root
returns-in-Absent-clause-root g c =
    (subst (IsChild g.V.Words.WORDS 8) (sym c.in-Absent.ensures.1) c.requires.child, subst (λ (k : Tree). 2 ≤ length k.pairs) (sym c.in-Absent.ensures.1) c.requires.two)

pub returns-in-Absent-clause-removed : goal.returns-in-Absent-clause-removed
returns-in-Absent-clause-removed g c =
    let old : Tree = record c.args.child { width = 8 } in
    subst (λ (k : Tree). IsRemoved c.args.key old (record k { width = 8 }) c.none.result) (sym c.in-Absent.ensures.1) (absent_kept c.args.key old c.none.result c.in-Absent.ensures.0 c.none.ensures)

pub returns-in-Gone-clause-root : goal.returns-in-Gone-clause-root
returns-in-Gone-clause-root g c =
    let apart : length c.args.child.pairs ≢ 2 = λ two. c.if-pop-eq2.false (c.pop.ensures ∙ two) in
    let two = c.requires.two in
    (c.in-Gone.ensures.child, gone_two g.V.Words.WORDS c.args.key c.in-Gone.value c.args.child c.remove_in.new.child c.in-Gone.shrunk c.requires.child c.in-Gone.ensures (omega arith))

pub returns-in-Gone-clause-removed : goal.returns-in-Gone-clause-removed
returns-in-Gone-clause-removed g c =
    gone_many g.V.Words.WORDS c.args.key c.in-Gone.value c.args.child c.remove_in.new.child c.in-Gone.shrunk c.gone.result c.in-Gone.ensures c.gone.ensures
