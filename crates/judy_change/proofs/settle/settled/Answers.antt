use Rattle.std.proofs.Common.{◌≤◌, length, ap, sym, ◌∙◌, subst, arith}
use Rattle.judy_node.specs.Trees.{IsChild}
use Rattle.judy_node.specs.Branches.{IsWholeBranch, tree_below}
use Rattle.judy_node.specs.Populations.{AreSums}
use Rattle.judy_node.proofs.Shaped.{branch-child}
use Rattle.judy_change.specs.Removals.{IsTightOf, pairs_below, loose_below}
use Rattle.judy_change.proofs.settle.settled.Goals as goal

pub settle-requires : goal.settle-requires
settle-requires g c =
    let words = g.V.Words.WORDS in
    let branch = c.args.branch in
    let same = sym c.in_ok-new.ensures.ok in
    let child = branch-child words branch.width branch.skip branch.bytes branch.children.items branch.population c.requires.branch in
    let counted = c.requires.branch.parts.counted in
    record {
      one = c.requires.one;
      parent = λ never. never;
      level = subst (λ b. IsWholeBranch words b × AreSums b.sums b.children.items) same (c.requires.branch, c.requires.sums);
      child = subst (λ b. IsChild words c.args.width (tree_below b)) same (subst (λ w. IsChild words w (tree_below branch)) c.requires.width child);
      two = λ wide. subst (λ b. 2 ≤ length (pairs_below b)) same (let two = c.requires.two wide in omega arith);
    }

pub returns-then-settle : goal.returns-then-settle
returns-then-settle g c =
    let same = c.in_ok-new.ensures.ok in
    let settled = c.settle.ensures.settled in
    subst (IsTightOf g.V.Words.WORDS c.args.width (pairs_below c.args.branch)) (sym c.close.ensures)
    (record { child = settled.child; same = settled.same ∙ ap pairs_below same; tight = settled.tight (ap loose_below same ∙ c.requires.tight) c.if-settle.true })
