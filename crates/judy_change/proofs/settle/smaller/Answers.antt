use Rattle.std.proofs.Common.{◌≡◌, ◌<◌, ◌≤◌, true≢false, length, sym, ap, ◌∙◌, subst, arith}
use Rattle.judy_node.specs.Trees.{Tree, IsChild}
use Rattle.judy_node.specs.Branches.{IsWholeBranch, tree_below}
use Rattle.judy_node.proofs.Maps.{children-length}
use Rattle.judy_node.proofs.Shaped.{branch-child}
use Rattle.judy_change.specs.Removals.{IsSettled, pairs_below, loose_below, width_of}
use Rattle.judy_change.proofs.settle.smaller.Goals as goal

pub lessen-requires : goal.lessen-requires
lessen-requires g c =
    let words = g.V.Words.WORDS in
    let branch = c.args.branch.value in
    let counted = c.requires.branch.parts.counted in
    let few : branch.population ≤ 32 = subst (λ b. b.population ≤ 32) c.deref.ensures c.if-deref.true in
    let child = subst (λ w. IsChild words w (tree_below branch)) c.requires.width
    (branch-child words branch.width branch.skip branch.bytes branch.children.items branch.population c.requires.branch) in (
      omega arith,
      (
        c.requires.one,
        subst (λ (tree : Tree). IsChild words c.args.width tree × ((length tree.pairs ≤ 32) × (c.args.width ≡ 8 → 2 ≤ length tree.pairs))) (sym c.close.ensures)
            (child, (omega arith, λ wide. let two = c.requires.two wide in omega arith)),
      ),
    )

pub returns-then-deref : goal.returns-then-deref
returns-then-deref g c =
    subst (λ pairs. IsSettled g.V.Words.WORDS c.args.width pairs (loose_below c.args.branch.value) c.lessen.result.0 c.lessen.result.1) (ap (λ tree. tree.pairs) c.close.ensures)
    (c.lessen.ensures (loose_below c.args.branch.value))

pub merged-requires : goal.merged-requires
merged-requires g c =
    let branch = c.args.branch.value in
    let long = children-length g.V.Words.WORDS branch.width 0 branch.bytes branch.children.items c.requires.branch.parts.children in
    let many : 32 < branch.population = subst (λ b. 32 < b.population) c.deref.ensures c.if-deref.false in
    let same = c.deref_mut.ensures.value in (
      omega arith,
      (subst (IsWholeBranch g.V.Words.WORDS) (sym same) c.requires.branch, (subst (λ b. 32 < b.population) (sym same) many, ap (λ b. length b.bytes) same ∙ sym long ∙ c.requires.loose many)),
    )

pub returns : goal.returns
returns g c =
    let words = g.V.Words.WORDS in
    let same = c.deref_mut.ensures.value in
    record {
      child = subst (λ w. IsChild words w c.merged.result) (ap width_of same ∙ c.requires.width) c.merged.ensures.child;
      same = c.merged.ensures.same ∙ ap pairs_below same;
      tight = λ none _. c.merged.ensures.tight (ap loose_below same ∙ none);
      short = λ never. absurd (true≢false never);
    }
