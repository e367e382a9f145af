use Rattle.std.proofs.Common.{◌≡◌, ◌^◌, ◌≤◌, length, sym, ap, ◌∙◌, subst, arith}
use Rattle.std.proofs.lemmas.List.{length-take-le}
use Rattle.judy_node.specs.Trees.{Tree, IsMap, IsChild}
use Rattle.judy_node.specs.Branches.{tree_below}
use Rattle.judy_node.proofs.Shaped.{branch-child}
use Rattle.judy_change.proofs.SettleFacts.{filled}
use Rattle.judy_combine.proofs.trees.tree_of.Goals as goal

pub fill-requires : goal.fill-requires
fill-requires g c =
    let words = g.V.Words.WORDS in
    let b = c.args.branch in
    let same : c.close-child.result ≡ tree_below b = c.close-child.ensures ∙ ap tree_below c.in_ok-new.ensures.ok in
    let child = subst (λ w. IsChild words w (tree_below b)) c.requires.wide (branch-child words b.width b.skip b.bytes b.children.items b.population c.requires.branch) in
    let few : b.population ≤ 32 = c.if-branch.false in
    (omega arith, (subst (IsChild words 8) (sym same) child, (length-take-le b.population _ few ∙ c.requires.branch.parts.counted ∙ ap (λ (t : Tree). length t.pairs) (sym same), omega arith)))

pub from_sorted-requires : goal.from_sorted-requires
from_sorted-requires g c =
    let words = g.V.Words.WORDS in
    let b = c.args.branch in
    let same : c.close-child.result ≡ tree_below b = c.close-child.ensures ∙ ap tree_below c.in_ok-new.ensures.ok in
    let child = subst (λ w. IsChild words w (tree_below b)) c.requires.wide (branch-child words b.width b.skip b.bytes b.children.items b.population c.requires.branch) in
    let written = filled b.population c.fill.new.out _ c.close-child.result.pairs (ap (λ (t : Tree). length t.pairs) same ∙ sym c.requires.branch.parts.counted) c.fill.ensures in
    (omega arith, (c.requires.one, subst (IsMap words 0 (256 ^ 8)) (sym (written ∙ ap (λ (t : Tree). t.pairs) same)) child.map))

pub returns : goal.returns
returns g c =
    let b = c.args.branch in
    let same : c.close-child.result ≡ tree_below b = c.close-child.ensures ∙ ap tree_below c.in_ok-new.ensures.ok in
    let written = filled b.population c.fill.new.out _ c.close-child.result.pairs (ap (λ (t : Tree). length t.pairs) same ∙ sym c.requires.branch.parts.counted) c.fill.ensures in
    (c.in_ok-tree.ensures.tight, c.in_ok-tree.ensures.pairs ∙ written ∙ ap (λ (t : Tree). t.pairs) same)
