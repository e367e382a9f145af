use Rattle.std.proofs.Common.{sym, ◌∙◌, subst, arith}
use Rattle.judy_node.specs.Roots.{root_tree}
use Rattle.judy_change.specs.Removals.{IsRemoved}
use Rattle.judy_change.proofs.removals.remove.Goals as goal

pub close-requires : goal.close-requires
close-requires g c = (omega arith, (omega arith, c.remove_root-root.ensures.root))

pub returns : goal.returns
returns g c =
    subst (λ old. IsRemoved c.args.key old c.close.result c.remove_root-root.result.1) (sym (sym c.replace.ensures.value ∙ c.open-root.ensures.tree))
    (subst (λ new. IsRemoved c.args.key (root_tree c.open-root.result) new c.remove_root-root.result.1) (sym c.close.ensures) c.remove_root-root.ensures.removed)
