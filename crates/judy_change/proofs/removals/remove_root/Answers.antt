use Rattle.std.proofs.Common.{refl, sym, subst, arith}
use Rattle.judy_node.specs.Roots.{root_tree, IsRoot, empty_tree}
use Rattle.judy_change.specs.Removals.{IsRemoved}
use Rattle.judy_change.proofs.RootFacts.{absent_kept}
use Rattle.judy_change.proofs.removals.remove_root.Goals as goal

pub returns-in-Empty-clause-removed : goal.returns-in-Empty-clause-removed
returns-in-Empty-clause-removed g c =
    subst (λ root. IsRemoved c.args.key (root_tree root) empty_tree c.none.result) (sym c.in-Empty.is) (absent_kept c.args.key empty_tree c.none.result refl c.none.ensures)

pub remove_one-requires : goal.remove_one-requires
remove_one-requires g c =
    (omega arith, (subst (IsRoot g.V.Words.WORDS) c.in-One.is c.requires.root).1)

pub remove_many-requires : goal.remove_many-requires
remove_many-requires g c =
    let many = subst (IsRoot g.V.Words.WORDS) c.in-Many.is c.requires.root in
    (omega arith, (omega arith, (c.requires.one, (many.0, many.1))))

pub returns-in-One-clause-removed : goal.returns-in-One-clause-removed
returns-in-One-clause-removed g c =
    subst (λ root. IsRemoved c.args.key (root_tree root) (root_tree c.remove_one.result.0) c.remove_one.result.1) (sym c.in-One.is) c.remove_one.ensures.removed

pub returns-in-Many-clause-removed : goal.returns-in-Many-clause-removed
returns-in-Many-clause-removed g c =
    subst (λ root. IsRemoved c.args.key (root_tree root) (root_tree c.remove_many.result.0) c.remove_many.result.1) (sym c.in-Many.is) c.remove_many.ensures.removed
