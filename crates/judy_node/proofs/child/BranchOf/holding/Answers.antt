use Rattle.std.proofs.Common.{IfSome, sym, ap, ◌∙◌, subst, arith}
use Rattle.judy_node.specs.Populations.{population, AreGroups}
use Rattle.judy_node.proofs.Counts.{branch_population}
use Rattle.judy_node.proofs.child.BranchOf.holding.Goals as goal

pub child_holding-requires : goal.child_holding-requires
child_holding-requires g c =
    let branch = c.args.self.now in
    let all = branch_population g.V.Words.WORDS branch.width branch.skip branch.bytes branch.children.items branch.population c.requires.branch in
    let keys = c.keys-all.ensures in
    let within = c.requires.within in
    (omega arith, (keys ∙ ap population (sym c.deref-in-None.ensures.value), omega arith))

pub holding_by_groups-requires : goal.holding_by_groups-requires
holding_by_groups-requires g c =
    let branch = c.args.self.now in
    let all = branch_population g.V.Words.WORDS branch.width branch.skip branch.bytes branch.children.items branch.population c.requires.branch in
    let keys = c.keys-all.ensures in
    let within = c.requires.within in (
      omega arith,
      (
        subst (λ ks. AreGroups c.deref.result.now ks) (sym c.deref-in-Some.ensures.value)
            (subst (λ gs. AreGroups gs branch.children.items) (sym c.deref.ensures)
            (subst (λ gs. IfSome gs (λ box. AreGroups box.value branch.children.items)) c.in-Some.is c.requires.sums)),
        (keys ∙ ap population (sym c.deref-in-Some.ensures.value), omega arith),
      ),
    )
