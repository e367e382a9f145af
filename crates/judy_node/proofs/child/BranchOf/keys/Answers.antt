use Rattle.judy_node.proofs.Counts.{branch_population}
use Rattle.judy_node.proofs.child.BranchOf.keys.Goals as goal

pub returns : goal.returns
returns g c =
    let branch = c.args.self.now in
    branch_population g.V.Words.WORDS branch.width branch.skip branch.bytes branch.children.items branch.population c.requires
