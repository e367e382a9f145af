use Rattle.std.proofs.Common.{rules}
use Rattle.judy_leaf.proofs.leaf_ref.LeafRef.is_full.Goals as goal

pub returns : goal.returns
returns g c = search rules
