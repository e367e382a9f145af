use Rattle.std.proofs.Common.{◌^◌, ap}
use Rattle.judy_leaf.specs.KeyLists.{keys_of}
use Rattle.judy_leaf.specs.Leaves.{keys_from}
use Rattle.judy_leaf.proofs.AbsentRuns.{first_among}
use Rattle.judy_leaf.proofs.leaf_ref.LeafRef.absent_at_or_after.Goals as goal

pub returns : goal.returns
returns g c =
    first_among (256 ^ c.keys-width.result.0) (256 ^ c.args.self.now.width) (keys_from c.keys-width.result.0 c.keys-width.result.3 c.keys-width.result.2 c.keys-width.result.1.now)
    (keys_of c.args.self.now.pairs) c.args.number c.absent_from.result (ap (λ w. 256 ^ w) c.keys-width.ensures.width) c.keys-width.ensures.same c.absent_from.ensures
