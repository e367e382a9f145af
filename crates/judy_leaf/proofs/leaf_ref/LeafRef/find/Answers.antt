use Rattle.std.proofs.Common.{ap, ◌∙◌}
use Rattle.judy_bits.specs.ByteSets as set
use Rattle.judy_leaf.proofs.leaf_ref.LeafRef.find.Goals as goal

pub returns : goal.returns
returns g c = c.find.ensures ∙ ap (λ keys. set.place keys c.args.key) c.keys-width.ensures.same
