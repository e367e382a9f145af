use Rattle.std.proofs.Common.{length, ◌∙◌}
use Rattle.judy_leaf.proofs.Fills.{whole_pairs}
use Rattle.judy_leaf.proofs.leaf_ref.LeafRef.fill.Goals as goal

pub returns : goal.returns
returns g c = c.fill_from.ensures ∙ whole_pairs c.args.base (length c.args.out.now) c.args.self.now.pairs c.requires.room
