use Rattle.std.proofs.Common.{◌<◌, slice_index, ap, sym, subst, ◌∙◌}
use Rattle.judy_leaf.proofs.leaf_ref.LeafRef.key_at.Goals as goal

pub key_at-requires-clause-inside : goal.key_at-requires-clause-inside
key_at-requires-clause-inside g c = subst (λ n. c.args.at < n) (sym c.keys-width.ensures.count) c.requires

pub returns : goal.returns
returns g c = c.key_at.ensures ∙ ap (λ keys. slice_index keys c.args.at) c.keys-width.ensures.same
