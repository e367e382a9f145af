use Rattle.std.proofs.Common.{◌<◌, slice_index, ap, sym, subst, ◌∙◌}
use Rattle.judy_leaf.specs.Leaves.{keys_from, AreKeysFrom}
use Rattle.judy_leaf.proofs.leaf_ref.LeafRef.key_of.Goals as goal

pub key_in_block-requires-clause-keys : goal.key_in_block-requires-clause-keys
key_in_block-requires-clause-keys g c =
    subst (λ w. AreKeysFrom w c.keys-start.result.3 c.keys-start.result.2 c.keys-start.result.1.now) (c.keys-start.ensures.width ∙ c.requires.width) c.keys-start.ensures.stand

pub key_in_block-requires-clause-inside : goal.key_in_block-requires-clause-inside
key_in_block-requires-clause-inside g c = subst (λ n. c.args.at < n) (sym c.keys-start.ensures.count) c.requires.inside

pub returns : goal.returns
returns g c =
    let width = c.keys-start.ensures.width ∙ c.requires.width in
    c.key_in_block.ensures ∙ (λ t. slice_index (keys_from (sym width t) c.keys-start.result.3 c.keys-start.result.2 c.keys-start.result.1.now) c.args.at) ∙
    ap (λ keys. slice_index keys c.args.at) c.keys-start.ensures.same
