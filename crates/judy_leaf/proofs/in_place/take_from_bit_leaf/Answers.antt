use Rattle.std.proofs.Common.{ap, refl, ◌∙◌, slice_get}
use Rattle.judy_leaf.specs.BitLeaves.{bit_list}
use Rattle.judy_leaf.proofs.BitLists.{bit_keys_are}
use Rattle.judy_leaf.proofs.in_place.take_from_bit_leaf.Goals as goal

pub take-requires-clause-there : goal.take-requires-clause-there
take-requires-clause-there g c =
    let words = g.V.Words.WORDS in
    let block = c.args.block.now in
    ap (λ keys. slice_get keys c.args.at) (bit_keys_are words block c.requires.parts (bit_list words block) refl) ∙ c.requires.there
