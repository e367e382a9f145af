use Rattle.judy_leaf.specs.KeyLists.{keys_of}
use Rattle.judy_leaf.proofs.BitLists.{place_above}
use Rattle.judy_leaf.proofs.bit_ref.BitRef.find.Goals as goal

pub returns-else-key-lt256 : goal.returns-else-key-lt256
returns-else-key-lt256 g c = place_above (keys_of c.args.self.now.pairs) c.args.key c.bits-bits.ensures.is_set c.if-key-lt256.false
