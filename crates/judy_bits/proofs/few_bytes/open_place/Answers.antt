use Rattle.judy_bits.proofs.PaddingLemmas.{opened_array}
use Rattle.judy_bits.proofs.few_bytes.open_place.Goals as goal

pub returns : goal.returns
returns c = opened_array c.args.bytes.now c.copy_from_slice.new.self c.args.at c.args.byte c.told-bytes c.requires c.copy_from_slice.ensures.after
