use Rattle.judy_bits.proofs.PaddingLemmas.{closed_array}
use Rattle.judy_bits.proofs.few_bytes.close_place.Goals as goal

pub returns : goal.returns
returns c = closed_array c.args.bytes.now c.copy_from_slice.new.self c.args.at c.told-bytes c.requires c.copy_from_slice.ensures.after
