use Rattle.std.proofs.Common.{◌^◌}
use Rattle.std.proofs.lemmas.Nat.{mod_below}
use Rattle.judy_model.proofs.lemmas.orders.ByteLemmas.{unit_pos, number_of-low_bytes, mod-byte_of}
use Rattle.judy_model.proofs.laws.bytes.bytes_below_a_place.Goals as goal

pub returns : goal.returns
returns c = record { spelled = λ word width. number_of-low_bytes width word; below = λ word width. mod_below word (256 ^ width) (unit_pos width); one_more = mod-byte_of }
