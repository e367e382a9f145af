use Rattle.std.specs.Cmp.Lexicographic.{nat_list_cmp_total}
use Rattle.judy_model.proofs.lemmas.orders.StringLemmas.{byte_order-Less, byte_order-Greater, byte_order-Equal}
use Rattle.judy_model.proofs.laws.strings.byte_strings_compare_at_their_first_difference.Goals as goal

pub returns : goal.returns
returns c = record { before = byte_order-Less; after = byte_order-Greater; same = byte_order-Equal; transitive = nat_list_cmp_total.trans }
