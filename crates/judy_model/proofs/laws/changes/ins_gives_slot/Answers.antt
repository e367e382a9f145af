use Rattle.std.specs.Cmp.{nat_cmp_total}
use Rattle.std.specs.Cmp.Lexicographic.{nat_list_cmp_total}
use Rattle.judy_model.proofs.lemmas.maps.ChangesLemmas.{get-ins_same}
use Rattle.judy_model.proofs.laws.changes.ins_gives_slot.Goals as goal

pub returns : goal.returns
returns c = record { words = get-ins_same nat_cmp_total; byte_strings = get-ins_same nat_list_cmp_total }
