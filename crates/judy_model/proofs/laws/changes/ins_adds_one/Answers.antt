use Rattle.std.specs.Cmp.{nat_cmp_total}
use Rattle.std.specs.Cmp.Lexicographic.{nat_list_cmp_total}
use Rattle.judy_model.proofs.lemmas.maps.ChangesLemmas.{len-ins}
use Rattle.judy_model.proofs.laws.changes.ins_adds_one.Goals as goal

pub returns : goal.returns
returns c = record { words = len-ins nat_cmp_total; byte_strings = len-ins nat_list_cmp_total }
