use Rattle.std.specs.Cmp.{nat_cmp_total}
use Rattle.std.specs.Cmp.Lexicographic.{nat_list_cmp_total}
use Rattle.judy_model.proofs.lemmas.maps.ChangesLemmas.{len-write}
use Rattle.judy_model.proofs.laws.changes.write_adds_one.Goals as goal

pub returns : goal.returns
returns c = record { words = λ value map key. len-write nat_cmp_total map key value; byte_strings = λ value map key. len-write nat_list_cmp_total map key value }
