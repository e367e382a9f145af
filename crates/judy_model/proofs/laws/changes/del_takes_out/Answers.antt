use Rattle.std.specs.Cmp.{nat_cmp_total}
use Rattle.std.specs.Cmp.Lexicographic.{nat_list_cmp_total}
use Rattle.judy_model.proofs.lemmas.maps.ChangesLemmas.{get-del_same}
use Rattle.judy_model.proofs.laws.changes.del_takes_out.Goals as goal

pub returns : goal.returns
returns c = record { words = get-del_same nat_cmp_total; byte_strings = get-del_same nat_list_cmp_total }
