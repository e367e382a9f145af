use Rattle.std.specs.Cmp.{nat_cmp_total}
use Rattle.std.specs.Cmp.Lexicographic.{nat_list_cmp_total}
use Rattle.judy_model.proofs.lemmas.maps.ChangesLemmas.{len-del}
use Rattle.judy_model.proofs.laws.changes.del_takes_one.Goals as goal

pub returns : goal.returns
returns c = record { words = len-del nat_cmp_total; byte_strings = len-del nat_list_cmp_total }
