use Rattle.std.specs.Cmp.{nat_cmp_total}
use Rattle.std.specs.Cmp.Lexicographic.{nat_list_cmp_total}
use Rattle.judy_model.proofs.lemmas.maps.ChangesLemmas.{get-write_same}
use Rattle.judy_model.proofs.laws.changes.write_gives_value.Goals as goal

pub returns : goal.returns
returns c = record { words = get-write_same nat_cmp_total; byte_strings = get-write_same nat_list_cmp_total }
