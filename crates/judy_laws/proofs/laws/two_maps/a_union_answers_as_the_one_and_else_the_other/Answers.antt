use Rattle.std.specs.Cmp.{nat_cmp_total}
use Rattle.std.specs.Cmp.Lexicographic.{nat_list_cmp_total}
use Rattle.judy_model.proofs.lemmas.maps.TwoMapsLemmas.{get-union}
use Rattle.judy_laws.proofs.laws.two_maps.a_union_answers_as_the_one_and_else_the_other.Goals as goal

pub returns : goal.returns
returns c = record { words = get-union nat_cmp_total; byte_strings = get-union nat_list_cmp_total }
