use Rattle.std.specs.Cmp.{nat_cmp_total}
use Rattle.std.specs.Cmp.Lexicographic.{nat_list_cmp_total}
use Rattle.std.specs.FinMap.{nat_cmp-IsAntisymmetric, slice_cmp-IsAntisymmetric}
use Rattle.judy_model.proofs.lemmas.maps.TwoMapsLemmas.{get-intersection}
use Rattle.judy_laws.proofs.laws.two_maps.an_intersection_answers_as_the_one.Goals as goal

pub returns : goal.returns
returns c = record { words = get-intersection nat_cmp_total nat_cmp-IsAntisymmetric; byte_strings = get-intersection nat_list_cmp_total (slice_cmp-IsAntisymmetric nat_cmp-IsAntisymmetric) }
