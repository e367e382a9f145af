use Rattle.std.specs.Cmp.{nat_cmp_total}
use Rattle.std.specs.Cmp.Lexicographic.{nat_list_cmp_total}
use Rattle.std.specs.FinMap.{nat_cmp-IsAntisymmetric, slice_cmp-IsAntisymmetric}
use Rattle.judy_laws.proofs.lemmas.Joins.{difference_answers}
use Rattle.judy_laws.proofs.laws.two_maps.a_difference_answers_as_the_one.Goals as goal

pub returns : goal.returns
returns c = record { words = difference_answers nat_cmp_total nat_cmp-IsAntisymmetric; byte_strings = difference_answers nat_list_cmp_total (slice_cmp-IsAntisymmetric nat_cmp-IsAntisymmetric) }
