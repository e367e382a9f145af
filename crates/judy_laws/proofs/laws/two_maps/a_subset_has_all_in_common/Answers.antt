use Rattle.std.specs.Cmp.{nat_cmp_total}
use Rattle.std.specs.Cmp.Lexicographic.{nat_list_cmp_total}
use Rattle.std.specs.FinMap.{nat_cmp-IsAntisymmetric, slice_cmp-IsAntisymmetric}
use Rattle.judy_laws.proofs.lemmas.Joins.{subset_has_all}
use Rattle.judy_laws.proofs.laws.two_maps.a_subset_has_all_in_common.Goals as goal

pub returns : goal.returns
returns c = record { words = subset_has_all nat_cmp_total nat_cmp-IsAntisymmetric; byte_strings = subset_has_all nat_list_cmp_total (slice_cmp-IsAntisymmetric nat_cmp-IsAntisymmetric) }
