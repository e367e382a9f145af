use Rattle.std.specs.Cmp.{nat_cmp_total}
use Rattle.std.specs.Cmp.Lexicographic.{nat_list_cmp_total}
use Rattle.std.specs.FinMap.{nat_cmp-IsAntisymmetric, slice_cmp-IsAntisymmetric}
use Rattle.judy_laws.proofs.lemmas.Joins.{disjoint_has_none}
use Rattle.judy_laws.proofs.laws.two_maps.disjoint_maps_have_nothing_in_common.Goals as goal

pub returns : goal.returns
returns c = record { words = disjoint_has_none nat_cmp_total nat_cmp-IsAntisymmetric; byte_strings = disjoint_has_none nat_list_cmp_total (slice_cmp-IsAntisymmetric nat_cmp-IsAntisymmetric) }
