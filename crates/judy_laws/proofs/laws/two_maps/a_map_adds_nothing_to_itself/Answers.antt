use Rattle.std.specs.Cmp.{nat_cmp_total}
use Rattle.std.specs.Cmp.Lexicographic.{nat_list_cmp_total}
use Rattle.std.specs.FinMap.{nat_cmp-IsAntisymmetric, slice_cmp-IsAntisymmetric}
use Rattle.judy_laws.proofs.lemmas.Joins.{union_with_itself}
use Rattle.judy_laws.proofs.laws.two_maps.a_map_adds_nothing_to_itself.Goals as goal

pub returns : goal.returns
returns c = record { words = union_with_itself nat_cmp_total nat_cmp-IsAntisymmetric; byte_strings = union_with_itself nat_list_cmp_total (slice_cmp-IsAntisymmetric nat_cmp-IsAntisymmetric) }
