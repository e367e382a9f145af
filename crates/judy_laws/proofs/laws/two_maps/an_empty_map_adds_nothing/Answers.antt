use Rattle.std.specs.Cmp.{nat_cmp_total}
use Rattle.std.specs.Cmp.Lexicographic.{nat_list_cmp_total}
use Rattle.std.specs.FinMap.{nat_cmp-IsAntisymmetric, slice_cmp-IsAntisymmetric}
use Rattle.judy_laws.proofs.lemmas.Joins.{union_with_empty}
use Rattle.judy_laws.proofs.laws.two_maps.an_empty_map_adds_nothing.Goals as goal

pub returns : goal.returns
returns c = record { words = union_with_empty nat_cmp_total nat_cmp-IsAntisymmetric; byte_strings = union_with_empty nat_list_cmp_total (slice_cmp-IsAntisymmetric nat_cmp-IsAntisymmetric) }
