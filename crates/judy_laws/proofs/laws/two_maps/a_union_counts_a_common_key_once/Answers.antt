use Rattle.std.specs.Cmp.{nat_cmp_total}
use Rattle.std.specs.Cmp.Lexicographic.{nat_list_cmp_total}
use Rattle.std.specs.FinMap.{nat_cmp-IsAntisymmetric, slice_cmp-IsAntisymmetric}
use Rattle.judy_laws.proofs.lemmas.Joins.{union_counts}
use Rattle.judy_laws.proofs.laws.two_maps.a_union_counts_a_common_key_once.Goals as goal

pub returns : goal.returns
returns c = record { words = union_counts nat_cmp_total nat_cmp-IsAntisymmetric; byte_strings = union_counts nat_list_cmp_total (slice_cmp-IsAntisymmetric nat_cmp-IsAntisymmetric) }
