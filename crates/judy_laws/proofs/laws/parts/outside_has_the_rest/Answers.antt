use Rattle.std.specs.Cmp.{nat_cmp_total}
use Rattle.std.specs.Cmp.Lexicographic.{nat_list_cmp_total}
use Rattle.std.specs.FinMap.{nat_cmp-IsAntisymmetric, slice_cmp-IsAntisymmetric}
use Rattle.judy_laws.proofs.lemmas.Joins.{outside_counts}
use Rattle.judy_laws.proofs.laws.parts.outside_has_the_rest.Goals as goal

pub returns : goal.returns
returns c = record { words = outside_counts nat_cmp_total nat_cmp-IsAntisymmetric; byte_strings = outside_counts nat_list_cmp_total (slice_cmp-IsAntisymmetric nat_cmp-IsAntisymmetric) }
