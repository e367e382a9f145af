use Rattle.std.specs.Cmp.{nat_cmp_total}
use Rattle.std.specs.Cmp.Lexicographic.{nat_list_cmp_total}
use Rattle.std.specs.FinMap.{nat_cmp-IsAntisymmetric, slice_cmp-IsAntisymmetric}
use Rattle.judy_laws.proofs.lemmas.Joins.{halves_join}
use Rattle.judy_laws.proofs.laws.parts.both_sides_join_to_the_map.Goals as goal

pub returns : goal.returns
returns c = record { words = halves_join nat_cmp_total nat_cmp-IsAntisymmetric; byte_strings = halves_join nat_list_cmp_total (slice_cmp-IsAntisymmetric nat_cmp-IsAntisymmetric) }
