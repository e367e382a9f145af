use Rattle.std.specs.Cmp.{nat_cmp_total}
use Rattle.std.specs.Cmp.Lexicographic.{nat_list_cmp_total}
use Rattle.std.specs.FinMap.{nat_cmp-IsAntisymmetric, slice_cmp-IsAntisymmetric}
use Rattle.judy_laws.proofs.lemmas.Joins.{same_keys_count}
use Rattle.judy_laws.proofs.laws.two_maps.the_same_keys_are_as_many.Goals as goal

pub returns : goal.returns
returns c = record { words = same_keys_count nat_cmp_total nat_cmp-IsAntisymmetric; byte_strings = same_keys_count nat_list_cmp_total (slice_cmp-IsAntisymmetric nat_cmp-IsAntisymmetric) }
