use Rattle.std.specs.Cmp.{nat_cmp_total}
use Rattle.std.specs.Cmp.Lexicographic.{nat_list_cmp_total}
use Rattle.std.specs.FinMap.{nat_cmp-IsAntisymmetric, slice_cmp-IsAntisymmetric}
use Rattle.judy_model.proofs.lemmas.queries.NearestLemmas.{greatest_is_one}
use Rattle.judy_model.proofs.laws.neighbours.greatest_is_one.Goals as goal

pub returns : goal.returns
returns c = record { words = greatest_is_one nat_cmp_total nat_cmp-IsAntisymmetric; byte_strings = greatest_is_one nat_list_cmp_total (slice_cmp-IsAntisymmetric nat_cmp-IsAntisymmetric) }
