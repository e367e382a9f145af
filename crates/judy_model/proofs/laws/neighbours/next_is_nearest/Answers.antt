use Rattle.std.specs.Cmp.{nat_cmp_total}
use Rattle.std.specs.Cmp.Lexicographic.{nat_list_cmp_total}
use Rattle.std.specs.FinMap.{nat_cmp-IsAntisymmetric, slice_cmp-IsAntisymmetric}
use Rattle.judy_model.proofs.lemmas.queries.NearestLemmas.{next-IsNext}
use Rattle.judy_model.proofs.laws.neighbours.next_is_nearest.Goals as goal

pub returns : goal.returns
returns c = record { words = next-IsNext nat_cmp_total nat_cmp-IsAntisymmetric; byte_strings = next-IsNext nat_list_cmp_total (slice_cmp-IsAntisymmetric nat_cmp-IsAntisymmetric) }
