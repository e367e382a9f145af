use Rattle.std.specs.Cmp.{nat_cmp_total}
use Rattle.std.specs.Cmp.Lexicographic.{nat_list_cmp_total}
use Rattle.std.specs.FinMap.{nat_cmp-IsAntisymmetric, slice_cmp-IsAntisymmetric}
use Rattle.judy_model.proofs.lemmas.queries.CountsLemmas.{by_count_none}
use Rattle.judy_model.proofs.laws.counts.nth_is_none_outside.Goals as goal

pub returns : goal.returns
returns c = record { words = by_count_none nat_cmp_total nat_cmp-IsAntisymmetric; byte_strings = by_count_none nat_list_cmp_total (slice_cmp-IsAntisymmetric nat_cmp-IsAntisymmetric) }
