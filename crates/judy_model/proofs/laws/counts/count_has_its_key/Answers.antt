use Rattle.std.proofs.Common.{[]}
use Rattle.std.specs.Cmp.{nat_cmp_total}
use Rattle.std.specs.Cmp.Lexicographic.{nat_list_cmp_total}
use Rattle.std.specs.FinMap.{nat_cmp-IsAntisymmetric, slice_cmp-IsAntisymmetric}
use Rattle.judy_model.proofs.lemmas.queries.CountsLemmas.{by_count-count, empty_string_is_least, zero_is_least}
use Rattle.judy_model.proofs.laws.counts.count_has_its_key.Goals as goal

pub returns : goal.returns
returns c = record {
  words = λ map. by_count-count nat_cmp_total nat_cmp-IsAntisymmetric map 0 zero_is_least;
  byte_strings = λ map. by_count-count nat_list_cmp_total (slice_cmp-IsAntisymmetric nat_cmp-IsAntisymmetric) map [] empty_string_is_least;
}
