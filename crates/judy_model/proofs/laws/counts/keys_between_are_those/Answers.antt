use Rattle.std.specs.Cmp.{nat_cmp_total}
use Rattle.std.specs.Cmp.Lexicographic.{nat_list_cmp_total}
use Rattle.std.specs.FinMap.{nat_cmp-IsAntisymmetric, slice_cmp-IsAntisymmetric}
use Rattle.judy_model.proofs.lemmas.queries.CountsLemmas.{Contains-keys_between}
use Rattle.judy_model.proofs.laws.counts.keys_between_are_those.Goals as goal

pub returns : goal.returns
returns c = record { words = Contains-keys_between nat_cmp_total nat_cmp-IsAntisymmetric; byte_strings = Contains-keys_between nat_list_cmp_total (slice_cmp-IsAntisymmetric nat_cmp-IsAntisymmetric) }
