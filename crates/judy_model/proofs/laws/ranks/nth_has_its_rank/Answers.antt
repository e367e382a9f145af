use Rattle.std.specs.Cmp.{nat_cmp_total}
use Rattle.std.specs.Cmp.Lexicographic.{nat_list_cmp_total}
use Rattle.std.specs.FinMap.{nat_cmp-IsAntisymmetric, slice_cmp-IsAntisymmetric}
use Rattle.judy_model.proofs.lemmas.queries.RankLaws.{nth-rank}
use Rattle.judy_model.proofs.laws.ranks.nth_has_its_rank.Goals as goal

pub returns : goal.returns
returns c = record { words = nth-rank nat_cmp_total nat_cmp-IsAntisymmetric; byte_strings = nth-rank nat_list_cmp_total (slice_cmp-IsAntisymmetric nat_cmp-IsAntisymmetric) }
