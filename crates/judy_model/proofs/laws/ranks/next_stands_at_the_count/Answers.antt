use Rattle.std.specs.Cmp.{nat_cmp_total}
use Rattle.std.specs.Cmp.Lexicographic.{nat_list_cmp_total}
use Rattle.judy_model.proofs.lemmas.queries.RankLaws.{next_at_count}
use Rattle.judy_model.proofs.laws.ranks.next_stands_at_the_count.Goals as goal

pub returns : goal.returns
returns c = record { words = next_at_count nat_cmp_total; byte_strings = next_at_count nat_list_cmp_total }
