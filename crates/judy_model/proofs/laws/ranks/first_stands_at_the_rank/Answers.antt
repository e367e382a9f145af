use Rattle.std.specs.Cmp.{nat_cmp_total}
use Rattle.std.specs.Cmp.Lexicographic.{nat_list_cmp_total}
use Rattle.judy_model.proofs.lemmas.queries.RankLaws.{first_at_rank}
use Rattle.judy_model.proofs.laws.ranks.first_stands_at_the_rank.Goals as goal

pub returns : goal.returns
returns c = record { words = first_at_rank nat_cmp_total; byte_strings = first_at_rank nat_list_cmp_total }
