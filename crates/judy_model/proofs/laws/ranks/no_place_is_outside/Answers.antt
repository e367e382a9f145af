use Rattle.std.specs.Cmp.{nat_cmp_total}
use Rattle.std.specs.Cmp.Lexicographic.{nat_list_cmp_total}
use Rattle.judy_model.proofs.lemmas.queries.RankLaws.{nth_none}
use Rattle.judy_model.proofs.laws.ranks.no_place_is_outside.Goals as goal

pub returns : goal.returns
returns c = record { words = nth_none nat_cmp_total; byte_strings = nth_none nat_list_cmp_total }
