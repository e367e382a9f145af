use Rattle.std.proofs.Common.{[], sym}
use Rattle.std.specs.Cmp.{nat_cmp_total}
use Rattle.std.specs.Cmp.Lexicographic.{nat_list_cmp_total}
use Rattle.judy_model.proofs.lemmas.queries.RankLemmas.{count_from_least}
use Rattle.judy_model.proofs.lemmas.queries.CountsLemmas.{zero_is_least, empty_string_is_least}
use Rattle.judy_model.proofs.laws.ranks.count_up_to_is_from_the_least.Goals as goal

pub returns : goal.returns
returns c = record {
  words = λ map key. sym (count_from_least nat_cmp_total map 0 zero_is_least key);
  byte_strings = λ map key. sym (count_from_least nat_list_cmp_total map [] empty_string_is_least key);
}
