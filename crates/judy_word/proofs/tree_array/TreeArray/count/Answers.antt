use Rattle.std.specs.Cmp.{nat_cmp_total}
use Rattle.judy_model.proofs.lemmas.queries.RankLemmas.{count-sub}
use Rattle.judy_word.specs.Held.{map_in}
use Rattle.judy_word.proofs.tree_array.TreeArray.count.Goals as goal

pub returns : goal.returns
returns g c = rw (count-sub nat_cmp_total (map_in c.args.self.now) c.args.from c.args.to, ← c.count_up_to.ensures, ← c.rank.ensures) c.saturating_sub.ensures
