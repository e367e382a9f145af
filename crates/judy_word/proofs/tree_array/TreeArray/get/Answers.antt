use Rattle.std.proofs.Common.{◌∙◌, ap, sym}
use Rattle.std.specs.FinMap as map
use Rattle.judy_query.specs.Maps.{map_of}
use Rattle.judy_word.proofs.tree_array.TreeArray.get.Goals as goal

pub returns-in-Further : goal.returns-in-Further
returns-in-Further g c = rw (← c.self.view_is) (c.get_further.ensures ∙ sym (ap (λ pairs. map.get (map_of pairs) c.args.key) c.in-Further.ensures.start.0))
