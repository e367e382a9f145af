use Rattle.std.proofs.Common.{length, sym, ap, ◌*◌, ◌∙◌}
use Rattle.judy_node.specs.Views.{view_pairs}
use Rattle.judy_node.proofs.Maps.{length-shift}
use Rattle.judy_query.proofs.ends.len_in.Goals as goal

pub returns-in-BitLeaf : goal.returns-in-BitLeaf
returns-in-BitLeaf g c = c.len-in-BitLeaf.ensures.count ∙ sym (length-shift (c.in-BitLeaf.field-0 * 256) c.in-BitLeaf.list.pairs) ∙ ap (λ v. length (view_pairs v)) (sym c.in-BitLeaf.is)
