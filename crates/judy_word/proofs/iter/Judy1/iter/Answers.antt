use Rattle.std.proofs.Common.{◌∙◌, ap, sym}
use Rattle.std.specs.FinMap as map
use Rattle.judy_leaf.specs.KeyLists.{keys_of}
use Rattle.judy_query.proofs.Links.{keys_are}
use Rattle.judy_word.specs.Held.{map_in}
use Rattle.judy_word.proofs.iter.Judy1.iter.Goals as goal

pub returns : goal.returns
returns c =
    ap keys_of c.iter.ensures ∙ sym (keys_are (map.entries (map_in c.tree.result.now))) ∙ ap (λ array. map.keys array.map) (sym c.tree.ensures)
