use Rattle.std.proofs.Common.{◌∙◌, ap, sym, drop}
use Rattle.std.specs.FinMap as map
use Rattle.judy_leaf.specs.KeyLists.{keys_of}
use Rattle.judy_model.specs.Counts as counts
use Rattle.judy_word.specs.Held.{map_in}
use Rattle.judy_word.proofs.IterFacts.{keys_of-drop}
use Rattle.judy_word.proofs.iter.Judy1.iter_from.Goals as goal

pub returns : goal.returns
returns c =
    let held = map_in c.tree.result.now in
    ap keys_of c.iter_from.ensures ∙ keys_of-drop (counts.rank held c.args.i) (map.entries held) ∙ ap (λ array. drop (counts.rank array.map c.args.i) (map.keys array.map)) (sym c.tree.ensures)
