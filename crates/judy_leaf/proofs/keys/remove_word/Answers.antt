use Rattle.std.proofs.Common.{◌+◌, ◌-◌, sym, subst, refl}
use Rattle.std.specs.List.{remove}
use Rattle.judy_block.specs.Contents.{without_gap}
use Rattle.judy_leaf.specs.KeyChanges.{IsKeyChange}
use Rattle.judy_leaf.proofs.WholeWords.{word_taken}
use Rattle.judy_leaf.proofs.keys.remove_word.Goals as goal

pub returns : goal.returns
returns g c =
    let before = c.args.block.now in
    subst (IsKeyChange g.row.W c.args.start c.args.count (c.args.count - 1) (λ keys. remove keys c.args.at) before) (sym c.close_gap.ensures)
    (word_taken g.row.W c.requires.width c.requires.one c.args.start c.args.count c.args.at before c.requires.keys (without_gap (c.args.start + c.args.at) 1 before.words) c.requires.inside refl)
