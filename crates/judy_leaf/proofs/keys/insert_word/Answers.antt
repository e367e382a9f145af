use Rattle.std.proofs.Common.{◌+◌, sym, subst, ap, set, ◌∙◌, refl}
use Rattle.std.specs.List.{insert}
use Rattle.judy_block.specs.Contents.{Contents, with_gap}
use Rattle.judy_leaf.specs.KeyChanges.{IsKeyChange}
use Rattle.judy_leaf.proofs.WholeWords.{word_put}
use Rattle.judy_leaf.proofs.keys.insert_word.Goals as goal

pub returns : goal.returns
returns g c =
    let before = c.args.block.now in
    let place = c.args.start + c.args.at in
    let written : Contents → Contents = λ block. record block { words = set block.words place c.args.key } in
    subst (IsKeyChange g.row.W c.args.start c.args.count (c.args.count + 1) (λ keys. insert keys c.args.at c.args.key) before) (sym (c.put.ensures ∙ ap written c.open_gap.ensures))
    (word_put g.row.W c.requires.width c.requires.one c.args.start c.args.count c.args.at before c.requires.keys c.args.key
    (set (with_gap place 1 before.words) place c.args.key) c.requires.place c.requires.few c.requires.below refl)
