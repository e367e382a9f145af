use Rattle.std.proofs.Common.{◌≡◌, Some, ◌∙◌, subst}
use Rattle.slab.specs.Slab.{Slab, get}
use Rattle.judy_sl.specs.LevelLists.{LevelParts, words_in}
use Rattle.judy_sl.proofs.lemmas.seats.Numbered.{held-here, words-here}
use Rattle.judy_sl.proofs.level_list.LevelList.words.Goals as goal

pub index-requires : goal.index-requires
index-requires c = held-here c.self.inside.words c.self.inside.numbers.items c.args.index c.args.self.now c.self.view_is c.requires

pub returns : goal.returns
returns c =
    subst (λ (levels : Slab LevelParts). words_in (get levels c.args.index) ≡ Some c.index.result.now) c.self.view_is
    (words-here c.self.inside.words c.self.inside.numbers.items c.args.index ∙ c.index.ensures)
