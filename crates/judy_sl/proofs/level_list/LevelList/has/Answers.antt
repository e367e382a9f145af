use Rattle.std.proofs.Common.{is_some, get_or, None, ap, ◌∙◌, subst}
use Rattle.slab.specs.Slab as slab
use Rattle.judy_sl.specs.LevelLists.{LevelParts}
use Rattle.judy_sl.proofs.lemmas.seats.Numbered.{get-numbered, some-parts, held-here}
use Rattle.judy_sl.proofs.level_list.LevelList.has.Goals as goal

pub returns : goal.returns
returns c =
    let words = c.self.inside.words in
    let numbers = c.self.inside.numbers.items in
    let index = c.args.index in (
      λ is.
          subst (λ (levels : slab.Slab LevelParts). slab.ContainsKey levels index) c.self.view_is
          (ap is_some (get-numbered words.slots numbers index) ∙ some-parts (get_or numbers index 0) (get_or words.slots index None) ∙ c.contains.ensures.0 is),
      λ held. c.contains.ensures.1 (held-here words numbers index c.args.self.now c.self.view_is held),
    )
