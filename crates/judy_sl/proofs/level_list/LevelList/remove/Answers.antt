use Rattle.std.proofs.Common.{◌≡◌, None, Some, ◌∙◌, subst}
use Rattle.slab.specs.Slab.{Slab, Updates, get}
use Rattle.judy_sl.specs.LevelLists.{LevelParts, words_in, side_by_side}
use Rattle.judy_sl.proofs.lemmas.seats.Numbered.{held-here, words-here, updated, numbered-removed}
use Rattle.judy_sl.proofs.level_list.LevelList.remove.Goals as goal

pub remove-requires : goal.remove-requires
remove-requires c = held-here c.self.inside.words c.self.inside.numbers.items c.args.index c.args.self.now c.self.view_is c.requires

pub invariant_of-self : goal.invariant_of-self
invariant_of-self c = numbered-removed c.self.inside.words c.remove.new.self c.self.inside.numbers.items c.args.index c.remove.ensures.updates c.self.invariant

pub returns : goal.returns
returns c =
    let words = c.self.inside.words in
    let numbers = c.self.inside.numbers.items in
    record {
      words = subst (λ (levels : Slab LevelParts). words_in (get levels c.args.index) ≡ Some c.remove.result) c.self.view_is (words-here words numbers c.args.index ∙ c.remove.ensures.value);
      removed =
          subst (λ (levels : Slab LevelParts). Updates levels (side_by_side c.remove.new.self numbers) c.args.index None) c.self.view_is
          (updated words c.remove.new.self numbers c.args.index None c.remove.ensures.updates);
    }
