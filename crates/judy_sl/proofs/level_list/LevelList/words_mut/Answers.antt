use Rattle.std.proofs.Common.{◌≡◌, Some, refl, ap, ◌∙◌, subst}
use Rattle.slab.specs.Slab.{Slab, get}
use Rattle.judy_sl.specs.LevelLists.{LevelParts, words_in, with_words}
use Rattle.judy_sl.proofs.lemmas.seats.Numbered.{held-here, words-here, words-written, kept-slot}
use Rattle.judy_sl.proofs.level_list.LevelList.words_mut.Goals as goal

pub index_mut-requires : goal.index_mut-requires
index_mut-requires c = held-here c.self.inside.words c.self.inside.numbers.items c.args.index c.args.self.now c.self.view_is c.requires

pub invariant_of-self-lent : goal.invariant_of-self-lent
invariant_of-self-lent c w =
    let held = held-here c.self.inside.words c.self.inside.numbers.items c.args.index c.args.self.now c.self.view_is c.requires in
    kept-slot c.self.inside.words c.self.inside.numbers.items c.args.index w held c.self.invariant

pub returns : goal.returns
returns c =
    let words = c.self.inside.words in
    let numbers = c.self.inside.numbers.items in
    let index = c.args.index in
    let held = held-here words numbers index c.args.self.now c.self.view_is c.requires in (
      (refl, λ w. words-written words numbers index held w ∙ ap (λ (levels : Slab LevelParts). with_words levels index w) c.self.view_is),
      record {
        writes_back = tt;
        value = subst (λ (levels : Slab LevelParts). words_in (get levels index) ≡ Some c.index_mut.result.now) c.self.view_is (words-here words numbers index ∙ c.index_mut.ensures.value);
      },
    )
