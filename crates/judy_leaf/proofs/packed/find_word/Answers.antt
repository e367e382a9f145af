use Rattle.std.proofs.Common.{◌≡◌, ◌/◌, sym, subst, refl, ap, ◌∙◌}
use Rattle.std.specs.List.Sorted.{IsStrictlySortedBy}
use Rattle.judy_model.specs.Keys.{word_order}
use Rattle.judy_bits.specs.ByteSets as set
use Rattle.judy_leaf.proofs.WholeWords.{keys_are}
use Rattle.judy_leaf.proofs.packed.find_word.Goals as goal

pub place_of-requires-clause-ascending : goal.place_of-requires-clause-ascending
place_of-requires-clause-ascending c =
    subst (IsStrictlySortedBy word_order) (keys_are 8 c.requires.packed.is_width (let e : 8 / 8 ≡ 1 = refl in e) c.args.count c.args.words.now c.requires.packed) c.requires.ascending

pub returns : goal.returns
returns c = c.place_of.ensures ∙ sym (ap (λ keys. set.place keys c.args.key) (keys_are 8 c.requires.packed.is_width (let e : 8 / 8 ≡ 1 = refl in e) c.args.count c.args.words.now c.requires.packed))
