use Rattle.std.proofs.Common.{sym, subst, ◌-◌, ◌*◌, ◌/◌, length, ap, ◌∙◌}
use Rattle.std.specs.List.Sorted.{IsStrictlySortedBy}
use Rattle.judy_model.specs.Keys.{word_order}
use Rattle.judy_bits.specs.ByteSets as set
use Rattle.judy_leaf.specs.Packing.{places_of}
use Rattle.judy_leaf.proofs.Counted.{rank-counted}
use Rattle.judy_leaf.proofs.WholeWords.{keys_are}
use Rattle.judy_leaf.proofs.packed.rank_in.Goals as goal

pub rank_of-requires-clause-ascending : goal.rank_of-requires-clause-ascending
rank_of-requires-clause-ascending g c =
    subst (IsStrictlySortedBy word_order) (keys_are g.row.W c.requires.packed.is_width (ap (λ w. 8 / w) c.if-this-eq8.true) c.args.count c.args.words.now c.requires.packed) c.requires.ascending

pub returns-then-this-eq8 : goal.returns-then-this-eq8
returns-then-this-eq8 g c =
    c.rank_of.ensures ∙ sym (ap (λ keys. set.rank keys c.args.key) (keys_are g.row.W c.requires.packed.is_width (ap (λ w. 8 / w) c.if-this-eq8.true) c.args.count c.args.words.now c.requires.packed))

pub returns : goal.returns
returns g c =
    let rest = length c.args.words.now * (8 / g.row.W) - c.args.count in
    c.saturating_sub.ensures ∙ ap (λ n. n - rest) c.count_below.ensures ∙ rank-counted (places_of g.row.W c.args.words.now) c.args.count rest c.args.key c.requires.packed.clear
