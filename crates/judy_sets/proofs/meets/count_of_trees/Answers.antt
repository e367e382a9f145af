use Rattle.std.proofs.Common.{◌^◌, length, refl, sym, ap, ◌∙◌, subst}
use Rattle.std.specs.FinMap.Entries.{where_key}
use Rattle.judy_model.specs.Keys.{word_order}
use Rattle.judy_node.specs.Trees.{Pairs}
use Rattle.judy_query.specs.Maps.{map_of}
use Rattle.judy_word.proofs.IterFacts.{entries_are}
use Rattle.judy_sets.specs.LookUps.{is_wanted}
use Rattle.judy_sets.specs.Meets.{found, IsCounted}
use Rattle.judy_sets.proofs.MeetFacts.{found-where}
use Rattle.judy_sets.proofs.meets.count_of_trees.Goals as goal

pub returns : goal.returns
returns g c =
    let words = g.V.Words.WORDS in
    let wanted = c.args.sought.wanted in
    let one = c.args.one.now.pairs in
    let other = c.args.other.now.pairs in
    subst (λ n. IsCounted c.args.sought.enough n c.count_in.result)
    ((λ t. found wanted 0 (sym c.enter-ours.ensures.view.pairs t) (sym c.enter-theirs.ensures.view.pairs t))
    ∙ found-where wanted words (256 ^ 8) 0 one other refl c.law-2.ensures.map
    ∙ ap (λ (pairs : Pairs). length (where_key word_order (is_wanted wanted (map_of other)) pairs)) (sym (entries_are words (256 ^ 8) one c.law.ensures.map)))
    c.count_in.ensures
