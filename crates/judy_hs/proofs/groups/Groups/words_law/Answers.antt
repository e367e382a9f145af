use Rattle.std.proofs.Common.{ℕ}
use Rattle.std.proofs.lemmas.List.Elements.{AllWithin-more, AllWithin-upto, All-from_all_within}
use Rattle.judy_hs.specs.Groups.{in_group}
use Rattle.judy_hs.specs.GroupPlaces.{group_of}
use Rattle.judy_hs.specs.Values.{AreWords}
use Rattle.judy_hs.specs.declared.group.GroupPlace.{GroupPlace}
use Rattle.judy_hs.proofs.ValueLemmas.{read_holds, groups_words}
use Rattle.judy_hs.proofs.groups.Groups.words_law.Goals as goal

pub loop-group-preserved : goal.loop-group-preserved
loop-group-preserved c =
    AllWithin-more (λ (group : GroupPlace). (part : ℕ) → AreWords (in_group (group_of group) part)) _ 0 c.loop-group.group-index c.loop-group.invariant
    (read_holds (λ (group : GroupPlace). (part : ℕ) → AreWords (in_group (group_of group) part)) _ c.loop-group.group-index c.group-item.result c.loop-group-test.true
    c.group-item.is c.words_law.ensures)

pub returns : goal.returns
returns c =
    rw (← c.self.view_is, ← c.deref-group-items.ensures.value) (groups_words c.self.inside.lengths _
    (All-from_all_within (λ (group : GroupPlace). (part : ℕ) → AreWords (in_group (group_of group) part)) _
    (AllWithin-upto (λ (group : GroupPlace). (part : ℕ) → AreWords (in_group (group_of group) part)) _ 0 c.loop-group.group-index _ c.loop-group-test.false c.loop-group.invariant)))
