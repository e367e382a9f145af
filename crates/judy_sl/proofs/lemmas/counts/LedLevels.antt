-- Levels that stay where an arena changes, with the ways to them.
use Rattle.std.proofs.Common.{◌≡◌, ℕ, suc, Bool, List, Some, sym, ap, subst, ◌∙◌, ⊎_elim}
use Rattle.judy_model.specs.Arrays.{ArrayOf}
use Rattle.judy_sl.specs.Children.{Child, Free, Tail, Level, IsLevelChild}
use Rattle.judy_sl.specs.Stepped.{child_stepped}
use Rattle.judy_sl.specs.declared.arena.Arena.{Arena}
use Rattle.judy_sl.specs.World.{World, walk}
use Rattle.judy_sl.specs.Arenas.{world_of, node_of, child_at}
use Rattle.judy_sl.specs.Counted.{AreStepped}
use Rattle.judy_sl.specs.Grown.{IsSame}
use Rattle.judy_sl.specs.Listed.{StaysLed}
use Rattle.judy_sl.proofs.lemmas.seats.Led.{KeepsEntries}
use Rattle.judy_sl.proofs.lemmas.inserts.Filled.{world-same, level-child}
use Rattle.judy_sl.proofs.lemmas.counts.KeptLevels.{walk-keeps}
use Rattle.judy_sl.proofs.lemmas.counts.Stepping.{among-cases, step-level}

-- Where entries that lead on stay.
pub stays_kept : (before after : Arena) → ((seat : ℕ) → KeepsEntries (world_of before seat) (world_of after seat)) → StaysLed before after
stays_kept before after keeps at told was e =
    let kept = keeps (suc at) was.map (ap node_of e) in
    (level-child (child_at after at) kept.0 kept.1, λ front inner way. walk-keeps (world_of before) (world_of after) keeps 0 front (suc at) inner way)

-- Where nothing has changed before.
pub stays_same : (before mid after : Arena) → IsSame before mid → StaysLed mid after → StaysLed before after
stays_same before mid after same stays at told was e =
    let there = stays at told was (same.children at ∙ e) in
    (there.0, λ front inner way. there.1 front inner (subst (λ (w : World). walk w 0 front ≡ Some (suc at)) (sym (world-same before mid same)) way))

-- Where the numbers of levels are stepped after that,
pub stays_stepped : (comes : Bool) (before mid after : Arena) (places : List ℕ) → AreStepped comes mid after places → StaysLed before mid → StaysLed before after
stays_stepped comes before mid after places stepped stays at told was e =
    let there = stays at told was e in (
      ⊎_elim (λ among. subst IsLevelChild (sym (stepped.passed at among)) (step-level comes (child_at mid at) there.0))
          (λ none. subst IsLevelChild (sym (stepped.others at none)) there.0) (among-cases places at),
      λ front inner way. subst (λ (w : World). walk w 0 front ≡ Some (suc at)) (sym stepped.world) (there.1 front inner way),
    )

level_back : (comes : Bool) (child : Child) → IsLevelChild (child_stepped comes child) → IsLevelChild child
level_back comes Free is = is
level_back comes (Tail rest) is = is
level_back comes (Level keys words) is = is

-- and where they were before it.
pub stays_before : (comes : Bool) (before mid after : Arena) (places : List ℕ) → AreStepped comes before mid places → StaysLed after mid → StaysLed after before
stays_before comes before mid after places stepped stays at told was e =
    let there = stays at told was e in (
      ⊎_elim (λ among. level_back comes (child_at before at) (subst IsLevelChild (stepped.passed at among) there.0))
          (λ none. subst IsLevelChild (stepped.others at none) there.0) (among-cases places at),
      λ front inner way. subst (λ (w : World). walk w 0 front ≡ Some (suc at)) stepped.world (there.1 front inner way),
    )
