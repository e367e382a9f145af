use Rattle.std.proofs.Common.{◌≡◌, ◌++◌, ℕ, List, Result, Ok, Err, OnOk, sym, subst}
use Rattle.std.specs.List.{flat_map}
use Rattle.std.specs.List.Sorted.{IsPermutation}
use Rattle.std.specs.FinMap.{entries}
use Rattle.std.proofs.lemmas.List.Folds.{flat_map-map}
use Rattle.judy_hs.specs.Chains.{Pairs}
use Rattle.judy_hs.specs.LongGroups.{Long, chain_at}
use Rattle.judy_hs.specs.Listed.{places_of, AreListed}
use Rattle.judy_hs.proofs.MoveLemmas.{parts_moved}
use Rattle.judy_hs.proofs.long_group.LongGroup.list_unsorted.Goals as goal

-- Chains that are listed place by place are listed, in whatever order the places come.
listed : {E : Type 0} (group : Long) (places : List ℕ) (before after : Pairs) (result : Result (Unit {0}) E) → IsPermutation (places_of group) places
    → OnOk result (after ≡ before ++ flat_map (chain_at group) places) → OnOk result (AreListed group before after)
listed group places before after (Ok done) moved is = (
  flat_map (chain_at group) places,
  subst (λ (pairs : Pairs). IsPermutation pairs (flat_map (chain_at group) places)) (flat_map-map (chain_at group) (λ (entry : ℕ × ℕ). entry.1) (entries group.hashes.map))
      (parts_moved (chain_at group) (places_of group) places moved),
  is,
)
listed group places before after (Err error) moved is = tt

pub returns : goal.returns
returns c =
    listed c.args.self.now c.deref.result.now _ _ c.list_places.result (subst (IsPermutation (places_of c.args.self.now)) (sym c.deref.ensures.value) c.in_ok-places.ensures.places)
    c.list_places.ensures
