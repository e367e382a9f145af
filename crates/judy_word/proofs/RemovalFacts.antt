-- What an array keeps where a key was taken out of its tree, or a value written.
use Rattle.std.proofs.Common.{◌≡◌, ℕ, ◌≤◌, ◌^◌, Bool, true, false, not, ◌||◌, cond, [], ◌∷◌, length, Some, None, refl, sym, ap, ◌∙◌, subst, arith}
use Rattle.std.specs.FinMap.{get, remove}
use Rattle.judy_node.specs.Trees.{Pairs, Tree, IsNode}
use Rattle.judy_node.specs.Slots.{with_value}
use Rattle.judy_node.proofs.SlotFacts.{written-length}
use Rattle.judy_change.specs.declared.removed.Removed.{Removed}
use Rattle.judy_change.specs.Removals.{without, IsRemoved}
use Rattle.judy_change.proofs.Without.{by_same}
use Rattle.judy_query.specs.Maps.{map_of}
use Rattle.judy_word.specs.Held.{IsBounded}
use Rattle.judy_word.proofs.MapFacts.{get-value, map_of-without}

no_more : (key : ℕ) (pairs : Pairs) → length (without key pairs) ≤ length pairs
no_more key [] = omega arith
no_more key (pair ∷ pairs) =
    let rest = no_more key pairs in
    by_same (λ left. length left ≤ length (pair ∷ pairs)) pair.0 key (without key pairs) (pair ∷ without key pairs) (λ same. omega arith) (λ apart. omega arith)

pub neither : (one other : Bool) → (one || not other) ≡ false → (one ≡ false) × (other ≡ true)
neither true other e = cc
neither false true e = (refl, refl)
neither false false e = cc

module _ (words limit key : ℕ) (old new : Tree) (removed : Removed) (node : IsNode words old) (is : IsRemoved key old new removed) where
  -- It holds no more than before, and is tight where it was and the nodes shrank.
  pub bounded-removed : (loose : Bool) → IsBounded limit old loose → IsBounded limit new (loose || not removed.shrunk)
  bounded-removed loose bounded =
      let fewer = no_more key old.pairs in
      record {
        holds_some = bounded.holds_some;
        within_limit = subst (λ pairs. length pairs ≤ limit) (sym is.gone) (omega (arith, bounded.within_limit, fewer));
        tight = λ e. is.tight (bounded.tight (neither loose removed.shrunk e).0) (neither loose removed.shrunk e).1;
      }

  -- The value is the one that the map had, where it was there.
  pub value-held : cond removed.was (Some removed.value) None ≡ get (map_of old.pairs) key
  value-held = sym (get-value words (256 ^ 8) old.pairs node.map key ∙ is.found)

  -- The map is the one without the key.
  pub map-removed : map_of new.pairs ≡ remove (map_of old.pairs) key
  map-removed = ap map_of is.gone ∙ map_of-without words (256 ^ 8) key old.pairs node.map

-- A value that is written leaves as many keys, and all nodes.
pub bounded-written : (limit key value : ℕ) (tree : Tree) (loose : Bool) → IsBounded limit tree loose → IsBounded limit (with_value tree key value) loose
bounded-written limit key value tree loose bounded =
    record { holds_some = bounded.holds_some; within_limit = subst (λ n. n ≤ limit) (sym (written-length key value tree.pairs)) bounded.within_limit; tight = bounded.tight }
