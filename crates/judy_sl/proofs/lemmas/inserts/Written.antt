-- A value that is written where the key's value stands.
use Rattle.std.proofs.Common.{◌≡◌, ◌≢◌, ℕ, zero, suc, List, [], ◌∷◌, ◌++◌, Some, refl, sym, ap, subst, ◌∙◌}
use Rattle.std.specs.FinMap.{insert}
use Rattle.judy_sl.specs.Children.{Child, Free, Tail, Level}
use Rattle.judy_sl.specs.declared.arena.Arena.{Arena}
use Rattle.judy_sl.specs.declared.arena.Place.{Place}
use Rattle.judy_sl.specs.declared.arena.Place.TheVariants.{Root, Below}
use Rattle.judy_sl.specs.Pieces.{pieces}
use Rattle.judy_sl.specs.World.{World, Node, gone, tail, level, lookup, at_entry, walk}
use Rattle.judy_sl.specs.WorldInvariants.{IsWorld, AllLed}
use Rattle.judy_sl.specs.Arenas.{world_of, node_of, child_at, IsArena}
use Rattle.judy_sl.specs.Children.{value_at, IsTaken}
use Rattle.judy_sl.specs.Places.{IsPlace, place_with, place_value}
use Rattle.judy_sl.specs.Ways.{seat_of, piece_at, HasValue, IsFound, LeadsTo}
use Rattle.judy_sl.proofs.lemmas.pieces.Ways.{look_in, lookup-walk, walk-behind, tail-same}
use Rattle.judy_sl.proofs.lemmas.seats.Seats.{set_node, cond-same, cond-other, NodeFits, IsUsed}
use Rattle.judy_sl.specs.Grown.{IsChange}
use Rattle.judy_sl.proofs.lemmas.seats.Entries.{changes_tail, changes_value}
use Rattle.judy_sl.proofs.lemmas.seats.Led.{KeepsEntries, keeps-none, keeps-insert, led-set}
use Rattle.judy_sl.proofs.lemmas.seats.Linked.{node_with, world-with_place, place-with_arena, fits-insert, insert-some, get-insert_here, get-insert_off}

-- The seat to which a key leads has its pieces behind it.
pub behind-leads : (world : World) (behind : ℕ → List ℕ) → IsWorld world behind → (key : List ℕ) (seat : ℕ) (rest : List ℕ) (leads : LeadsTo world key seat rest) → behind seat ≡ leads.front
behind-leads world behind is key seat rest leads =
    walk-behind world behind is 0 leads.front seat leads.inner leads.way ∙ ap (λ place. place ++ leads.front) is.first

-- Another node at the seat of a key leaves the seats that have other pieces behind them.
pub apart-leads : (world : World) (behind : ℕ → List ℕ) → IsWorld world behind → (key : List ℕ) (seat : ℕ) (rest : List ℕ) (leads : LeadsTo world key seat rest) (node : Node) (at : ℕ) →
    world at ≢ gone → behind at ≢ leads.front → set_node world seat node at ≡ world at
apart-leads world behind is key seat rest leads node at some off =
    cond-other world seat node at (λ e. off (ap behind e ∙ behind-leads world behind is key seat rest leads))

module _ (arena : Arena) (is : IsArena arena) (key : List ℕ) (place : Place) (found : IsFound (world_of arena) key place) where
  value-child : (child : Child) (piece : ℕ) (rest : List ℕ) (value : ℕ) → HasValue (node_of child) piece rest value → value_at child piece ≡ Some value
  value-child Free piece rest value has = absurd has
  value-child (Tail kept) piece rest value has = ap (λ v. Some v) has.2
  value-child (Level keys words) piece rest value has = has.2

  value-place : (p : Place) (rest : List ℕ) (value : ℕ) → HasValue (world_of arena (seat_of p)) (piece_at p) rest value → place_value arena p ≡ Some value
  value-place (Root piece) rest value has = has.2
  value-place (Below at piece) rest value has = value-child (child_at arena at) piece rest value has

  -- It is the value of the place.
  pub value-there : place_value arena place ≡ Some found.value
  value-there = value-place place found.rest found.value found.has

  some-node : (node : Node) (piece : ℕ) (rest : List ℕ) (value : ℕ) → HasValue node piece rest value → node ≢ gone
  some-node gone piece rest value has e = has
  some-node (tail held v) piece rest value has e = cc
  some-node (level map) piece rest value has e = cc

  taken-child : (child : Child) (piece : ℕ) (rest : List ℕ) (value : ℕ) → HasValue (node_of child) piece rest value → IsTaken child
  taken-child Free piece rest value has = absurd has
  taken-child (Tail kept) piece rest value has = tt
  taken-child (Level keys words) piece rest value has = tt

  taken-place : (p : Place) (rest : List ℕ) (value : ℕ) → HasValue (world_of arena (seat_of p)) (piece_at p) rest value → IsPlace arena p
  taken-place (Root piece) rest value has = tt
  taken-place (Below at piece) rest value has = taken-child (child_at arena at) piece rest value has

  -- Something stands there.
  pub place-there : IsPlace arena place
  place-there = taken-place place found.rest found.value found.has

  -- And it is what is found under the key.
  found-node : (node : Node) (piece : ℕ) (rest : List ℕ) (value : ℕ) → HasValue node piece rest value → (rest ≢ []) × (look_in (world_of arena) node rest ≡ Some value)
  found-node gone piece rest value has = absurd has
  found-node (tail held v) piece rest value has = (has.1, ap (λ l. look_in (world_of arena) (tail l v) rest) has.0 ∙ tail-same (world_of arena) rest v has.1 ∙ ap (λ n. Some n) has.2)
  found-node (level map) piece rest value has = (
    (λ e. let g : piece ∷ [] ≡ [] = sym has.0 ∙ e in cc),
    ap (look_in (world_of arena) (level map)) has.0 ∙ ap (λ o. at_entry o [] (λ at. lookup (world_of arena) (suc at) [])) has.2,
  )

  at-seat : (front rest : List ℕ) → rest ≢ [] → (seat : ℕ) → walk (world_of arena) 0 front ≡ Some seat → lookup (world_of arena) 0 (front ++ rest) ≡ look_in (world_of arena) (world_of arena seat) rest
  at-seat front [] some seat way = absurd (some refl)
  at-seat front (piece ∷ rest) some seat way = lookup-walk (world_of arena) 0 front seat piece rest way

  pub found-there : lookup (world_of arena) 0 (pieces key) ≡ Some found.value
  found-there =
      let has = found-node (world_of arena (seat_of place)) (piece_at place) found.rest found.value found.has in
      ap (lookup (world_of arena) 0) found.leads.parts ∙ at-seat found.leads.front found.rest has.0 (seat_of place) found.leads.way ∙ has.1

  module _ (value : ℕ) where
    abbrev other : World
    other = set_node (world_of arena) (seat_of place) (node_with (world_of arena (seat_of place)) (piece_at place) value)

    fits-node : (node : Node) → world_of arena (seat_of place) ≡ node → HasValue node (piece_at place) found.rest found.value →
        NodeFits (world_of arena) is.behind (is.behind (seat_of place)) (node_with node (piece_at place) value)
    fits-node gone e has = absurd has
    fits-node (tail held v) e has = is.is_world.tails (seat_of place) held v e
    fits-node (level map) e has =
        let fits = is.is_world.levels (seat_of place) map e in
        fits-insert (world_of arena) is.behind (is.behind (seat_of place)) map fits (piece_at place) value has.1 (fits.ends (piece_at place) found.value has.2 has.1)

    used-node : (seat : ℕ) (node : Node) → HasValue node (piece_at place) found.rest found.value → IsUsed seat (node_with node (piece_at place) value)
    used-node zero node has = tt
    used-node (suc at) gone has = absurd has
    used-node (suc at) (tail held v) has = tt
    used-node (suc at) (level map) has = insert-some map (piece_at place) value

    -- The arena stays one.
    pub written-arena : IsArena (place_with arena place value)
    written-arena = place-with_arena arena is place value place-there (fits-node (world_of arena (seat_of place)) refl found.has) (used-node (seat_of place) (world_of arena (seat_of place)) found.has)

    keeps-node : (node : Node) → HasValue node (piece_at place) found.rest found.value → KeepsEntries node (node_with node (piece_at place) value)
    keeps-node gone has = absurd has
    keeps-node (tail held v) has = keeps-none (tail held v) (tail held value) (λ map e. cc)
    keeps-node (level map) has = keeps-insert map (piece_at place) value (λ at inner entry. inner has.1)

    -- What an entry leads to, it leads to still.
    pub written-led : AllLed (world_of arena) → AllLed (world_of (place_with arena place value))
    written-led all =
        let node = world_of arena (seat_of place) in
        subst AllLed (sym (world-with_place arena place value place-there)) (led-set (world_of arena) (seat_of place) (node_with node (piece_at place) value)
        (keeps-node node found.has) (some-node node (piece_at place) found.rest found.value found.has) all)

    change-node : (node : Node) → world_of arena (seat_of place) ≡ node → HasValue node (piece_at place) found.rest found.value →
        IsChange (world_of arena) (set_node (world_of arena) (seat_of place) (node_with node (piece_at place) value)) (found.leads.front ++ found.rest) (Some value)
    change-node gone e has = absurd has
    change-node (tail [] v) e has = absurd (has.1 (sym has.0))
    change-node (tail (first ∷ held) v) e has =
        let node = tail (first ∷ held) value in
        subst (λ l. IsChange (world_of arena) (set_node (world_of arena) (seat_of place) node) (found.leads.front ++ l) (Some value)) has.0 (
        changes_tail (world_of arena) (set_node (world_of arena) (seat_of place) node) is.behind is.is_world arena.root.map refl found.leads.front found.leads.inner
        (seat_of place) found.leads.way (apart-leads (world_of arena) is.behind is.is_world key (seat_of place) found.rest found.leads node) first held v value e
        (cond-same (world_of arena) (seat_of place) node (seat_of place) refl)
        )
    change-node (level map) e has =
        let node = level (insert map (piece_at place) value) in
        subst (λ l. IsChange (world_of arena) (set_node (world_of arena) (seat_of place) node) (found.leads.front ++ l) (Some value)) (sym has.0) (
        changes_value (world_of arena) (set_node (world_of arena) (seat_of place) node) is.behind is.is_world arena.root.map refl found.leads.front found.leads.inner
        (seat_of place) found.leads.way (apart-leads (world_of arena) is.behind is.is_world key (seat_of place) found.rest found.leads node)
        (behind-leads (world_of arena) is.behind is.is_world key (seat_of place) found.rest found.leads) map (insert map (piece_at place) value) e
        (cond-same (world_of arena) (seat_of place) node (seat_of place) refl) (piece_at place) (λ p off. get-insert_off map (piece_at place) value p off)
        (Some value) has.1 (get-insert_here map (piece_at place) value)
        )

    -- And the key has the value.
    pub written-change : IsChange (world_of arena) (world_of (place_with arena place value)) (pieces key) (Some value)
    written-change =
        subst (λ w. IsChange (world_of arena) w (pieces key) (Some value)) (sym (world-with_place arena place value place-there))
        (subst (λ l. IsChange (world_of arena) other l (Some value)) (sym found.leads.parts) (change-node (world_of arena (seat_of place)) refl found.has))
