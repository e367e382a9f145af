-- The turn to the nearest child beside a key, to either side.
use Rattle.std.proofs.Common.{◌≡◌, ℕ, ◌+◌, ◌*◌, ◌^◌, ◌≤◌, length, slice_get, Option, None, Some, sym, ap, ◌∙◌, arith}
use Rattle.std.specs.Option.{option_or}
use Rattle.judy_model.specs.WordBytes.{number_of}
use Rattle.judy_bits.specs.ByteSets.{rank}
use Rattle.judy_leaf.specs.KeyLists.{shift}
use Rattle.judy_node.specs.Branches.{IsWholeBranch}
use Rattle.judy_node.specs.declared.child.BranchOf.{BranchOf}
use Rattle.judy_node.specs.declared.step.Step.{Step}
use Rattle.judy_query.specs.declared.sides.Side.{Side}
use Rattle.judy_query.specs.declared.sides.Side.TheVariants.{Up, Down}
use Rattle.judy_query.specs.declared.turns.Turn.{Turn}
use Rattle.judy_query.specs.Parts.{passed, reached}
use Rattle.judy_query.specs.Turns.{later_pair, earlier_pair, edge_of, IsStepEdge, IsPlaceBeside, IsTurnTo, turn_pair, nearest_pair, pairs_beside}
use Rattle.judy_query.proofs.Splits.{rest_of}
use Rattle.judy_query.proofs.TurnFacts.{turn_later_there, turn_none, turn_earlier_there, turn_none_before}

-- Where there is none on a side, the turn before is kept.
pub turn_kept : {V : _} (words : ℕ) (b : BranchOf V) (step : Step) (base : ℕ) (side : Side) (before : Option (Turn V)) → IsWholeBranch words b → IsPlaceBeside side (length b.children.items) step None
    → turn_pair side before ≡ option_or (nearest_pair side (pairs_beside side b step base)) (turn_pair side before)
turn_kept words b step base Up before is none = sym (turn_none words b.width b.skip b.bytes b.children.items b.population is (reached (length b.children.items) step) base none _)
turn_kept words b step base Down before is none = sym (turn_none_before b.width b.skip b.bytes b.children.items (passed (length b.children.items) step) base none _)

module _ {V : _} (words : ℕ) (before : Option (Turn V)) (turn : Turn V) (step : Step) (is : IsWholeBranch words turn.branch.now)
    (inside : passed (length turn.branch.now.children.items) step ≤ length turn.branch.now.children.items)
    (fits : turn.base + 256 ^ (length turn.branch.now.skip + 1 + turn.branch.now.width) ≤ 256 ^ 8) where
  pub turn_made : (side : Side) → turn.edge ≡ edge_of side step → IsStepEdge side turn.branch.now step → IsPlaceBeside side (length turn.branch.now.children.items) step (Some turn.place) →
      IsTurnTo side words (Some turn)
  turn_made Up edge ranked place = (record { branch = is; inside = place.1; fits = fits }, place.0 ∙ ranked ∙ ap (rank turn.branch.now.bytes) (sym edge))
  turn_made Down edge ranked place = (record { branch = is; inside = omega arith; fits = fits }, (place ∙ ranked.0 ∙ ap (rank turn.branch.now.bytes) (sym edge), (let most = ranked.1 in omega arith)))

  pub turn_nearest : (side : Side) → IsPlaceBeside side (length turn.branch.now.children.items) step (Some turn.place)
      → turn_pair side (Some turn) ≡ option_or (nearest_pair side (pairs_beside side turn.branch.now step turn.base)) (turn_pair side before)
  turn_nearest Up place =
      let b = turn.branch.now in
      let other = later_pair before in
      sym (turn_later_there words b.width b.skip b.bytes b.children.items b.population is turn.place turn.base place.1 other)
      ∙ ap (λ at. option_or (slice_get (shift turn.base (rest_of (256 ^ b.width) (number_of b.skip * 256) b.bytes b.children.items at)) 0) other) place.0
  turn_nearest Down place =
      let b = turn.branch.now in
      let other = earlier_pair before in
      sym (turn_earlier_there words b.width b.skip b.bytes b.children.items b.population is turn.place turn.base (omega arith) (passed (length b.children.items) step) (omega arith) other)
