-- A key's value and the pair above it: in a list, and where the key's way ends.
use Rattle.std.proofs.Common.{◌≡◌, ℕ, ◌+◌, ◌-◌, ◌^◌, false, Option, Some, slice_get, sym, ap, ◌∙◌, arith}
use Rattle.std.specs.List.Sorted.{IsStrictlySortedBy}
use Rattle.std.specs.Option.{option_or}
use Rattle.judy_model.specs.Keys.{word_order}
use Rattle.judy_bits.specs.ByteSets.{has, rank, place}
use Rattle.judy_leaf.specs.KeyLists.{keys_of}
use Rattle.judy_leaf.specs.Nearby.{pair_from}
use Rattle.judy_leaf.proofs.Nearest.{from-rank, up_to-rank, up_to-other}
use Rattle.judy_leaf.proofs.NextKeys.{rank_behind}
use Rattle.judy_node.specs.Trees.{Pairs}
use Rattle.judy_node.specs.Views.{view_pairs}
use Rattle.judy_node.specs.declared.view.ViewOf.{ViewOf}
use Rattle.judy_query.specs.Parts.{IsDown, raised, value_of, width_of}
use Rattle.judy_query.proofs.Finds.{placed, part-value}
use Rattle.judy_query.proofs.NearFacts.{part-from}

module _ (pairs : Pairs) (ascending : IsStrictlySortedBy word_order (keys_of pairs)) (key : ℕ) where
  -- Behind a key stands what is above it.
  pub above_place : (at : ℕ) → place (keys_of pairs) key ≡ Some at → slice_get pairs (at + 1) ≡ pair_from pairs (key + 1)
  above_place at found =
      ap (slice_get pairs) (sym (rank_behind (keys_of pairs) at key ascending (placed pairs key ascending at found)))
      ∙ sym (from-rank pairs ascending (key + 1))

  -- And where it would stand.
  pub above_absent : (at : ℕ) → has (keys_of pairs) key ≡ false → at ≡ rank (keys_of pairs) key → slice_get pairs at ≡ pair_from pairs (key + 1)
  above_absent at absent ranked =
      ap (slice_get pairs) (ranked ∙ sym (up_to-other (keys_of pairs) ascending key absent) ∙ up_to-rank (keys_of pairs) key)
      ∙ sym (from-rank pairs ascending (key + 1))

module _ {V : _} (words : ℕ) (tree : Pairs) (view : ViewOf V) (key left : ℕ) (down : IsDown words tree view key left) where
  -- The value of a key is that of what is left of it at the node that the way has come to.
  pub down_value : value_of tree key ≡ value_of (view_pairs view) left
  down_value =
      let above = down.above in
      part-value words (256 ^ 8) tree (key - left) (256 ^ width_of view) left key _ down.front down.back down.part (omega arith) down.inside

  -- What is above the key is so at the node, or is the nearest beside the way.
  pub down_above : (found : Option (ℕ × ℕ)) → found ≡ pair_from (view_pairs view) (left + 1) → option_or (raised (key - left) found) (slice_get down.back 0) ≡ pair_from tree (key + 1)
  down_above found is =
      let above = down.above in
      let inside = down.inside in
      ap (λ found. option_or (raised (key - left) found) (slice_get down.back 0)) is
      ∙ sym (part-from words (256 ^ 8) tree (key - left) (256 ^ width_of view) (left + 1) (key + 1) (view_pairs view) down.front down.back down.part (omega arith) (omega arith))
