-- The children of a branch that are above a key, by the bytes from one on, and those before it, by the bytes below one.
use Rattle.std.proofs.Common.{◌≡◌, ℕ, suc, ◌+◌, ◌-◌, ◌*◌, ◌^◌, ◌<◌, ◌≤◌, is_le, List, length, get_or, slice_get, Some, sym, ap, ◌∙◌, arith}
use Rattle.std.specs.Cmp.{nat_cmp_total}
use Rattle.std.proofs.lemmas.Option.{slice_get-get_or}
use Rattle.judy_model.specs.Keys.{word_order}
use Rattle.judy_model.specs.WordBytes.{number_of}
use Rattle.judy_model.proofs.lemmas.queries.Places.{before_place, before_place-suc, find_before_count, le-IsDownward}
use Rattle.judy_bits.specs.ByteSets.{rank, next_from, prev_from}
use Rattle.judy_bits.proofs.SetLemmas.{rank_at, next_from-rank}
use Rattle.judy_leaf.proofs.Nearest.{up_to-rank, up_to-other}
use Rattle.judy_node.specs.Trees.{Tree, IsBranch}
use Rattle.judy_node.specs.Steps.{IsStep}
use Rattle.judy_node.specs.declared.step.Step.{Step}
use Rattle.judy_node.specs.declared.step.Step.TheVariants.{Child, Missing, Below, Above}
use Rattle.judy_node.proofs.StepFacts.{rank_zero}
use Rattle.judy_query.specs.Parts.{passed, reached, byte_passed, byte_behind}
use Rattle.judy_query.proofs.BranchRooms.{rank_all, bytes_ascend, as_many}
use Rattle.judy_leaf.proofs.NextKeys.{rank_behind}

module _ (words width : ℕ) (skipped bytes : List ℕ) (kids : List Tree) (count : ℕ) (is : IsBranch words width skipped bytes kids count) where
  -- As many children aren't above a key as have bytes below the one from which on they are.
  pub reached_rank : (key : ℕ) (step : Step) → IsStep (256 ^ width) (number_of skipped * 256) bytes key step → reached (length kids) step ≡ rank bytes (byte_behind step)
  reached_rank key (Child byte place rest) steps =
      (let e : suc place ≡ place + 1 = omega arith in e) ∙ sym (rank_behind bytes place byte (bytes_ascend words width skipped bytes kids count is) steps.1)
  reached_rank key (Missing byte place rest) steps =
      steps.2 ∙ sym (up_to-other bytes (bytes_ascend words width skipped bytes kids count is) byte steps.1) ∙ up_to-rank bytes byte
  reached_rank key Below steps = sym (rank_zero bytes)
  reached_rank key Above steps = as_many words width skipped bytes kids count is ∙ sym (rank_all words width skipped bytes kids count is)

  -- The next byte is that of the child there.
  pub next_byte : (place from : ℕ) → place ≡ rank bytes from → slice_get bytes place ≡ next_from bytes from
  next_byte place from ranked = ap (slice_get bytes) ranked ∙ sym (next_from-rank bytes (bytes_ascend words width skipped bytes kids count is) from)

  pub next_there : (place from : ℕ) → place < length kids → place ≡ rank bytes from → next_from bytes from ≡ Some (get_or bytes place 0)
  next_there place from inside ranked =
      let long = as_many words width skipped bytes kids count is in
      sym (next_byte place from ranked) ∙ slice_get-get_or bytes place 0 (omega arith)

  -- As many children are before a key as have bytes below the one below which they are.
  pub passed_rank : (key : ℕ) (step : Step) → IsStep (256 ^ width) (number_of skipped * 256) bytes key step → passed (length kids) step ≡ rank bytes (byte_passed step)
  passed_rank key (Child byte place rest) steps = sym (rank_at bytes (bytes_ascend words width skipped bytes kids count is) place byte steps.1)
  passed_rank key (Missing byte place rest) steps = steps.2
  passed_rank key Below steps = sym (rank_zero bytes)
  passed_rank key Above steps = as_many words width skipped bytes kids count is ∙ sym (rank_all words width skipped bytes kids count is)

  pub passed_small : (key : ℕ) (step : Step) → IsStep (256 ^ width) (number_of skipped * 256) bytes key step → byte_passed step ≤ 256
  passed_small key (Child byte place rest) steps = let small = steps.0.byte_is in omega arith
  passed_small key (Missing byte place rest) steps = let small = steps.0.byte_is in omega arith
  passed_small key Below steps = omega arith
  passed_small key Above steps = omega arith

  -- The byte before is that of the child there.
  pub byte_before : (place below : ℕ) → place + 1 ≡ rank bytes below → 1 ≤ below → slice_get bytes place ≡ prev_from bytes (below - 1)
  byte_before place below ranked some =
      let ascending = bytes_ascend words width skipped bytes kids count is in
      let back : below ≡ below - 1 + 1 = omega arith in
      let next : suc place ≡ place + 1 = omega arith in
      sym (before_place-suc bytes place)
      ∙ ap (before_place bytes) (next ∙ ranked ∙ ap (rank bytes) back ∙ sym (up_to-rank bytes (below - 1)))
      ∙ sym (find_before_count word_order (λ byte. is_le (word_order byte (below - 1))) (λ x y less passes. le-IsDownward nat_cmp_total (below - 1) x y less passes) bytes ascending)

  pub there_before : (place below : ℕ) → place < length kids → place + 1 ≡ rank bytes below → 1 ≤ below → prev_from bytes (below - 1) ≡ Some (get_or bytes place 0)
  there_before place below inside ranked some =
      let long = as_many words width skipped bytes kids count is in
      sym (byte_before place below ranked some) ∙ slice_get-get_or bytes place 0 (omega arith)
