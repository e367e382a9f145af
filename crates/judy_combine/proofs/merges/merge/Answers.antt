use Rattle.std.proofs.Common.{◌≡◌, ◌+◌, ◌<◌, ℕ, Bool, cond, length, get_or, take, sym, ap, ◌∙◌, subst, arith, length-set}
use Rattle.std.proofs.Math.Dec.{leb}
use Rattle.std.proofs.Math.ListN.{set}
use Rattle.std.proofs.lemmas.Bool.{le-leb, lt-leb}
use Rattle.judy_combine.specs.Merges.{IsMerged, IsOrdered}
use Rattle.judy_combine.proofs.SliceSteps.{byte_small, taken_small, merged_tested, ordered_tested}
use Rattle.judy_combine.proofs.merges.merge.Goals as goal
use Rattle.judy_combine.proofs.merges.merge.Goals.{then-in_one, else-in_one}
use mir.Val.{bool_byte}

pub pairs-preserved : goal.pairs-preserved
pairs-preserved c =
    let keep = c.args.keep in
    let ours = get_or c.args.one.now c.pairs.left (0, 0) in
    let theirs = get_or c.args.other.now c.pairs.right (0, 0) in
    let left = byte_small (leb ours.0 theirs.0) in
    let right = byte_small (leb theirs.0 ours.0) in
    let taken = ap bool_byte c.takes.ensures in
    let few = taken_small ours.0 theirs.0 keep in
    let room : c.pairs.count < length c.pairs.out = omega arith in
    let pair : c.if-in_one.out ≡ cond (leb ours.0 theirs.0) ours theirs = elim c.if-in_one.branch [
      | then-in_one w ↦ w.out-is ∙ ap (λ (b : Bool). cond b ours theirs) (sym (le-leb ours.0 theirs.0 w.if-in_one.true))
      | else-in_one w ↦ w.out-is ∙ ap (λ (b : Bool). cond b ours theirs) (sym (lt-leb ours.0 theirs.0 w.if-in_one.false))
    ] in record {
      left = omega (arith, left);
      right = omega (arith, right);
      few = omega (arith, few, taken);
      same_room = length-set c.pairs.out c.pairs.count c.if-in_one.out ∙ c.pairs.invariant.same_room;
      ordered = λ words top map other_map. subst (λ (n : ℕ). IsOrdered words top c.args.one.now c.args.other.now (c.pairs.left + bool_byte (leb ours.0 theirs.0))
          (c.pairs.right + bool_byte (leb theirs.0 ours.0)) (take (c.pairs.count + n) (set c.pairs.out c.pairs.count c.if-in_one.out)))
          (sym taken)
          (ordered_tested c.args.one.now c.args.other.now c.pairs.left c.pairs.right c.pairs-test.true c.if-right-other.true words top keep c.pairs.out c.pairs.count c.if-in_one.out room pair
          (c.pairs.invariant.ordered words top map other_map));
      merged = subst (λ (n : ℕ). IsMerged keep c.args.one.now c.args.other.now (c.pairs.left + bool_byte (leb ours.0 theirs.0)) (c.pairs.right + bool_byte (leb theirs.0 ours.0))
          (take (c.pairs.count + n) (set c.pairs.out c.pairs.count c.if-in_one.out)))
          (sym taken)
          (merged_tested c.args.one.now c.args.other.now c.pairs.left c.pairs.right c.pairs-test.true c.if-right-other.true keep c.pairs.out c.pairs.count c.if-in_one.out room pair
          c.pairs.invariant.merged);
    }
