use Rattle.std.proofs.Common.{inl, inr, get_or, arith}
use Rattle.std.proofs.Math.Dec.{leb}
use Rattle.judy_sets.proofs.LeafPairs.{same_small, both_tested, both_ended, both-filtered}
use Rattle.judy_combine.proofs.SliceSteps.{byte_small}
use Rattle.judy_sets.proofs.leaves.count_met.Goals as goal

pub keys-preserved : goal.keys-preserved
keys-preserved c =
    let ours = get_or c.args.one.now c.keys.left 0 in
    let theirs = get_or c.args.other.now c.keys.right 0 in
    let left = byte_small (leb ours theirs) in
    let right = byte_small (leb theirs ours) in
    let few = same_small ours theirs in record {
      left = omega (arith, left);
      right = omega (arith, right);
      few = omega (arith, few);
      counted = both_tested c.args.one.now c.args.other.now c.keys.left c.keys.right c.keys-test.true c.if-right-other.true c.requires.up c.requires.other_up c.keys.count _
          c.keys.invariant.counted;
    }

pub returns-else-right-other-clause-count : goal.returns-else-right-other-clause-count
returns-else-right-other-clause-count c =
    let none = both_ended c.args.one.now c.args.other.now c.keys.left c.keys.right (inr c.if-right-other.false) in
    let counted = c.keys.invariant.counted in
    let all = both-filtered c.args.one.now c.args.other.now in
    omega (arith, none, counted, all)

pub returns-after-keys-clause-count : goal.returns-after-keys-clause-count
returns-after-keys-clause-count c =
    let none = both_ended c.args.one.now c.args.other.now c.keys.left c.keys.right (inl c.keys-test.false) in
    let counted = c.keys.invariant.counted in
    let all = both-filtered c.args.one.now c.args.other.now in
    omega (arith, none, counted, all)
