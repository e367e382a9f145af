use Rattle.std.proofs.Common.{slice_get, subst, ◌≡◌, Some}
use Rattle.judy_bits.proofs.SetLemmas.{added_next}
use Rattle.judy_bits.proofs.byte_set.few_of.Goals as goal

pub loop-at-preserved : goal.loop-at-preserved
loop-at-preserved c =
    added_next c.args.bits.now c.loop-at.few c.add.new.self c.loop-at.at c.in-Some.byte c.len-at-end.ensures.is_set.ascending
    (subst (λ members. Some c.in-Some.byte ≡ slice_get members c.loop-at.at) c.by_ref.ensures c.in-Some.ensures) c.loop-at.invariant c.add.ensures
