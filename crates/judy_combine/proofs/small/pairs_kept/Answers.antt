use Rattle.std.proofs.Common.{take, sym, subst, arith}
use Rattle.std.proofs.lemmas.List.{length-take-le}
use Rattle.judy_change.proofs.SettleFacts.{low_map, tight_of}
use Rattle.judy_combine.specs.Kept.{AreKept}
use Rattle.std.proofs.Common.{refl}
use Rattle.judy_combine.proofs.small.pairs_kept.Goals as goal

pub child_of_sorted-requires : goal.child_of_sorted-requires
child_of_sorted-requires g c =
    let written = take c.merge_all-count.result c.merge_all-count.new.out in
    let long = length-take-le c.merge_all-count.result c.merge_all-count.new.out c.merge_all-count.ensures.within in
    let some = c.if-count-eq0.false in
    (omega arith, (c.requires.one, (c.requires.width, (omega arith, low_map g.V.Words.WORDS c.args.width written c.merge_all-count.ensures.map))))

pub returns : goal.returns
returns g c =
    let written = take c.merge_all-count.result c.merge_all-count.new.out in
    let made = tight_of g.V.Words.WORDS c.args.width written c.in_ok-child_of_sorted.field-0 c.in_ok-child_of_sorted.field-0 c.in_ok-child_of_sorted.ensures c.merge_all-count.ensures.map refl in
    record { child = made.child; tight = made.tight; kept = subst (AreKept c.args.keep c.args.one.now c.args.other.now) (sym made.same) c.merge_all-count.ensures.kept }
