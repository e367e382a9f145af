-- `tell_nth_measured`: the length that was asked for is that of the n-th key.
use Rattle.std.proofs.Common.{refl, length}
use Rattle.judy_model.specs.Counts.{by_count}
use Rattle.judy_c.specs.KeyScans.{CallerBuffer}
use Rattle.judy_c.proofs.ScanFacts.{none_measured, fits_measured, told_long}
use Rattle.judy_c.proofs.string_counts.tell_nth_measured.Goals as goal

pub returns-in_default : goal.returns-in_default
returns-in_default c = (none_measured _ c.in_default.ensures, refl)

pub returns-then-len-buffer : goal.returns-then-len-buffer
returns-then-len-buffer c =
    let before : CallerBuffer = record { buffer = c.args.buffer.now; count = c.args.count.now; value = c.args.value.now } in
    told_long c.args.array.now.map (by_count c.args.array.now.map c.args.n) before c.in-Some.len c.in-Some.ensures c.if-len-buffer.true

pub tell_nth-requires : goal.tell_nth-requires
tell_nth-requires c = fits_measured _ c.in-Some.len (length c.args.buffer.now) c.in-Some.ensures c.if-len-buffer.false
