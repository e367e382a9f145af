-- `Scan::tell_measured`: the length that was asked for is that of the key that the scan looks for.
use Rattle.std.proofs.Common.{◌∙◌, refl, ap, length}
use Rattle.std.specs.Option.{option_map}
use Rattle.judy_c.specs.KeyScans.{CallerBuffer, neighbour, start}
use Rattle.judy_c.proofs.ScanFacts.{looked_is, none_measured, fits_measured, told_long}
use Rattle.judy_c.proofs.scans.Scan.tell_measured.Goals as goal

pub returns-in_default : goal.returns-in_default
returns-in_default c =
    let map = c.args.array.now.map in let is = looked_is c.args.self c.look.result map (c.look.ensures map) c.args.buffer.now c.args.count.now c.requires.start.0 in
    (c.requires.start, (none_measured _ (c.in_default.ensures ∙ ap (option_map length) is), refl))

pub returns-then-len-buffer : goal.returns-then-len-buffer
returns-then-len-buffer c =
    let map = c.args.array.now.map in let is = looked_is c.args.self c.look.result map (c.look.ensures map) c.args.buffer.now c.args.count.now c.requires.start.0 in
    let before : CallerBuffer = record { buffer = c.args.buffer.now; count = c.args.count.now; value = c.args.value.now } in
    (c.requires.start, told_long map (neighbour c.args.self map (start before)) before c.in-Some.len (c.in-Some.ensures ∙ ap (option_map length) is) c.if-len-buffer.true)

pub returns : goal.returns
returns c = c.tell_in.ensures

pub tell_in-requires-clause-room : goal.tell_in-requires-clause-room
tell_in-requires-clause-room c =
    let map = c.args.array.now.map in let is = looked_is c.args.self c.look.result map (c.look.ensures map) c.args.buffer.now c.args.count.now c.requires.start.0 in
    fits_measured _ c.in-Some.len (length c.args.buffer.now) (c.in-Some.ensures ∙ ap (option_map length) is) c.if-len-buffer.false
