-- `slot_measured`: the length that was asked for is that of the key that the scan looks for.
use Rattle.std.proofs.Common.{◌∙◌, refl, ap, length, take}
use Rattle.std.specs.Option.{option_map}
use Rattle.judy_c.specs.KeyScans.{neighbour}
use Rattle.judy_c.proofs.ScanFacts.{looked_is, none_measured, fits_measured, long_measured}
use Rattle.judy_c.proofs.strings.scans.slot_measured.Goals as goal

pub returns-in_default : goal.returns-in_default
returns-in_default c =
    let map = c.args.array.now.map in let is = looked_is c.args.scan c.look.result map (c.look.ensures map) c.args.buffer.now c.args.count.now c.requires.start.0 in (
      refl,
      record { writes_back = tt; found = λ other. (c.requires.start, (none_measured _ (c.in_default.ensures ∙ ap (option_map length) is), refl)) },
    )

pub returns-then-len-buffer : goal.returns-then-len-buffer
returns-then-len-buffer c =
    let map = c.args.array.now.map in let buffer = c.args.buffer.now in let from = take c.args.count.now buffer in
    let is = looked_is c.args.scan c.look.result map (c.look.ensures map) buffer c.args.count.now c.requires.start.0 in
    let long = long_measured (neighbour c.args.scan map from) c.in-Some.len (length buffer) (c.in-Some.ensures ∙ ap (option_map length) is) c.if-len-buffer.true in
    (refl, record { writes_back = tt; found = λ other. (c.requires.start, (long.0, long.1, long.3), refl) })

pub slot_in-requires-clause-room : goal.slot_in-requires-clause-room
slot_in-requires-clause-room c =
    let map = c.args.array.now.map in let is = looked_is c.args.scan c.look.result map (c.look.ensures map) c.args.buffer.now c.args.count.now c.requires.start.0 in
    fits_measured _ c.in-Some.len (length c.args.buffer.now) (c.in-Some.ensures ∙ ap (option_map length) is) c.if-len-buffer.false
