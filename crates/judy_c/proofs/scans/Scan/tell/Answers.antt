-- `Scan::tell`: what is told of the handle's array is what is said of the handle.
use Rattle.std.proofs.Common.{◌≡◌, ◌∙◌, refl, sym, ap, subst, Some, length, take}
use Rattle.std.specs.Option.{option_copied_mut}
use Rattle.judy_c.specs.Answers.{IsSaid}
use Rattle.judy_c.specs.KeyScans.{CallerBuffer, neighbour, scan_says}
use Rattle.judy_c.specs.StringMaps.{array_in, array_of}
use Rattle.judy_c.proofs.ScanFacts.{no_neighbour, neighbour_fits}
use Rattle.judy_c.proofs.scans.Scan.tell.Goals as goal

pub returns-then-longest-buffer-clause-told : goal.returns-then-longest-buffer-clause-told
returns-then-longest-buffer-clause-told c =
    let scan = c.args.self in
    let before : CallerBuffer = record { buffer = c.args.buffer.now; count = c.args.count.now; value = c.args.value.now } in
    let after : CallerBuffer = record { buffer = c.tell_in.new.buffer; count = c.tell_in.new.count; value = c.tell_in.new.value } in
    let held : Some c.in-Some.array.now ≡ c.args.handle.now.array = sym (ap option_copied_mut c.in-Some.is) ∙ c.array.ensures.value in
    subst (λ m. IsSaid (scan_says m (neighbour scan m) before after) c.tell_in.result) (ap (λ o. (array_of o).map) held) c.tell_in.ensures

pub returns-else-longest-buffer-clause-told : goal.returns-else-longest-buffer-clause-told
returns-else-longest-buffer-clause-told c =
    let scan = c.args.self in
    let before : CallerBuffer = record { buffer = c.args.buffer.now; count = c.args.count.now; value = c.args.value.now } in
    let after : CallerBuffer = record { buffer = c.tell_measured.new.buffer; count = c.tell_measured.new.count; value = c.tell_measured.new.value } in
    let held : Some c.in-Some.array.now ≡ c.args.handle.now.array = sym (ap option_copied_mut c.in-Some.is) ∙ c.array.ensures.value in
    subst (λ m. IsSaid (scan_says m (neighbour scan m) before after) c.tell_measured.result) (ap (λ o. (array_of o).map) held) c.tell_measured.ensures

pub tell_in-requires-clause-room : goal.tell_in-requires-clause-room
tell_in-requires-clause-room c =
    neighbour_fits c.args.self c.in-Some.array.now.map (take c.args.count.now c.args.buffer.now) c.longest.result c.longest.ensures.within (length c.args.buffer.now)
    c.if-longest-buffer.true

pub returns-in-None-clause-told : goal.returns-in-None-clause-told
returns-in-None-clause-told c =
    (c.is_start.ensures.0 c.if-not-is_start.false, (no_neighbour c.args.self (array_in c.args.handle.now).map _ (ap (λ a. a.map) c.in-None.ensures.null), refl))
