-- `Strings::scan_slot`: what is said of the handle's array is said of the handle.
use Rattle.std.proofs.Common.{refl, sym, ap, subst, take, length, true≢false}
use Rattle.judy_sl.specs.Lends.{with_value}
use Rattle.judy_c.specs.KeyScans.{neighbour}
use Rattle.judy_c.specs.ScanSlots.{IsFoundSlot}
use Rattle.judy_c.specs.StringMaps.{array_in, array_of}
use Rattle.judy_c.proofs.ScanFacts.{no_neighbour, neighbour_fits}
use Rattle.judy_c.proofs.strings.Strings.scan_slot.Goals as goal

pub returns-then-longest-buffer : goal.returns-then-longest-buffer
returns-then-longest-buffer c =
    let held = ap array_of c.in-Some.ensures.value in (
      (refl, (λ w is. ap (λ array. with_value array (take c.slot_in.new.count c.slot_in.new.buffer) w) held), c.in-Some.ensures.again),
      record {
        writes_back = tt;
        found =
            subst (λ array. IsFoundSlot array.map (neighbour c.args.scan array.map) (c.args.buffer.now, c.args.count.now) (c.slot_in.new.buffer, c.slot_in.new.count) c.slot_in.result)
            held c.slot_in.ensures.found;
      },
    )

pub returns-else-longest-buffer : goal.returns-else-longest-buffer
returns-else-longest-buffer c =
    let held = ap array_of c.in-Some.ensures.value in (
      (refl, (λ w is. ap (λ array. with_value array (take c.slot_measured.new.count c.slot_measured.new.buffer) w) held), c.in-Some.ensures.again),
      record {
        writes_back = tt;
        found =
            subst (λ array. IsFoundSlot array.map (neighbour c.args.scan array.map) (c.args.buffer.now, c.args.count.now)
            (c.slot_measured.new.buffer, c.slot_measured.new.count) c.slot_measured.result) held c.slot_measured.ensures.found;
      },
    )

pub slot_in-requires-clause-room : goal.slot_in-requires-clause-room
slot_in-requires-clause-room c =
    neighbour_fits c.args.scan c.in-Some.array.now.map (take c.args.count.now c.args.buffer.now) c.longest.result c.longest.ensures.within (length c.args.buffer.now)
    c.if-longest-buffer.true

pub returns-in-None : goal.returns-in-None
returns-in-None c =
    let start = c.is_start.ensures.0 c.if-not-is_start.false in (
      (refl, (λ w is. absurd (true≢false (sym is))), refl),
      record { writes_back = tt; found = λ other. (start, (no_neighbour c.args.scan (array_in c.args.self.now).map _ (ap (λ a. a.map) c.in-None.ensures.null), refl)) },
    )
