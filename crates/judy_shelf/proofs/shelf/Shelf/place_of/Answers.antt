use Rattle.std.proofs.Common.{◌≡◌, ◌<◌, true, false, length, sym, ◌∙◌, arith}
use Rattle.std.specs.Prelude.{bytes_eq}
use Rattle.std.proofs.lemmas.Option.{slice_get_within}
use Rattle.judy_shelf.proofs.StoreLemmas.{past_all}
use Rattle.judy_shelf.proofs.PlaceLemmas.{place_here, place_behind, place_past}
use Rattle.judy_shelf.proofs.shelf.Shelf.place_of.Goals as goal

pub returns-then-is-clause-place : goal.returns-then-is-clause-place
returns-then-is-clause-place c =
    let passes : bytes_eq c.args.bytes.now c.in-Some-at.name.now ≡ true = sym c.is.ensures.same ∙ c.if-is.true in
    let here = place_here (bytes_eq c.args.bytes.now) c.args.self.now c.arrays.place (c.in-Some-at.name.now, c.in-Some-at.field-0-1.now) c.in-Some-at.ensures.entry passes in
    omega (arith, here, c.arrays.invariant.before)

pub arrays-smaller : goal.arrays-smaller
arrays-smaller c =
    let within : c.arrays.place < length c.args.self.now = slice_get_within c.args.self.now c.arrays.place _ (sym c.in-Some-at.ensures.entry) in omega arith

pub arrays-preserved : goal.arrays-preserved
arrays-preserved c =
    let within : c.arrays.place < length c.args.self.now = slice_get_within c.args.self.now c.arrays.place _ (sym c.in-Some-at.ensures.entry) in
    let fails : bytes_eq c.args.bytes.now c.in-Some-at.name.now ≡ false = sym c.is.ensures.same ∙ c.if-is.false in
    let behind = place_behind (bytes_eq c.args.bytes.now) c.args.self.now c.arrays.place (c.in-Some-at.name.now, c.in-Some-at.field-0-1.now) c.in-Some-at.ensures.entry fails in
    record { within = omega arith; before = omega (arith, behind, c.arrays.invariant.before) }

pub returns-2-clause-place : goal.returns-2-clause-place
returns-2-clause-place c =
    let none = place_past (bytes_eq c.args.bytes.now) c.args.self.now c.arrays.place (past_all c.args.self.now c.arrays.place c.in_default.ensures.entry) in
    omega (arith, none, c.arrays.invariant.before)

pub returns-2-clause-name : goal.returns-2-clause-name
returns-2-clause-name c = λ inside.
    let past = past_all c.args.self.now c.arrays.place c.in_default.ensures.entry in absurd (omega (arith, past, inside))
