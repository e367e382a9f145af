use Rattle.std.proofs.Common.{◌≡◌, ap, subst, sym, ◌∙◌, arith}
use Rattle.judy_records.proofs.PagesHold.{first-in}
use Rattle.judy_records.proofs.ListHolds.{per, some, shift-fits, start-fits}
use Rattle.judy_records.proofs.records.Records.next_place.Goals as goal

pub start_of-requires-clause-shift : goal.start_of-requires-clause-shift
start_of-requires-clause-shift c = shift-fits c.self.inside c.self.invariant

pub start_of-requires-clause-fits : goal.start_of-requires-clause-fits
start_of-requires-clause-fits c =
    start-fits c.self.inside c.self.invariant c.in-Some.number
    (first-in c.self.inside.size (per c.self.inside c.self.invariant) c.self.inside.end c.self.inside.pages.items c.self.inside.turns c.self.invariant.pages c.in-Some.number (sym c.in-Some.ensures))

pub index-requires : goal.index-requires
index-requires c =
    let inside = first-in c.self.inside.size (per c.self.inside c.self.invariant) c.self.inside.end c.self.inside.pages.items c.self.inside.turns c.self.invariant.pages c.in-Some.number
    (sym c.in-Some.ensures) in
    omega (arith, inside, c.self.inside.pages.ok)
