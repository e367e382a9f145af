use Rattle.std.proofs.Common.{◌≤◌, ◌*◌, ◌+◌, length, subst, ap, arith}
use Rattle.judy_records.specs.Spots.{IsNext}
use Rattle.judy_records.specs.PageSpots.{PageList}
use Rattle.judy_records.proofs.PageStands.{next-known, spots-long}
use Rattle.judy_records.proofs.page.Page.law.Goals as goal

pub returns-clause-next : goal.returns-clause-next
returns-clause-next c = subst (λ (page : PageList). IsNext page.spots page.next) c.self.view_is (next-known c.self.inside c.self.invariant)

pub returns-clause-within : goal.returns-clause-within
returns-clause-within c =
    let same = ap (λ n. n * (c.self.inside.size + 1)) (spots-long c.self.inside c.self.invariant) in
    let long = c.self.invariant.long in
    subst (λ (page : PageList). length page.spots * (page.size + 1) ≤ page.capacity) c.self.view_is (omega (arith, same, long, c.self.inside.words.ok))
