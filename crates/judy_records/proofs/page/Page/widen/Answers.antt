use Rattle.std.proofs.Common.{◌≡◌, ◌≤◌, ◌<◌, ◌*◌, ◌+◌, ◌-◌, ◌⊎◌, ℕ, Result, Ok, Err, OnOk, OnErr, max, inl, inr, length, map, sym, ap, subst, ◌∙◌, arith}
use Rattle.std.proofs.lemmas.Bool.{cases_lt}
use Rattle.judy_records.specs.Spots.{unlinked}
use Rattle.judy_records.specs.PageInside.{spots_in, freed}
use Rattle.judy_records.specs.PageSpots.{PageList, HasRoom}
use Rattle.judy_records.proofs.PageStands.{spots-long, room-for}
use Rattle.judy_records.proofs.page.Page.widen.Goals as goal

cap-or : {A E : Type 0} (result : Result A E) (new old sum : ℕ) → OnOk result (new ≡ max old sum) → OnErr result (new ≡ old) → (new ≡ old) ⊎ (new ≡ sum)
cap-or (Ok value) new old sum is same = elim (cases_lt old sum) [
  | inl less ↦ inr (omega (arith, is, less))
  | inr past ↦ inl (omega (arith, is, past))
]
cap-or (Err error) new old sum is same = inl same

on-ok : {A E P Q : Type 0} (result : Result A E) → OnOk result P → (P → Q) → OnOk result Q
on-ok (Ok value) holds follows = follows holds
on-ok (Err error) holds follows = tt

pub returns-then-capacity-len-clause-room : goal.returns-then-capacity-len-clause-room
returns-then-capacity-len-clause-room c =
    let test = c.if-capacity-len.true in
    subst HasRoom c.self.view_is (inr (room-for c.self.inside c.self.invariant c.self.inside.words.cap (omega (arith, test, c.capacity.ensures, c.len.ensures, c.self.inside.words.ok))))

pub returns-clause-capacity : goal.returns-clause-capacity
returns-clause-capacity c =
    let long = ap (λ n. n * (c.self.inside.size + 1)) (spots-long c.self.inside c.self.invariant) in
    let seen = ap (λ (page : PageList). length page.spots * (page.size + 1)) c.self.view_is in
    let capacity = ap (λ (page : PageList). page.capacity) c.self.view_is in
    let was = c.self.invariant.long in
    elim (cap-or c.reserve_exact.result _ _ _ c.reserve_exact.ensures.capacity_exact c.reserve_exact.ensures.err) [
      | inl same ↦ inl (omega (arith, same, capacity))
      | inr grown ↦ inr (omega (arith, grown, long, seen, was, c.self.inside.words.ok))
    ]

pub returns-clause-room : goal.returns-clause-room
returns-clause-room c =
    let size = ap (λ (page : PageList). page.size) c.self.view_is in
    on-ok c.reserve_exact.result c.reserve_exact.ensures.ok (λ room.
    inr (subst (λ words. (length (map unlinked (freed c.self.inside.spare c.self.inside.free (spots_in c.self.inside.count c.self.inside.size words))) + 1) *
    (c.self.inside.size + 1) ≤ c.reserve_exact.new.self.cap)
    (sym c.reserve_exact.ensures.items)
    (room-for c.self.inside c.self.invariant c.reserve_exact.new.self.cap (omega (arith, room, size, c.requires, c.reserve_exact.ensures.len, c.self.inside.words.ok)))))
