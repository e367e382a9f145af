use Rattle.std.proofs.Common.{◌≡◌, ◌+◌, ◌≤◌, suc, Some, refl, sym, ap, ◌∙◌, subst, arith}
use Rattle.std.specs.FinMap.{len}
use Rattle.judy_model.specs.Counts.{by_count}
use Rattle.judy_sl.specs.Cursors.{Standing}
use Rattle.judy_sl.specs.Scans.{value_found}
use Rattle.judy_string_sets.specs.declared.keys.Way.{Way}
use Rattle.judy_string_sets.specs.Ways.{standing, IsInside}
use Rattle.judy_string_sets.proofs.PlaceFacts.{place_taken, place_end, place_inside}
use Rattle.judy_string_sets.proofs.NearFacts.{is_none}
use Rattle.judy_string_sets.proofs.keys.Keys.next.Goals as goal
use Rattle.judy_string_sets.proofs.keys.Keys.next.Goals.{in-ByCursor, in-ByPlace+in_ok-key-in-ByPlace}

pub returns-in_err-key-in-ByPlace : goal.returns-in_err-key-in-ByPlace
returns-in_err-key-in-ByPlace g c =
    let m = c.self.inside.array.now.map in
    let place = c.in-ByPlace.place in
    let within : place ≤ len m = subst (λ (way : Way). IsInside m way) c.in-ByPlace.is c.self.invariant in
    is_none _ c.from_residual.result c.from_residual.ensures
    (sym (ap (λ (at : Standing). at.map) c.self.view_is) ∙ ap (λ (way : Way). (standing m way).map) c.in-ByPlace.is
    ∙ place_end m place (place + 1) within (let e : place + 1 ≡ suc place = omega arith in e) c.in_err-key-in-ByPlace.ensures)

pub invariant_of-self-2 : goal.invariant_of-self-2
invariant_of-self-2 g c =
    let m = c.self.inside.array.now.map in
    elim c.match-self.branch [
      | in-ByCursor w ↦ rw w.self-inside-is tt
      | in-ByPlace+in_ok-key-in-ByPlace w ↦
          let place = w.in-ByPlace.place in
          let key = w.in_ok-key-in-ByPlace.ensures in
          rw w.self-inside-is (place_inside m (place + 1) (by_count m (place + 1)) w.in_ok-key-in-ByPlace.key.value refl (ap (value_found m) (sym key.0) ∙ key.1))
    ]

pub returns : goal.returns
returns g c =
    let m = c.self.inside.array.now.map in
    elim c.match-self.branch [
      | in-ByCursor w ↦ rw w.result-is (rw w.self-inside-is (rw (← c.self.view_is) (rw w.in-ByCursor.is w.next.ensures)))
      | in-ByPlace+in_ok-key-in-ByPlace w ↦
          let place = w.in-ByPlace.place in
          let within : place ≤ len m = subst (λ (way : Way). IsInside m way) w.in-ByPlace.is c.self.invariant in
          let key = w.in_ok-key-in-ByPlace.ensures in
          rw w.result-is (rw w.self-inside-is (rw (← c.self.view_is) (rw w.in-ByPlace.is
          (place_taken m place (place + 1) within (let e : place + 1 ≡ suc place = omega arith in e) w.value.result
          (ap (value_found m) (sym key.0) ∙ key.1 ∙ ap Some (sym w.value.ensures))))))
    ]
