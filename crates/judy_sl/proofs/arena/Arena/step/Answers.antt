use Rattle.std.proofs.Common.{◌≤◌, ◌*◌, ◌∙◌, ℕ, List, Option, length, take, false, refl, ap, subst, sym}
use Rattle.judy_tails.specs.Writers.{WasGiven}
use Rattle.judy_sl.specs.declared.runs.LastRun.{LastRun}
use Rattle.judy_sl.specs.Pieces.{pieces}
use Rattle.judy_sl.specs.Arenas.{world_of}
use Rattle.judy_sl.specs.Scans.{upward, IsNone}
use Rattle.judy_sl.specs.Runs.{EntryLeads, IsClimbed, IsNextEntry, RunLeads, Stands, last_run}
use Rattle.judy_sl.proofs.lemmas.scans.RunWays.{entry_begins}
use Rattle.judy_sl.proofs.arena.Arena.step.Goals as goal

pub returns-in_err-entry : goal.returns-in_err-entry
returns-in_err-entry g c =
    let world = world_of c.args.self.now in
    let key = g.K.KeyHolder.bytes c.args.key.now in
    let above = c.next_entry.new.above.items in
    let none = subst (IsNextEntry world c.as_slice.result.now above c.next_entry.new.run) c.in_err-entry.was c.next_entry.ensures in
    let stays = subst (λ bytes. IsNone (upward false) world 0 (pieces bytes)) c.as_slice.ensures.bytes none.0 in
    let stands = subst (λ bytes. Stands world bytes above c.next_entry.new.run) c.as_slice.ensures.bytes none.1 in
    let leads = subst (λ known. RunLeads world key above (last_run (record { run = c.next_entry.new.run; known = known }))) (sym c.if-not-last.false) stands in
    record {
      found = rw c.from_residual.ensures (record { bytes = key; given = c.as_slice.ensures.has; are = ((stays, refl), leads) });
      beyond = λ place behind. refl;
    }

pub cut-requires-clause-within : goal.cut-requires-clause-within
cut-requires-clause-within g c =
    let world = world_of c.args.self.now in
    let above = c.next_entry.new.above.items in
    let next = subst (IsNextEntry world c.as_slice.result.now above c.next_entry.new.run) c.in_ok-entry.was c.next_entry.ensures in
    let leads = subst (λ bytes. EntryLeads false world bytes c.in_ok-entry.entry above c.next_entry.new.run) c.as_slice.ensures.bytes next in
    subst (λ deep. deep ≤ length (g.K.KeyHolder.bytes c.args.key.now)) (sym (ap (λ n. 8 * n) c.len.ensures.value)) leads.at.within

pub climb-value-requires-clause-begun : goal.climb-value-requires-clause-begun
climb-value-requires-clause-begun g c =
    let world = world_of c.args.self.now in
    let key = g.K.KeyHolder.bytes c.args.key.now in
    let above = c.next_entry.new.above.items in
    let last : LastRun = record { run = c.next_entry.new.run; known = c.args.last.now.known } in
    let next = subst (IsNextEntry world c.as_slice.result.now above c.next_entry.new.run) c.in_ok-entry.was c.next_entry.ensures in
    let leads = subst (λ bytes. EntryLeads false world bytes c.in_ok-entry.entry above c.next_entry.new.run) c.as_slice.ensures.bytes next in
    let given = subst (λ deep. g.K.KeyWriter.has c.cut.new.self (take deep key)) (ap (λ n. 8 * n) c.len.ensures.value) c.cut.ensures.has in
    (key, entry_begins false world key c.in_ok-entry.entry above last leads g.K.KeyWriter.has c.cut.new.self given)

pub returns : goal.returns
returns g c =
    let world = world_of c.args.self.now in
    let key = g.K.KeyHolder.bytes c.args.key.now in
    let above = c.next_entry.new.above.items in
    let last : LastRun = record { run = c.next_entry.new.run; known = c.args.last.now.known } in
    let next = subst (IsNextEntry world c.as_slice.result.now above c.next_entry.new.run) c.in_ok-entry.was c.next_entry.ensures in
    let leads = subst (λ bytes. EntryLeads false world bytes c.in_ok-entry.entry above c.next_entry.new.run) c.as_slice.ensures.bytes next in
    let given = subst (λ deep. g.K.KeyWriter.has c.cut.new.self (take deep key)) (ap (λ n. 8 * n) c.len.ensures.value) c.cut.ensures.has in
    let got = c.climb-value.ensures.climbed key (entry_begins false world key c.in_ok-entry.entry above last leads g.K.KeyWriter.has c.cut.new.self given) in
    let after = c.climb-value.new.last in
    record {
      found = subst (λ (entries : List (ℕ × ℕ) × Option (List (ℕ × ℕ))). WasGiven g.K.KeyWriter.has c.climb-value.new.key (IsClimbed false world key c.climb-value.new.above.items
          (record { run = record { level = after.run.level; entries = entries }; known = after.known }) c.climb-value.result)) (sym c.read_ahead.ensures) got;
      beyond = λ place behind. c.climb-value.ensures.beyond place behind ∙ c.cut.ensures.beyond place;
    }
