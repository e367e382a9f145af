use Rattle.std.proofs.Common.{◌≡◌, ℕ, suc, ◌+◌, ◌-◌, ◌<◌, ◌≤◌, ◌^◌, get_or, slice_index_or, length, take, drop, sym, ap, subst, ◌∙◌, arith}
use Rattle.std.specs.FinMap.{entries, entries_sorted, len-entries}
use Rattle.std.proofs.lemmas.List.{length-drop}
use Rattle.std.proofs.lemmas.List.Elements.{All-get_or}
use Rattle.judy_sl.specs.Arenas.{world_of}
use Rattle.judy_sl.specs.Counted.{LeadsOn}
use Rattle.judy_sl.specs.Listed.{with_entry}
use Rattle.judy_sl.proofs.lemmas.counts.ListPages.{page_entry, page_absent, page_few, page_fits, page_on}
use Rattle.judy_sl.proofs.lemmas.places.PageCounts.{page_full}
use Rattle.judy_sl.proofs.arena.Arena.list_page.Goals.{After-fill, After-keys_at}
use Rattle.judy_sl.proofs.arena.Arena.list_page.Goals as goal

-- The page has the entries from the place on.
page : (c : After-fill) → c.fill.new.out ≡ take (length c.args.page.now) (drop c.args.start (entries c.args.level.now.map))
page c =
    let words = c.args.level.now.map in
    let long = ap length c.entries_at.ensures ∙ length-drop c.args.start (entries words) in
    let count = len-entries words in
    page_full c.entries_at.result _ c.fill.new.out c.fill.result (omega (arith, long, count, c.requires.within))
    (omega (arith, long, count, c.requires.within, c.fill.ensures.count)) c.fill.auto.out c.fill.ensures.out
    ∙ ap (take (length c.args.page.now)) c.entries_at.ensures

-- The entry before those that are listed.
here : (c : After-fill) (at : ℕ) → at < length c.args.page.now → slice_index_or c.fill.new.out at (0, 0) ≡ get_or (entries c.args.level.now.map) (c.args.start + at) (0, 0)
here c at below = page_entry (entries c.args.level.now.map) c.fill.new.out c.args.start (length c.args.page.now) at (page c) below

-- Where it stands in the level.
record IsNext (c : After-keys_at) : Type 0 where
  at : suc (c.args.start + (c.entries.left - 1)) ≡ c.args.start + c.entries.left
  within : c.args.start + c.entries.left ≤ length (entries c.args.level.now.map)
  few : length (entries c.args.level.now.map) < 2 ^ 64
  read : c.entries.left - 1 < length c.args.page.now

next : (c : After-keys_at) → IsNext c
next c =
    let some = c.entries-test.true in
    let count = len-entries c.args.level.now.map in
    let below = c.entries.invariant.0 in
    record {
      at = omega (arith, some);
      within = omega (arith, count, c.fill.auto.out, below, c.requires.within);
      few = omega (arith, count, c.requires.few);
      read = omega (arith, some, c.fill.auto.out, below);
    }

pub keys_at-requires-clause-leads : goal.keys_at-requires-clause-leads
keys_at-requires-clause-leads c =
    let some = c.entries-test.true in
    let below = c.entries.invariant.0 in
    let count = len-entries c.args.level.now.map in
    subst (LeadsOn (world_of c.args.self.now)) (sym (here (goal.at.keys_at-requires-clause-leads c).After-fill (c.entries.left - 1) (omega (arith, some, below, c.fill.auto.out))))
    (All-get_or (LeadsOn (world_of c.args.self.now)) (entries c.args.level.now.map) (c.args.start + (c.entries.left - 1)) (0, 0)
    (omega (arith, some, below, count, c.fill.auto.out, c.requires.within)) c.requires.leads)

pub list_entry-requires-clause-absent : goal.list_entry-requires-clause-absent
list_entry-requires-clause-absent c =
    let is = next c in
    page_absent (world_of c.args.self.now) (entries c.args.level.now.map) (entries_sorted c.args.level.now.map) (c.args.start + (c.entries.left - 1)) (c.args.start + c.entries.left)
    is.at is.within _ (here (goal.at.list_entry-requires-clause-absent c).After-fill (c.entries.left - 1) is.read) c.entries.list c.entries.invariant.1

pub list_entry-requires-clause-few : goal.list_entry-requires-clause-few
list_entry-requires-clause-few c =
    let is = next c in
    page_few (world_of c.args.self.now) (entries c.args.level.now.map) (entries_sorted c.args.level.now.map) (c.args.start + (c.entries.left - 1)) (c.args.start + c.entries.left)
    is.at is.within _ (here (goal.at.list_entry-requires-clause-few c).After-fill (c.entries.left - 1) is.read) c.entries.list c.entries.invariant.1 is.few

pub list_entry-requires-clause-fits : goal.list_entry-requires-clause-fits
list_entry-requires-clause-fits c =
    let is = next c in
    let fits = page_fits (world_of c.args.self.now) (entries c.args.level.now.map) (entries_sorted c.args.level.now.map) (c.args.start + (c.entries.left - 1)) (c.args.start + c.entries.left)
    is.at is.within _ (here (goal.at.list_entry-requires-clause-fits c).After-fill (c.entries.left - 1) is.read) c.entries.list c.entries.invariant.1 c.requires.fits in
    omega (arith, fits, c.keys_at.ensures)

pub entries-preserved : goal.entries-preserved
entries-preserved c =
    let before = (goal.at.entries-preserved c).After-keys_at in
    let is = next before in
    let its = here (goal.at.entries-preserved c).After-fill (c.entries.left - 1) is.read in
    let below = c.entries.invariant.0 in (
      omega (arith, below),
      page_on (world_of c.args.self.now) (entries c.args.level.now.map) (entries_sorted c.args.level.now.map) (c.args.start + (c.entries.left - 1)) (c.args.start + c.entries.left)
          is.at is.within _ its c.entries.list c.entries.invariant.1 c.list_entry.new.list
          (c.in_ok-list_entry.ensures ∙ ap (with_entry c.entries.list _) c.keys_at.ensures),
    )
