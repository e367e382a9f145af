use Rattle.std.proofs.Common.{◌≡◌, ℕ, ◌+◌, ◌-◌, ◌≤◌, length, take, drop, All, ap, ◌∙◌, sym, subst, arith}
use Rattle.std.specs.FinMap.{entries, len-entries}
use Rattle.std.proofs.lemmas.List.{length-append, length-drop, length-take-le, take_all, take-append-drop}
use Rattle.std.proofs.lemmas.List.Elements.{All-drop, All-take}
use Rattle.judy_sums.specs.Pairs.{Pairs}
use Rattle.judy_sl.specs.Arenas.{world_of}
use Rattle.judy_sl.specs.World.{World}
use Rattle.judy_sl.specs.Counted.{LeadsOn, keys_behind_all}
use Rattle.judy_sl.specs.Nth.{IsSpotIn}
use Rattle.judy_sl.proofs.lemmas.places.PageCounts.{front_some, front_rest, front_more}
use Rattle.judy_sl.proofs.lemmas.places.PageReads.{Reading, reading_spot}
use Rattle.judy_sl.proofs.arena.Arena.read_back.Goals as goal

-- A page that was read from a place on has the entries from there to the end, and what stands before the end is before the page or behind it.
record PageBack (world : World) (all page : Pairs) (start end before keys : ℕ) : Type 0 where
  same : page ≡ take (end - start) (drop start all)
  split : before ≡ keys_behind_all world (take start all) + keys
  behind : keys ≡ keys_behind_all world (take (end - start) (drop start all))

page_back : (world : World) (all left page : Pairs) (start end before keys long : ℕ) → start ≤ end → before ≡ keys_behind_all world (take end all) →
    left ≡ drop start all → long ≡ end - start → page ≡ take long left → keys ≡ keys_behind_all world (take long left) → PageBack world all page start end before keys
page_back world all left page start end before keys long least told is fills read count =
    let same = ap (λ n. take n left) fills ∙ ap (take (end - start)) is in
    let more = front_more world all start end least in
    let behind = count ∙ ap (keys_behind_all world) same in
    record { same = read ∙ same; split = omega arith; behind = behind }

pub pages-init : goal.pages-init
pages-init c =
    let count = c.len-end.ensures.count in
    let long = len-entries c.args.level.now.map in
    let whole = ap (keys_behind_all (world_of c.args.self.now)) (take_all c.len-end.result (entries c.args.level.now.map) (omega arith)) in
    let all = c.requires.all in
    record { room = omega arith; within = omega arith; told = omega arith; sought = c.requires.within }

pub entries_at-entries-requires-clause-within : goal.entries_at-entries-requires-clause-within
entries_at-entries-requires-clause-within c =
    let on = c.pages.invariant in
    let within = on.within in
    let told = on.told in
    let sought = on.sought in
    let some = front_some (world_of c.args.self.now) (entries c.args.level.now.map) c.pages.end (omega arith) in
    let start = c.saturating_sub-start.ensures in
    omega arith

pub next_keys-before-requires-clause-leads : goal.next_keys-before-requires-clause-leads
next_keys-before-requires-clause-leads c =
    let world = world_of c.args.self.now in
    subst (λ (pairs : Pairs). All (LeadsOn world) pairs) (sym c.entries_at-entries.ensures) (All-drop (LeadsOn world) c.saturating_sub-start.result (entries c.args.level.now.map) c.requires.leads)

pub next_keys-before-requires-clause-there : goal.next_keys-before-requires-clause-there
next_keys-before-requires-clause-there c =
    let opened = length-take-le (c.pages.end - c.saturating_sub-start.result) c.pages.page (omega (arith, c.saturating_sub-start.ensures, c.pages.invariant.room)) in
    let rest = ap length c.entries_at-entries.ensures ∙ length-drop c.saturating_sub-start.result (entries c.args.level.now.map) in
    omega (arith, opened, rest, c.pages.invariant.within, len-entries c.args.level.now.map)

pub next_keys-before-requires-clause-fits : goal.next_keys-before-requires-clause-fits
next_keys-before-requires-clause-fits c =
    let world = world_of c.args.self.now in
    let all = entries c.args.level.now.map in
    let start = c.saturating_sub-start.result in
    let opened = length-take-le (c.pages.end - start) c.pages.page (omega (arith, c.saturating_sub-start.ensures, c.pages.invariant.room)) in
    let same = ap (λ n. take n c.entries_at-entries.result) opened ∙ ap (take (c.pages.end - start)) c.entries_at-entries.ensures in
    let more = front_more world all start c.pages.end (omega (arith, c.saturating_sub-start.ensures)) in
    omega (arith, ap (keys_behind_all world) same, more, front_rest world all c.pages.end, c.ranges.keys.fits, c.requires.all)

pub overflow_sub-before : goal.overflow_sub-before
overflow_sub-before c =
    let opened = length-take-le (c.pages.end - c.saturating_sub-start.result) c.pages.page (omega (arith, c.saturating_sub-start.ensures, c.pages.invariant.room)) in
    let back = page_back (world_of c.args.self.now) (entries c.args.level.now.map) c.entries_at-entries.result c.next_keys-before.new.page c.saturating_sub-start.result
    c.pages.end c.pages.before c.next_keys-before.result _ (omega (arith, c.saturating_sub-start.ensures)) c.pages.invariant.told c.entries_at-entries.ensures
    opened c.next_keys-before.ensures.page c.next_keys-before.ensures.keys in
    omega (arith, back.split)

pub page_spot-requires-clause-leads : goal.page_spot-requires-clause-leads
page_spot-requires-clause-leads c =
    let opened = length-take-le (c.pages.end - c.saturating_sub-start.result) c.pages.page (omega (arith, c.saturating_sub-start.ensures, c.pages.invariant.room)) in
    let back = page_back (world_of c.args.self.now) (entries c.args.level.now.map) c.entries_at-entries.result c.next_keys-before.new.page c.saturating_sub-start.result
    c.pages.end c.pages.before c.next_keys-before.result _ (omega (arith, c.saturating_sub-start.ensures)) c.pages.invariant.told c.entries_at-entries.ensures
    opened c.next_keys-before.ensures.page c.next_keys-before.ensures.keys in
    let world = world_of c.args.self.now in
    let start = c.saturating_sub-start.result in
    subst (λ (pairs : Pairs). All (LeadsOn world) pairs) (sym back.same) (All-take (LeadsOn world) (c.pages.end - start) (drop start (entries c.args.level.now.map))
    (All-drop (LeadsOn world) start (entries c.args.level.now.map) c.requires.leads))

pub unreachable-requires : goal.unreachable-requires
unreachable-requires c =
    let opened = length-take-le (c.pages.end - c.saturating_sub-start.result) c.pages.page (omega (arith, c.saturating_sub-start.ensures, c.pages.invariant.room)) in
    let back = page_back (world_of c.args.self.now) (entries c.args.level.now.map) c.entries_at-entries.result c.next_keys-before.new.page c.saturating_sub-start.result
    c.pages.end c.pages.before c.next_keys-before.result _ (omega (arith, c.saturating_sub-start.ensures)) c.pages.invariant.told c.entries_at-entries.ensures
    opened c.next_keys-before.ensures.page c.next_keys-before.ensures.keys in
    omega (arith, back.split, back.behind, ap (keys_behind_all (world_of c.args.self.now)) back.same, c.pages.invariant.sought, c.if-before-place.true, c.in_default.ensures)

pub returns-then-before-place : goal.returns-then-before-place
returns-then-before-place c =
    let opened = length-take-le (c.pages.end - c.saturating_sub-start.result) c.pages.page (omega (arith, c.saturating_sub-start.ensures, c.pages.invariant.room)) in
    let back = page_back (world_of c.args.self.now) (entries c.args.level.now.map) c.entries_at-entries.result c.next_keys-before.new.page c.saturating_sub-start.result
    c.pages.end c.pages.before c.next_keys-before.result _ (omega (arith, c.saturating_sub-start.ensures)) c.pages.invariant.told c.entries_at-entries.ensures
    opened c.next_keys-before.ensures.page c.next_keys-before.ensures.keys in
    let world = world_of c.args.self.now in
    let all = entries c.args.level.now.map in
    let start = c.saturating_sub-start.result in
    let left = c.args.place - (c.pages.before - c.next_keys-before.result) in
    let past = c.if-before-place.true in
    let sought = c.pages.invariant.sought in
    let split = back.split in
    let behind = back.behind in
    let rest = front_rest world (drop start all) (c.pages.end - start) in
    let on : Reading world all (drop start all) c.args.place left = record { seen = take start all; split = sym (take-append-drop start all); passed = omega arith; within = omega arith } in
    reading_spot world all (drop start all) c.args.place (c.pages.end - start) left on c.in-Ok.spot (subst (λ (pairs : Pairs). IsSpotIn world pairs left c.in-Ok.spot) back.same c.in-Ok.ensures)

pub pages-preserved : goal.pages-preserved
pages-preserved c =
    let opened = length-take-le (c.pages.end - c.saturating_sub-start.result) c.pages.page (omega (arith, c.saturating_sub-start.ensures, c.pages.invariant.room)) in
    let back = page_back (world_of c.args.self.now) (entries c.args.level.now.map) c.entries_at-entries.result c.next_keys-before.new.page c.saturating_sub-start.result
    c.pages.end c.pages.before c.next_keys-before.result _ (omega (arith, c.saturating_sub-start.ensures)) c.pages.invariant.told c.entries_at-entries.ensures
    opened c.next_keys-before.ensures.page c.next_keys-before.ensures.keys in
    let split = back.split in
    let past = c.if-before-place.false in
    let start = c.saturating_sub-start.ensures in
    let within = c.pages.invariant.within in
    let room = c.pages.invariant.room in
    let long = ap length c.next_keys-before.ensures.page in
    let both = length-append c.next_keys-before.new.page (drop (c.pages.end - c.saturating_sub-start.result) c.pages.page) in
    let others = length-drop (c.pages.end - c.saturating_sub-start.result) c.pages.page in
    let same = c.next_keys-before.auto.page in
    record { room = omega arith; within = omega arith; told = omega arith; sought = omega arith }

pub pages-smaller : goal.pages-smaller
pages-smaller c =
    let told = c.pages.invariant.told in
    let sought = c.pages.invariant.sought in
    let some = front_some (world_of c.args.self.now) (entries c.args.level.now.map) c.pages.end (omega arith) in
    let start = c.saturating_sub-start.ensures in
    omega arith
