use Rattle.std.proofs.Common.{◌≡◌, ℕ, ◌-◌, length, drop, sym, ap, subst, ◌∙◌, arith}
use Rattle.std.specs.FinMap.{entries, len-entries}
use Rattle.std.proofs.lemmas.List.{drop_all, length-append, length-drop, length-take-le}
use Rattle.judy_sums.specs.Pairs.{Pairs}
use Rattle.judy_sl.specs.Arenas.{world_of}
use Rattle.judy_sl.specs.Listed.{IsListing}
use Rattle.judy_sl.proofs.lemmas.counts.ListPages.{listing_start}
use Rattle.judy_sl.proofs.lemmas.counts.LoneKeys.{level_keys}
use Rattle.judy_sl.proofs.lemmas.places.PageCounts.{entries_lead}
use Rattle.judy_sl.proofs.arena.Arena.read_list.Goals as goal

pub pages-init : goal.pages-init
pages-init c =
    let words = c.args.level.now.map in
    let count = len-entries words in
    record {
      room = omega arith;
      within = let all = c.requires.entries in omega (arith, all);
      listed = subst (λ (pairs : Pairs). IsListing (world_of c.args.self.now) pairs c.new-list.result) (sym (drop_all c.args.entries (entries words) (omega (arith, count, c.requires.entries))))
          (listing_start (world_of c.args.self.now) c.new-list.result c.new-list.ensures);
    }

pub list_page-requires-clause-leads : goal.list_page-requires-clause-leads
list_page-requires-clause-leads c = entries_lead c.requires.is_arena.is_world c.requires.stands.0 c.args.level.now.map c.requires.stands.1

pub list_page-requires-clause-within : goal.list_page-requires-clause-within
list_page-requires-clause-within c =
    let start = c.saturating_sub-start.ensures in
    let opened = length-take-le (c.pages.end - c.saturating_sub-start.result) c.pages.page (omega (arith, start, c.pages.invariant.room)) in
    omega (arith, opened, start, c.pages.invariant.within)

pub list_page-requires-clause-fits : goal.list_page-requires-clause-fits
list_page-requires-clause-fits c =
    let keys = level_keys c.requires.is_arena.is_world c.requires.stands.0 c.args.level.now.map c.requires.stands.1 in
    let fits = c.requires.stands.2 in
    omega (arith, keys, fits)

pub list_page-requires-clause-behind : goal.list_page-requires-clause-behind
list_page-requires-clause-behind c =
    let start = c.saturating_sub-start.ensures in
    let opened = length-take-le (c.pages.end - c.saturating_sub-start.result) c.pages.page (omega (arith, start, c.pages.invariant.room)) in
    subst (λ (n : ℕ). IsListing (world_of c.args.self.now) (drop n (entries c.args.level.now.map)) c.pages.list) (omega (arith, opened, start)) c.pages.invariant.listed

pub pages-preserved : goal.pages-preserved
pages-preserved c =
    let start = c.saturating_sub-start.ensures in
    let within = c.pages.invariant.within in
    let room = c.pages.invariant.room in
    let opened = length-take-le (c.pages.end - c.saturating_sub-start.result) c.pages.page (omega (arith, start, room)) in
    let both = length-append c.list_page.new.page (drop (c.pages.end - c.saturating_sub-start.result) c.pages.page) in
    let others = length-drop (c.pages.end - c.saturating_sub-start.result) c.pages.page in
    let same = c.list_page.auto.page in
    record { room = omega arith; within = omega arith; listed = c.in_ok-list_page.ensures }

pub returns : goal.returns
returns c =
    let done = c.pages-test.false in
    let none : c.pages.end ≡ 0 = omega (arith, done) in
    (subst (λ (n : ℕ). IsListing (world_of c.args.self.now) (drop n (entries c.args.level.now.map)) c.pages.list) none c.pages.invariant.listed).listed
