use Rattle.std.proofs.Common.{◌∙◌, ◌≡◌, ◌+◌, List, ℕ, length, All, sym, ap, subst, arith}
use Rattle.std.proofs.lemmas.List.{length-drop}
use Rattle.std.proofs.lemmas.List.Elements.{All-take, All-drop}
use Rattle.judy_sl.specs.Arenas.{world_of}
use Rattle.judy_sl.specs.Counted.{LeadsOn, keys_behind_all}
use Rattle.judy_sl.specs.Nth.{IsSpotIn}
use Rattle.judy_sl.proofs.lemmas.places.PageCounts.{page_is}
use Rattle.judy_sl.proofs.lemmas.places.PageReads.{Reading, reading_start, reading_some, reading_page, reading_spot}
use Rattle.judy_sl.proofs.arena.Arena.read_spot.Goals as goal

pub pages-init : goal.pages-init
pages-init c = record { room = omega arith; leads = c.requires.leads; sought = reading_start (world_of c.args.self.now) c.args.entries c.args.place c.requires.within }

pub page_spot-requires-clause-leads : goal.page_spot-requires-clause-leads
page_spot-requires-clause-leads c =
    let world = world_of c.args.self.now in
    let left = c.pages.entries in
    let told = c.fill-told.result in
    let count = c.fill-told.ensures.count in
    let is = page_is left c.pages.page c.fill-told.new.out told (omega arith) c.fill-told.ensures.out in
    subst (λ (page : List (ℕ × ℕ)). All (LeadsOn world) page) (sym is) (All-take (LeadsOn world) told left c.pages.invariant.leads)

pub returns-in-Ok : goal.returns-in-Ok
returns-in-Ok c =
    let world = world_of c.args.self.now in
    let left = c.pages.entries in
    let told = c.fill-told.result in
    let count = c.fill-told.ensures.count in
    let is = page_is left c.pages.page c.fill-told.new.out told (omega arith) c.fill-told.ensures.out in
    reading_spot world c.args.entries left c.args.place told c.pages.left c.pages.invariant.sought c.in-Ok.spot (subst (λ page. IsSpotIn world page c.pages.left c.in-Ok.spot) is c.in-Ok.ensures)

pub pages-preserved : goal.pages-preserved
pages-preserved c =
    let world = world_of c.args.self.now in
    let left = c.pages.entries in
    let told = c.fill-told.result in
    let count = c.fill-told.ensures.count in
    let is = page_is left c.pages.page c.fill-told.new.out told (omega arith) c.fill-told.ensures.out in
    let behind = subst (λ page. c.pages.left ≡ keys_behind_all world page + c.in-Err.behind) is c.in-Err.ensures in
    let on = reading_page world c.args.entries left c.args.place told c.pages.left c.pages.invariant.sought c.in-Err.behind behind in
    record {
      room = c.fill-told.auto.out ∙ c.pages.invariant.room;
      leads = subst (λ (rest : List (ℕ × ℕ)). All (LeadsOn world) rest) (sym c.fill-told.ensures.left) (All-drop (LeadsOn world) told left c.pages.invariant.leads);
      sought = subst (λ (rest : List (ℕ × ℕ)). Reading world c.args.entries rest c.args.place c.in-Err.behind) (sym c.fill-told.ensures.left) on;
    }

pub pages-smaller : goal.pages-smaller
pages-smaller c =
    let some = reading_some (world_of c.args.self.now) c.args.entries c.pages.entries c.args.place c.pages.left c.pages.invariant.sought in
    let room = c.pages.invariant.room in
    let count = c.fill-told.ensures.count in
    let left = ap length c.fill-told.ensures.left ∙ length-drop c.fill-told.result c.pages.entries in
    omega arith
