use Rattle.std.proofs.Common.{◌≡◌, ℕ, ◌-◌, length, take, drop, All, sym, ap, subst, ◌∙◌, arith}
use Rattle.std.proofs.lemmas.List.{length-append, length-drop, length-take-le}
use Rattle.std.proofs.lemmas.List.Elements.{All-drop}
use Rattle.judy_sums.specs.Pairs.{Pairs}
use Rattle.judy_sl.specs.Arenas.{world_of}
use Rattle.judy_sl.specs.Counted.{LeadsOn, keys_behind_all}
use Rattle.judy_sl.proofs.lemmas.places.PageCounts.{front_more}
use Rattle.judy_sl.proofs.arena.Arena.read_keys.Goals as goal

pub pages-init : goal.pages-init
pages-init c = record { room = omega arith; leads = c.requires.leads; there = let there = c.requires.there in omega arith; whole = omega arith }

pub next_keys-keys-requires-clause-there : goal.next_keys-keys-requires-clause-there
next_keys-keys-requires-clause-there c =
    let opened = length-take-le c.min-read.result c.pages.page (omega (arith, c.min-read.ensures, c.pages.invariant.room)) in
    omega (arith, opened, c.min-read.ensures, c.pages.invariant.there)

pub next_keys-keys-requires-clause-fits : goal.next_keys-keys-requires-clause-fits
next_keys-keys-requires-clause-fits c =
    let front = λ (n : ℕ). keys_behind_all (world_of c.args.self.now) (take n c.pages.entries) in
    let opened = length-take-le c.min-read.result c.pages.page (omega (arith, c.min-read.ensures, c.pages.invariant.room)) in
    let split = front_more (world_of c.args.self.now) c.pages.entries c.min-read.result c.pages.left (omega (arith, c.min-read.ensures)) in
    omega (arith, ap front opened, split, c.pages.invariant.whole, c.requires.fits)

pub overflow_add-keys : goal.overflow_add-keys
overflow_add-keys c =
    let front = λ (n : ℕ). keys_behind_all (world_of c.args.self.now) (take n c.pages.entries) in
    let opened = length-take-le c.min-read.result c.pages.page (omega (arith, c.min-read.ensures, c.pages.invariant.room)) in
    let split = front_more (world_of c.args.self.now) c.pages.entries c.min-read.result c.pages.left (omega (arith, c.min-read.ensures)) in
    omega (arith, c.next_keys-keys.ensures.keys ∙ ap front opened, split, c.pages.invariant.whole, c.requires.fits)

pub pages-preserved : goal.pages-preserved
pages-preserved c =
    let world = world_of c.args.self.now in
    let left = c.pages.entries in
    let read = c.min-read.result in
    let least = c.min-read.ensures in
    let there = c.pages.invariant.there in
    let whole = c.pages.invariant.whole in
    let room = c.pages.invariant.room in
    let opened = length-take-le read c.pages.page (omega arith) in
    let split = front_more world left read c.pages.left (omega arith) in
    let here = c.next_keys-keys.ensures.keys ∙ ap (λ n. keys_behind_all world (take n left)) opened in
    let behind = c.next_keys-keys.ensures.left ∙ ap (λ n. drop n left) opened in
    let rest = ap (λ (pairs : Pairs). keys_behind_all world (take (c.pages.left - read) pairs)) behind in
    let long = ap length behind ∙ length-drop read left in
    let page = ap length (c.next_keys-keys.ensures.page ∙ ap (λ n. take n left) opened) ∙ length-take-le read left (omega arith) in
    let both = length-append c.next_keys-keys.new.page (drop read c.pages.page) in
    let others = length-drop read c.pages.page in
    record {
      room = omega arith;
      leads = subst (λ (pairs : Pairs). All (LeadsOn world) pairs) (sym behind) (All-drop (LeadsOn world) read left c.pages.invariant.leads);
      there = omega arith;
      whole = omega arith;
    }

pub returns : goal.returns
returns c =
    let none = ap (λ n. keys_behind_all (world_of c.args.self.now) (take n c.pages.entries)) (let done = c.pages-test.false in let e : c.pages.left ≡ 0 = omega arith in e) in
    let so_far = c.pages.invariant.whole in
    omega arith
