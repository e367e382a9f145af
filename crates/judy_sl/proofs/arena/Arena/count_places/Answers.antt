use Rattle.std.proofs.Common.{◌≡◌, ◌∷◌, ℕ, suc, ◌+◌, List, drop, get_or, ap, subst, ◌∙◌, arith}
use Rattle.std.proofs.Math.Seq.{drop-cons}
use Rattle.std.proofs.lemmas.List.{drop_all}
use Rattle.judy_sl.proofs.lemmas.counts.Stepping.{IsStepping, stepping-start, here, stepping-on, stepping-end}
use Rattle.judy_sl.proofs.arena.Arena.count_places.Goals.{In-loop-at}
use Rattle.judy_sl.proofs.arena.Arena.count_places.Goals as goal

-- The next place is the first of those that are left.
next : (c : In-loop-at) → IsStepping c.args.comes c.args.self.now c.loop-at.self (get_or c.args.places.now c.loop-at.at-index 0 ∷ drop (c.loop-at.at-index + 1) c.args.places.now) c.args.places.now
next c =
    let places = c.args.places.now in
    let index = c.loop-at.at-index in
    let more : suc index ≡ index + 1 = omega arith in
    subst (λ (left : List ℕ). IsStepping c.args.comes c.args.self.now c.loop-at.self left places) (drop-cons places index 0 c.loop-at-test.true ∙
    ap (λ count. get_or places index 0 ∷ drop count places) more) c.loop-at.invariant

pub loop-at-init : goal.loop-at-init
loop-at-init c = stepping-start c.args.comes c.args.self.now c.args.places.now c.requires.is_arena c.requires.once c.requires.can

pub count_at-requires : goal.count_at-requires
count_at-requires c =
    let can = here c.args.comes c.args.self.now c.loop-at.self (get_or c.args.places.now c.loop-at.at-index 0) (drop (c.loop-at.at-index + 1) c.args.places.now) c.args.places.now
    (next (goal.at.count_at-requires c).In-loop-at) in
    record { inside = can.0; can = can.1 }

pub loop-at-preserved : goal.loop-at-preserved
loop-at-preserved c =
    stepping-on c.args.comes c.args.self.now c.loop-at.self (get_or c.args.places.now c.loop-at.at-index 0) (drop (c.loop-at.at-index + 1) c.args.places.now) c.args.places.now
    (next (goal.at.loop-at-preserved c).In-loop-at) c.count_at.new.self c.count_at.ensures

pub returns : goal.returns
returns c =
    stepping-end c.args.comes c.args.self.now c.loop-at.self c.args.places.now (subst (λ (left : List ℕ). IsStepping c.args.comes c.args.self.now c.loop-at.self left c.args.places.now)
    (drop_all c.loop-at.at-index c.args.places.now c.loop-at-test.false) c.loop-at.invariant)
