use Rattle.std.proofs.Common.{◌≡◌, ◌∷◌, ℕ, suc, ◌+◌, ◌-◌, true, List, drop, get_or, length, sym, ap, subst, ◌∙◌, arith}
use Rattle.std.proofs.Math.Seq.{drop-cons}
use Rattle.std.proofs.lemmas.List.{drop_all, take_rest}
use Rattle.judy_sl.specs.Arenas.{world_of}
use Rattle.judy_sl.specs.Listed.{others_begin, IsBegun, AreListedBut, AreBegun}
use Rattle.judy_sl.proofs.lemmas.counts.ListSteps.{listed_long, listed_off, listed_on, listed_end}
use Rattle.judy_sl.proofs.arena.Arena.list_places.Goals.{In-places}
use Rattle.judy_sl.proofs.arena.Arena.list_places.Goals as goal

-- The next place is the first of those that are left.
abbrev first : In-places → ℕ
first c = get_or c.args.places.now c.places.at-index 0

abbrev later : In-places → List ℕ
later c = drop (c.places.at-index + 1) c.args.places.now

split : (c : In-places) → drop c.places.at-index c.args.places.now ≡ first c ∷ later c
split c =
    let places = c.args.places.now in
    let index = c.places.at-index in
    let more : suc index ≡ index + 1 = omega arith in
    drop-cons places index 0 c.places-test.true ∙ ap (λ count. get_or places index 0 ∷ drop count places) more

next : (c : In-places) → AreListedBut c.args.comes c.args.self.now c.places.lists (first c ∷ later c) c.places.rest.now
next c = subst (λ (left : List ℕ). AreListedBut c.args.comes c.args.self.now c.places.lists left c.places.rest.now) (split c) c.places.invariant.1

begins : (c : In-places) → c.args.comes ≡ true → AreBegun (world_of c.args.self.now) (first c ∷ later c) c.places.rest.now c.args.beside
begins c comes = subst (λ (left : List ℕ). AreBegun (world_of c.args.self.now) left c.places.rest.now c.args.beside) (split c) (c.places.invariant.2 comes)

-- One less is left.
left_one : (c : In-places) → c.places.left ≡ suc (length (later c))
left_one c = c.places.invariant.0 ∙ ap (λ (places : List ℕ). length places) (split c)

left_is : (c : In-places) → c.places.left - 1 ≡ length (later c)
left_is c = let one = left_one c in omega (arith, one)

pub slice_bounds-rest-count : goal.slice_bounds-rest-count
slice_bounds-rest-count c =
    let at = (goal.at.slice_bounds-rest-count c).In-places in
    listed_long c.args.comes c.args.self.now c.places.lists (first at) (later at) c.places.rest.now (next at)

pub slice_bounds-rest-start : goal.slice_bounds-rest-start
slice_bounds-rest-start c =
    let at = (goal.at.slice_bounds-rest-start c).In-places in
    listed_long c.args.comes c.args.self.now c.places.lists (first at) (later at) c.places.rest.now (next at)

pub list_key-requires-clause-off : goal.list_key-requires-clause-off
list_key-requires-clause-off c =
    let at = (goal.at.list_key-requires-clause-off c).In-places in
    rw take_rest (listed_off c.args.comes c.args.self.now c.places.lists (first at) (later at) c.places.rest.now (next at))

pub list_key-requires-clause-begun : goal.list_key-requires-clause-begun
list_key-requires-clause-begun c comes =
    let at = (goal.at.list_key-requires-clause-begun c).In-places in
    rw take_rest (subst (IsBegun (world_of c.args.self.now) (first at) (drop 8 c.places.rest.now)) (ap (λ left. others_begin left c.args.beside) (sym (left_is at)) ∙ sym c.others_begin.ensures)
    (begins at comes).0)

pub places-preserved : goal.places-preserved
places-preserved c =
    let at = (goal.at.places-preserved c).In-places in (
      left_is at,
      rw take_rest (listed_on c.args.comes c.args.self.now c.places.lists (first at) (later at) c.places.rest.now (next at) c.list_key.new.lists c.list_key.ensures.here c.list_key.ensures.others),
      λ comes. rw take_rest (begins at comes).1,
    )

pub returns : goal.returns
returns c =
    listed_end c.args.comes c.args.self.now c.places.lists c.places.rest.now (subst (λ (left : List ℕ). AreListedBut c.args.comes c.args.self.now c.places.lists left c.places.rest.now)
    (drop_all c.places.at-index c.args.places.now c.places-test.false) c.places.invariant.1)
