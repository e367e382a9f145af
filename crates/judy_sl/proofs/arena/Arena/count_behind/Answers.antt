use Rattle.std.proofs.Common.{ℕ, suc, true, false, Option, is_some, refl, sym, ap, ◌∙◌, subst, arith}
use Rattle.std.specs.Int.{from_bool}
use Rattle.std.specs.FinMap.{get}
use Rattle.std.proofs.lemmas.List.{take_rest}
use Rattle.judy_sl.specs.Pieces.{piece_of}
use Rattle.judy_sl.specs.Arenas.{world_of, child_at, node_of, HasText}
use Rattle.judy_sl.specs.Children.{keys_told}
use Rattle.judy_sl.specs.Counted.{StandsWith}
use Rattle.judy_sl.specs.Scans.{is_beyond}
use Rattle.judy_sl.proofs.lemmas.pieces.PieceLemmas.{text-drop, piece-IsInner}
use Rattle.judy_sl.proofs.lemmas.seats.Linked.{taken_of}
use Rattle.judy_sl.proofs.lemmas.counts.KeysTold.{level_stands, level_asked}
use Rattle.judy_sl.proofs.lemmas.counts.LevelRanks.{one_if, one_told, rank_tail}
use Rattle.judy_sl.proofs.lemmas.counts.CountWays.{level_ranked, both_long, none_shared, one_shared, child_shared}
use Rattle.judy_sl.proofs.lemmas.counts.ListedLevels.{list_there}
use Rattle.judy_sl.proofs.arena.Arena.count_behind.Goals as goal

pub down-init : goal.down-init
down-init c = record { low = c.requires.from; high = c.requires.to; there = c.requires.there; same = refl }

pub keys_told-requires : goal.keys_told-requires
keys_told-requires c = level_asked c.args.self.now c.down.at (keys_told (child_at c.args.self.now c.down.at)) c.in-Level.level.now c.in-Level.ensures

pub count_in-requires-clause-told : goal.count_in-requires-clause-told
count_in-requires-clause-told c =
    subst (StandsWith (world_of c.args.self.now) c.in-Level.level.now.map) (sym c.keys_told.ensures)
    (level_stands c.args.self.now c.requires.counted c.down.at (keys_told (child_at c.args.self.now c.down.at)) c.in-Level.level.now c.in-Level.ensures)

pub returns-then-piece-first_piece : goal.returns-then-piece-first_piece
returns-then-piece-first_piece c =
    let high = level_ranked c.requires.is_arena.is_world (suc c.down.at) c.in-Level.level.now.map (ap node_of c.in-Level.ensures) true c.down.high.now c.down.invariant.high in
    let low = level_ranked c.requires.is_arena.is_world (suc c.down.at) c.in-Level.level.now.map (ap node_of c.in-Level.ensures) false c.down.low.now c.down.invariant.low in
    let same = c.down.invariant.same in
    let count = c.count_in.ensures in
    omega arith

pub returns-then-low-lt8 : goal.returns-then-low-lt8
returns-then-low-lt8 c =
    let both = sym c.first_piece-piece.ensures ∙ c.if-piece-first_piece.false ∙ c.first_piece.ensures in
    let one = one_shared c.requires.is_arena.is_world (suc c.down.at) c.in-Level.level.now.map (ap node_of c.in-Level.ensures) c.down.low.now c.down.high.now
    c.down.invariant.low c.down.invariant.high both c.if-low-lt8.true in
    let told = c.from.ensures ∙ ap from_bool (c.is_some.ensures ∙ ap (λ (found : Option ℕ). is_some found) (c.get-found.ensures ∙ ap (get c.in-Level.level.now.map) c.first_piece-piece.ensures)) in
    let same = c.down.invariant.same in
    omega arith

pub returns-in_default : goal.returns-in_default
returns-in_default c =
    let both = sym c.first_piece-piece.ensures ∙ c.if-piece-first_piece.false ∙ c.first_piece.ensures in
    let entry = ap (get c.in-Level.level.now.map) (sym c.first_piece-piece.ensures) ∙ sym c.get-found.ensures ∙ c.in_default.is in
    let none = none_shared c.requires.is_arena.is_world (suc c.down.at) c.in-Level.level.now.map (ap node_of c.in-Level.ensures) c.down.low.now c.down.high.now
    c.down.invariant.low c.down.invariant.high both entry in
    let same = c.down.invariant.same in
    omega arith

pub slice_bounds-high-count : goal.slice_bounds-high-count
slice_bounds-high-count c =
    let both = sym c.first_piece-piece.ensures ∙ c.if-piece-first_piece.false ∙ c.first_piece.ensures in
    both_long c.requires.is_arena.is_world (suc c.down.at) c.in-Level.level.now.map (ap node_of c.in-Level.ensures) c.down.low.now c.down.high.now c.down.invariant.low
    c.down.invariant.high both c.if-low-lt8.false

pub slice_bounds-high-start : goal.slice_bounds-high-start
slice_bounds-high-start c =
    let both = sym c.first_piece-piece.ensures ∙ c.if-piece-first_piece.false ∙ c.first_piece.ensures in
    both_long c.requires.is_arena.is_world (suc c.down.at) c.in-Level.level.now.map (ap node_of c.in-Level.ensures) c.down.low.now c.down.high.now c.down.invariant.low
    c.down.invariant.high both c.if-low-lt8.false

pub down-preserved : goal.down-preserved
down-preserved c =
    let both = sym c.first_piece-piece.ensures ∙ c.if-piece-first_piece.false ∙ c.first_piece.ensures in
    let entry = ap (get c.in-Level.level.now.map) (sym c.first_piece-piece.ensures) ∙ sym c.get-found.ensures ∙ c.in-Some.is in
    let child = child_shared c.requires.is_arena.is_world (suc c.down.at) c.in-Level.level.now.map (ap node_of c.in-Level.ensures) c.down.low.now c.down.high.now
    c.down.invariant.low c.down.invariant.high both c.if-low-lt8.false c.in-Some.next entry in
    let inner = piece-IsInner c.down.low.now c.down.invariant.low c.if-low-lt8.false in
    rw take_rest (rw take_rest (record {
      low = text-drop 8 c.down.low.now c.down.invariant.low;
      high = text-drop 8 c.down.high.now c.down.invariant.high;
      there =
          taken_of c.args.self.now c.in-Some.next (((c.requires.is_arena.is_world.levels (suc c.down.at) c.in-Level.level.now.map (ap node_of c.in-Level.ensures)).leads
          (piece_of c.down.low.now) c.in-Some.next entry inner).1);
      same = c.down.invariant.same ∙ child;
    }))

pub returns-in-Tail : goal.returns-in-Tail
returns-in-Tail c =
    let text = subst HasText c.in-Tail.ensures (c.requires.is_arena.texts c.down.at) in
    let high = rank_tail true c.args.self.now c.requires.is_arena c.down.at c.in-Tail.tail.0 c.in-Tail.tail.1 (ap node_of c.in-Tail.ensures) text c.down.high.now in
    let low = rank_tail false c.args.self.now c.requires.is_arena c.down.at c.in-Tail.tail.0 c.in-Tail.tail.1 (ap node_of c.in-Tail.ensures) text c.down.low.now in
    let up_to = c.from-up_to.ensures ∙ one_told c.comes.result ∙ ap (λ b. one_if b) (c.comes.ensures ∙ ap (is_beyond true) c.order.ensures) in
    let below = c.from-below.ensures ∙ one_told c.comes-in-Tail.result ∙ ap (λ b. one_if b) (c.comes-in-Tail.ensures ∙ ap (is_beyond false) c.order-in-Tail.ensures) in
    let same = c.down.invariant.same in
    let left = c.saturating_sub.ensures in
    omega arith

pub count_in-requires-clause-list : goal.count_in-requires-clause-list
count_in-requires-clause-list c =
    list_there c.args.self.now c.args.lists.now c.requires.listed c.down.at (keys_told (child_at c.args.self.now c.down.at)) c.in-Level.level.now c.in-Level.ensures _ c.list_of-list.ensures
