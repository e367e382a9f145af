use Rattle.std.proofs.Common.{ℕ, suc, true, false, Option, is_some, refl, sym, ap, ◌∙◌, arith}
use Rattle.std.specs.Int.{from_bool}
use Rattle.std.specs.FinMap.{get}
use Rattle.std.proofs.lemmas.List.{take_rest}
use Rattle.judy_sl.specs.Pieces.{piece_of}
use Rattle.judy_sl.specs.Arenas.{world_of}
use Rattle.judy_sl.specs.Behind.{map_behind}
use Rattle.judy_sl.specs.Counted.{ranked}
use Rattle.judy_sl.proofs.lemmas.pieces.PieceLemmas.{text_of_key, text-drop, piece-IsInner}
use Rattle.judy_sl.proofs.lemmas.seats.Linked.{taken_of}
use Rattle.judy_sl.proofs.lemmas.counts.CountWays.{both_long, none_shared, one_shared, child_shared}
use Rattle.judy_sl.proofs.arena.Arena.count.Goals as goal

pub returns-then-piece-first_piece : goal.returns-then-piece-first_piece
returns-then-piece-first_piece c =
    let up_to = c.rank-up_to.ensures in
    let below = c.rank-below.ensures in
    let left = c.saturating_sub.ensures in
    omega arith

pub returns-then-from-lt8 : goal.returns-then-from-lt8
returns-then-from-lt8 c =
    let both = sym c.first_piece-piece.ensures ∙ c.if-piece-first_piece.false ∙ c.first_piece.ensures in
    let one = one_shared c.requires.is_arena.is_world 0 c.args.self.now.root.map refl c.args.from.now c.args.to.now (text_of_key c.args.from.now c.requires.from)
    (text_of_key c.args.to.now c.requires.to) both c.if-from-lt8.true in
    c.from.ensures ∙ ap from_bool (c.is_some.ensures ∙ ap (λ (found : Option ℕ). is_some found) (c.get-found.ensures ∙ ap (get c.args.self.now.root.map) c.first_piece-piece.ensures)) ∙ sym one

pub returns-in-None : goal.returns-in-None
returns-in-None c =
    let both = sym c.first_piece-piece.ensures ∙ c.if-piece-first_piece.false ∙ c.first_piece.ensures in
    let entry = ap (get c.args.self.now.root.map) (sym c.first_piece-piece.ensures) ∙ sym c.get-found.ensures ∙ c.in-None.is in
    sym (none_shared c.requires.is_arena.is_world 0 c.args.self.now.root.map refl c.args.from.now c.args.to.now (text_of_key c.args.from.now c.requires.from)
    (text_of_key c.args.to.now c.requires.to) both entry)

pub slice_bounds-count_behind-count-in-Some : goal.slice_bounds-count_behind-count-in-Some
slice_bounds-count_behind-count-in-Some c =
    let both = sym c.first_piece-piece.ensures ∙ c.if-piece-first_piece.false ∙ c.first_piece.ensures in
    both_long c.requires.is_arena.is_world 0 c.args.self.now.root.map refl c.args.from.now c.args.to.now (text_of_key c.args.from.now c.requires.from)
    (text_of_key c.args.to.now c.requires.to) both c.if-from-lt8.false

pub slice_bounds-count_behind-start-in-Some : goal.slice_bounds-count_behind-start-in-Some
slice_bounds-count_behind-start-in-Some c =
    let both = sym c.first_piece-piece.ensures ∙ c.if-piece-first_piece.false ∙ c.first_piece.ensures in
    both_long c.requires.is_arena.is_world 0 c.args.self.now.root.map refl c.args.from.now c.args.to.now (text_of_key c.args.from.now c.requires.from)
    (text_of_key c.args.to.now c.requires.to) both c.if-from-lt8.false

pub count_behind-requires-clause-there : goal.count_behind-requires-clause-there
count_behind-requires-clause-there c =
    let there = ap (get c.args.self.now.root.map) (sym c.first_piece-piece.ensures) ∙ sym c.get-found.ensures ∙ c.in-Some.is in
    let inner = piece-IsInner c.args.from.now (text_of_key c.args.from.now c.requires.from) c.if-from-lt8.false in
    taken_of c.args.self.now c.in-Some.at (((c.requires.is_arena.is_world.levels 0 c.args.self.now.root.map refl).leads (piece_of c.args.from.now) c.in-Some.at there inner).1)

pub count_behind-requires-clause-from : goal.count_behind-requires-clause-from
count_behind-requires-clause-from c = rw take_rest (text-drop 8 c.args.from.now (text_of_key c.args.from.now c.requires.from))

pub count_behind-requires-clause-to : goal.count_behind-requires-clause-to
count_behind-requires-clause-to c = rw take_rest (text-drop 8 c.args.to.now (text_of_key c.args.to.now c.requires.to))

pub returns-in-Some : goal.returns-in-Some
returns-in-Some c =
    let both = sym c.first_piece-piece.ensures ∙ c.if-piece-first_piece.false ∙ c.first_piece.ensures in
    let entry = ap (get c.args.self.now.root.map) (sym c.first_piece-piece.ensures) ∙ sym c.get-found.ensures ∙ c.in-Some.is in
    let child = child_shared c.requires.is_arena.is_world 0 c.args.self.now.root.map refl c.args.from.now c.args.to.now (text_of_key c.args.from.now c.requires.from)
    (text_of_key c.args.to.now c.requires.to) both c.if-from-lt8.false c.in-Some.at entry in
    let high = ap (ranked true (map_behind (world_of c.args.self.now) (suc c.in-Some.at))) (take_rest c.args.to.now 8) in
    let low = ap (ranked false (map_behind (world_of c.args.self.now) (suc c.in-Some.at))) (take_rest c.args.from.now 8) in
    let behind = c.count_behind.ensures in
    omega arith
