use Rattle.std.proofs.Common.{suc, sym, ap, ◌∙◌, subst, arith}
use Rattle.std.specs.FinMap.{entries, get}
use Rattle.std.proofs.lemmas.List.{take_rest}
use Rattle.judy_sums.specs.Levels.{keys_below, part_len}
use Rattle.judy_sl.specs.Pieces.{piece_of}
use Rattle.judy_sl.specs.Arenas.{world_of, child_at, node_of, HasText}
use Rattle.judy_sl.specs.Behind.{map_behind, entry_keys}
use Rattle.judy_sl.specs.Children.{keys_told}
use Rattle.judy_sl.specs.Counted.{StandsWith}
use Rattle.judy_sl.specs.Scans.{is_beyond}
use Rattle.judy_sl.proofs.lemmas.pieces.PieceLemmas.{text-drop, piece-IsInner}
use Rattle.judy_sl.proofs.lemmas.seats.Linked.{taken_of}
use Rattle.judy_sl.proofs.lemmas.counts.KeysTold.{level_stands, level_asked}
use Rattle.judy_sl.proofs.lemmas.counts.LevelRanks.{one_if, one_told, ranked_most, rank_tail, level_most, rank_absent, rank_final, rank_inner}
use Rattle.judy_sl.proofs.lemmas.counts.ListedLevels.{list_there}
use Rattle.judy_sl.proofs.arena.Arena.rank_behind.Goals as goal

pub loop-level-init : goal.loop-level-init
loop-level-init c = record { text = c.requires.is_text; there = c.requires.there; whole = omega arith }

pub keys_before-lesser-requires-clause-told : goal.keys_before-lesser-requires-clause-told
keys_before-lesser-requires-clause-told c =
    subst (StandsWith (world_of c.args.self.now) c.in-Level.level.now.map) (sym c.keys_told.ensures)
    (level_stands c.args.self.now c.requires.counted c.loop-level.at (keys_told (child_at c.args.self.now c.loop-level.at)) c.in-Level.level.now c.in-Level.ensures)

pub keys_told-requires : goal.keys_told-requires
keys_told-requires c = level_asked c.args.self.now c.loop-level.at (keys_told (child_at c.args.self.now c.loop-level.at)) c.in-Level.level.now c.in-Level.ensures

pub overflow_add-lesser : goal.overflow_add-lesser
overflow_add-lesser c =
    let most = level_most c.args.itself c.loop-level.rest.now c.loop-level.invariant.text c.requires.is_arena.is_world (suc c.loop-level.at) c.in-Level.level.now.map (ap node_of c.in-Level.ensures) in
    let before = c.keys_before-lesser.ensures ∙ ap (keys_below (part_len (entry_keys (world_of c.args.self.now))) (entries c.in-Level.level.now.map)) c.first_piece-piece.ensures in
    let whole = c.loop-level.invariant.whole in
    let all = ranked_most c.args.itself (map_behind (world_of c.args.self.now) (suc c.args.child)) c.args.key.now in
    let few = c.requires.few in
    omega arith

pub returns-in_default : goal.returns-in_default
returns-in_default c =
    let none = ap (get c.in-Level.level.now.map) (sym c.first_piece-piece.ensures) ∙ sym c.get-found.ensures ∙ c.in_default.is in
    let here = rank_absent c.args.itself c.loop-level.rest.now c.loop-level.invariant.text c.requires.is_arena.is_world (suc c.loop-level.at) c.in-Level.level.now.map
    (ap node_of c.in-Level.ensures) none in
    let before = c.keys_before-lesser.ensures ∙ ap (keys_below (part_len (entry_keys (world_of c.args.self.now))) (entries c.in-Level.level.now.map)) c.first_piece-piece.ensures in
    let whole = c.loop-level.invariant.whole in
    omega arith

pub overflow_add-result : goal.overflow_add-result
overflow_add-result c =
    let entry = ap (get c.in-Level.level.now.map) (sym c.first_piece-piece.ensures) ∙ sym c.get-found.ensures ∙ c.in-Some.is in
    let here = rank_final c.args.itself c.loop-level.rest.now c.loop-level.invariant.text c.requires.is_arena.is_world (suc c.loop-level.at) c.in-Level.level.now.map
    (ap node_of c.in-Level.ensures) c.if-rest-lt8.true c.in-Some.next entry in
    let before = c.keys_before-lesser.ensures ∙ ap (keys_below (part_len (entry_keys (world_of c.args.self.now))) (entries c.in-Level.level.now.map)) c.first_piece-piece.ensures in
    let whole = c.loop-level.invariant.whole in
    let all = ranked_most c.args.itself (map_behind (world_of c.args.self.now) (suc c.args.child)) c.args.key.now in
    let few = c.requires.few in
    let one = c.from.ensures ∙ one_told c.args.itself in
    omega arith

pub returns-then-rest-lt8 : goal.returns-then-rest-lt8
returns-then-rest-lt8 c =
    let entry = ap (get c.in-Level.level.now.map) (sym c.first_piece-piece.ensures) ∙ sym c.get-found.ensures ∙ c.in-Some.is in
    let here = rank_final c.args.itself c.loop-level.rest.now c.loop-level.invariant.text c.requires.is_arena.is_world (suc c.loop-level.at) c.in-Level.level.now.map
    (ap node_of c.in-Level.ensures) c.if-rest-lt8.true c.in-Some.next entry in
    let before = c.keys_before-lesser.ensures ∙ ap (keys_below (part_len (entry_keys (world_of c.args.self.now))) (entries c.in-Level.level.now.map)) c.first_piece-piece.ensures in
    let whole = c.loop-level.invariant.whole in
    let one = c.from.ensures ∙ one_told c.args.itself in
    omega arith

pub loop-level-preserved : goal.loop-level-preserved
loop-level-preserved c =
    let entry = ap (get c.in-Level.level.now.map) (sym c.first_piece-piece.ensures) ∙ sym c.get-found.ensures ∙ c.in-Some.is in
    let here = rank_inner c.args.itself c.loop-level.rest.now c.loop-level.invariant.text c.requires.is_arena.is_world (suc c.loop-level.at) c.in-Level.level.now.map
    (ap node_of c.in-Level.ensures) c.if-rest-lt8.false c.in-Some.next entry in
    let before = c.keys_before-lesser.ensures ∙ ap (keys_below (part_len (entry_keys (world_of c.args.self.now))) (entries c.in-Level.level.now.map)) c.first_piece-piece.ensures in
    let whole = c.loop-level.invariant.whole in
    let inner = piece-IsInner c.loop-level.rest.now c.loop-level.invariant.text c.if-rest-lt8.false in
    rw take_rest (record {
      text = text-drop 8 c.loop-level.rest.now c.loop-level.invariant.text;
      there =
          taken_of c.args.self.now c.in-Some.next (((c.requires.is_arena.is_world.levels (suc c.loop-level.at) c.in-Level.level.now.map (ap node_of c.in-Level.ensures)).leads
          (piece_of c.loop-level.rest.now) c.in-Some.next entry inner).1);
      whole = omega arith;
    })

pub overflow_add-result-in-Tail : goal.overflow_add-result-in-Tail
overflow_add-result-in-Tail c =
    let text = subst HasText c.in-Tail.ensures (c.requires.is_arena.texts c.loop-level.at) in
    let here = rank_tail c.args.itself c.args.self.now c.requires.is_arena c.loop-level.at c.in-Tail.tail.0 c.in-Tail.tail.1 (ap node_of c.in-Tail.ensures) text c.loop-level.rest.now in
    let one = c.from-in-Tail.ensures ∙ one_told c.comes.result ∙ ap (λ b. one_if b) (c.comes.ensures ∙ ap (is_beyond c.args.itself) c.order.ensures) in
    let whole = c.loop-level.invariant.whole in
    let all = ranked_most c.args.itself (map_behind (world_of c.args.self.now) (suc c.args.child)) c.args.key.now in
    let few = c.requires.few in
    omega arith

pub returns-in-Tail : goal.returns-in-Tail
returns-in-Tail c =
    let text = subst HasText c.in-Tail.ensures (c.requires.is_arena.texts c.loop-level.at) in
    let here = rank_tail c.args.itself c.args.self.now c.requires.is_arena c.loop-level.at c.in-Tail.tail.0 c.in-Tail.tail.1 (ap node_of c.in-Tail.ensures) text c.loop-level.rest.now in
    let one = c.from-in-Tail.ensures ∙ one_told c.comes.result ∙ ap (λ b. one_if b) (c.comes.ensures ∙ ap (is_beyond c.args.itself) c.order.ensures) in
    let whole = c.loop-level.invariant.whole in
    omega arith

pub keys_before-lesser-requires-clause-list : goal.keys_before-lesser-requires-clause-list
keys_before-lesser-requires-clause-list c =
    list_there c.args.self.now c.args.lists.now c.requires.listed c.loop-level.at (keys_told (child_at c.args.self.now c.loop-level.at))
    c.in-Level.level.now c.in-Level.ensures _ c.list_of-list.ensures
