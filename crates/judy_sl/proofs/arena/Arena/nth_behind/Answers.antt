use Rattle.std.proofs.Common.{◌++◌, refl, sym, ap, arith, subst, length}
use Rattle.judy_sl.specs.Pieces.{piece_bytes}
use Rattle.judy_sl.specs.Children.{keys_told}
use Rattle.judy_sl.specs.Counted.{StandsWith}
use Rattle.judy_sl.specs.Arenas.{world_of, child_at, node_of, HasText}
use Rattle.judy_sl.proofs.lemmas.seats.Linked.{taken_of}
use Rattle.judy_sl.proofs.lemmas.pieces.PieceBytes.{inner_bytes}
use Rattle.judy_sl.proofs.lemmas.counts.KeysTold.{level_stands, level_asked}
use Rattle.judy_sl.proofs.lemmas.places.NthWays.{nth_start, nth_there, nth_within, nth_room, nth_final, nth_down, nth_tail_room, nth_tail}
use Rattle.judy_tails.proofs.Writing.{stays-beyond}
use Rattle.judy_sl.proofs.lemmas.counts.ListedLevels.{list_there}
use Rattle.judy_sl.proofs.arena.Arena.nth_behind.Goals as goal

pub down-init : goal.down-init
down-init g c = record {
  way = λ before fits begun. record {
    bytes = before;
    given = begun;
    are = nth_start (world_of c.args.self.now) c.args.child c.args.place before c.requires.within fits;
  };
  beyond = λ place behind. refl;
}

pub child-requires : goal.child-requires
child-requires g c =
    let before = c.requires.begun.0 in
    let on = c.down.invariant.way before c.requires.begun.1 c.requires.begun.2 in
    taken_of c.args.self.now c.down.at (nth_there c.args.self.now c.requires.is_arena c.args.child c.args.place before c.down.at c.down.left on.bytes on.are)

pub spot_at-spot-requires-clause-told : goal.spot_at-spot-requires-clause-told
spot_at-spot-requires-clause-told g c =
    subst (StandsWith (world_of c.args.self.now) c.in-Level.level.now.map) (sym c.keys_told.ensures)
    (level_stands c.args.self.now c.requires.counted c.down.at (keys_told (child_at c.args.self.now c.down.at)) c.in-Level.level.now c.in-Level.ensures)

pub keys_told-requires : goal.keys_told-requires
keys_told-requires g c = level_asked c.args.self.now c.down.at (keys_told (child_at c.args.self.now c.down.at)) c.in-Level.level.now c.in-Level.ensures

pub spot_at-spot-requires-clause-within : goal.spot_at-spot-requires-clause-within
spot_at-spot-requires-clause-within g c =
    let before = c.requires.begun.0 in
    let on = c.down.invariant.way before c.requires.begun.1 c.requires.begun.2 in
    nth_within c.args.self.now c.requires.is_arena c.args.child c.args.place before c.down.at c.down.left on.bytes on.are
    c.in-Level.level.now.map (ap node_of c.in-Level.ensures)

pub push_piece-requires : goal.push_piece-requires
push_piece-requires g c =
    let before = c.requires.begun.0 in
    let on = c.down.invariant.way before c.requires.begun.1 c.requires.begun.2 in
    let room = nth_room c.args.self.now c.requires.is_arena c.args.child c.args.place before c.down.at c.down.left on.bytes on.are
    c.in-Level.level.now.map (ap node_of c.in-Level.ensures) c.spot_at-spot.result c.spot_at-spot.ensures in
    let long = g.met.K.KeyWriter.has_len c.down.key on.bytes on.given in
    omega (arith, room, long)

pub returns-then-spot-eq0 : goal.returns-then-spot-eq0
returns-then-spot-eq0 g c = record {
  found = λ before fits begun.
      let on = c.down.invariant.way before fits begun in
      record {
        bytes = on.bytes ++ piece_bytes c.spot_at-spot.result.piece;
        given = c.push_piece.ensures.has on.bytes on.given;
        are = nth_final c.args.self.now c.requires.is_arena c.args.child c.args.place before c.down.at c.down.left on.bytes on.are
            c.in-Level.level.now.map
            (ap node_of c.in-Level.ensures) c.spot_at-spot.result c.spot_at-spot.ensures c.if-spot-eq0.true;
      };
  beyond = stays-beyond g.K.KeyWriter.len g.K.KeyWriter.beyond c.args.key.now c.down.key c.push_piece.new.key (length (piece_bytes c.spot_at-spot.result.piece))
      c.push_piece.ensures.len c.down.invariant.beyond c.push_piece.ensures.beyond;
}

pub down-smaller : goal.down-smaller
down-smaller g c =
    let before = c.requires.begun.0 in
    let on = c.down.invariant.way before c.requires.begun.1 c.requires.begun.2 in
    let room = nth_room c.args.self.now c.requires.is_arena c.args.child c.args.place before c.down.at c.down.left on.bytes on.are
    c.in-Level.level.now.map (ap node_of c.in-Level.ensures) c.spot_at-spot.result c.spot_at-spot.ensures in
    let some = inner_bytes c.spot_at-spot.result.piece c.if-spot-eq0.false in
    let long = g.met.K.KeyWriter.has_len c.down.key on.bytes on.given in
    omega (arith, room, some, long, c.push_piece.ensures.len)

pub down-preserved : goal.down-preserved
down-preserved g c = record {
  way = λ before fits begun.
      let on = c.down.invariant.way before fits begun in
      record {
        bytes = on.bytes ++ piece_bytes c.spot_at-spot.result.piece;
        given = c.push_piece.ensures.has on.bytes on.given;
        are = nth_down c.args.self.now c.requires.is_arena c.args.child c.args.place before c.down.at c.down.left on.bytes on.are
            c.in-Level.level.now.map
            (ap node_of c.in-Level.ensures) c.spot_at-spot.result c.spot_at-spot.ensures c.if-spot-eq0.false;
      };
  beyond = stays-beyond g.K.KeyWriter.len g.K.KeyWriter.beyond c.args.key.now c.down.key c.push_piece.new.key (length (piece_bytes c.spot_at-spot.result.piece))
      c.push_piece.ensures.len c.down.invariant.beyond c.push_piece.ensures.beyond;
}

pub push_to-requires : goal.push_to-requires
push_to-requires g c =
    let before = c.requires.begun.0 in
    let on = c.down.invariant.way before c.requires.begun.1 c.requires.begun.2 in
    let text = subst HasText c.in-Tail.ensures (c.requires.is_arena.texts c.down.at) in
    let room = nth_tail_room c.args.self.now c.requires.is_arena c.args.child c.args.place before c.down.at c.down.left on.bytes on.are
    c.in-Tail.tail.0 c.in-Tail.tail.1 (ap node_of c.in-Tail.ensures) text in
    let long = g.met.K.KeyWriter.has_len c.down.key on.bytes on.given in
    omega (arith, room, long)

pub returns-in-Tail : goal.returns-in-Tail
returns-in-Tail g c = record {
  found = λ before fits begun.
      let on = c.down.invariant.way before fits begun in
      let text = subst HasText c.in-Tail.ensures (c.requires.is_arena.texts c.down.at) in
      record {
        bytes = on.bytes ++ c.in-Tail.tail.0;
        given = c.push_to.ensures.has on.bytes on.given;
        are = rw c.value.ensures (nth_tail c.args.self.now c.requires.is_arena c.args.child c.args.place before c.down.at c.down.left on.bytes on.are
            c.in-Tail.tail.0 c.in-Tail.tail.1 (ap node_of c.in-Tail.ensures) text);
      };
  beyond = stays-beyond g.K.KeyWriter.len g.K.KeyWriter.beyond c.args.key.now c.down.key c.push_to.new.key (length c.in-Tail.tail.0)
      c.push_to.ensures.len c.down.invariant.beyond c.push_to.ensures.beyond;
}

pub spot_at-spot-requires-clause-list : goal.spot_at-spot-requires-clause-list
spot_at-spot-requires-clause-list g c =
    list_there c.args.self.now c.args.lists.now c.requires.listed c.down.at (keys_told (child_at c.args.self.now c.down.at)) c.in-Level.level.now c.in-Level.ensures _ c.list_of-list.ensures
