use Rattle.std.proofs.Common.{◌≡◌, ◌+◌, ◌++◌, ℕ, Option, ap, arith, length, subst, refl, suc}
use Rattle.judy_sl.specs.Pieces.{piece_bytes}
use Rattle.judy_sl.specs.Arenas.{world_of, node_of, HasText}
use Rattle.judy_sl.specs.Scans.{IsFirstEntry, piece_in, IsEntryOf}
use Rattle.judy_sl.proofs.lemmas.seats.Linked.{taken_of}
use Rattle.judy_sl.proofs.lemmas.pieces.PieceBytes.{inner_bytes}
use Rattle.judy_sl.proofs.lemmas.scans.ScanEnds.{level_words, follow_start, follow_room, follow_last, follow_on, follow_place, follow_tail_room, follow_tail, follow_tail_place}
use Rattle.judy_sl.proofs.lemmas.scans.ScanEnds.{follow_some, follow_down}
use Rattle.judy_tails.specs.Writers.{StaysBeyond}
use Rattle.judy_tails.proofs.Writing.{stays-beyond}
use Rattle.judy_sl.proofs.arena.Arena.follow.Goals as goal
use Rattle.judy_sl.proofs.arena.Arena.follow.Given.{Over}

pub loop-piece-init : goal.loop-piece-init
loop-piece-init g c = record {
  way = λ from begun. record {
    bytes = _;
    given = begun.given;
    are = follow_start c.args.look (world_of c.args.self.now) from c.args.turn begun.at;
  };
  beyond = λ place behind. refl;
}

-- What lies beyond the key stays while it grows by a piece.
by_piece : (g : Over) (first middle last : g.row.K.Denot) (piece : ℕ) → g.K.KeyWriter.len last ≡ g.K.KeyWriter.len middle + length (piece_bytes piece) →
    StaysBeyond g.K.KeyWriter.len g.K.KeyWriter.beyond first middle → StaysBeyond g.K.KeyWriter.len g.K.KeyWriter.beyond middle last →
    StaysBeyond g.K.KeyWriter.len g.K.KeyWriter.beyond first last
by_piece g first middle last piece = stays-beyond g.K.KeyWriter.len g.K.KeyWriter.beyond first middle last (length (piece_bytes piece))

pub push_piece-requires : goal.push_piece-requires
push_piece-requires g c =
    let from = c.requires.begun.0 in
    let on = c.loop-piece.invariant.way from c.requires.begun.1 in
    let room = follow_room c.requires.is_arena.is_world from on.are.map c.loop-piece.piece on.bytes on.are.on in
    let long = g.met.K.KeyWriter.has_len c.loop-piece.key on.bytes on.given in
    omega (arith, room, long)

pub child-requires : goal.child-requires
child-requires g c =
    let from = c.requires.begun.0 in
    let on = c.loop-piece.invariant.way from c.requires.begun.1 in
    taken_of c.args.self.now c.loop-piece.value (follow_on c.requires.is_arena.is_world from on.are.map c.loop-piece.piece on.bytes on.are.on
    c.loop-piece.value on.are.entry c.loop-piece-test.true)

pub end-requires : goal.end-requires
end-requires g c = level_words c.requires.is_arena.is_world (suc c.loop-piece.value) c.in-Level.next.now.map (ap node_of c.in-Level.ensures)

pub returns-in_err-entry-in-Level : goal.returns-in_err-entry-in-Level
returns-in_err-entry-in-Level g c =
    let from = c.requires.begun.0 in
    let on = c.loop-piece.invariant.way from c.requires.begun.1 in
    absurd (follow_some c.requires.is_arena.is_world from on.are.map c.loop-piece.piece on.bytes on.are.on
    c.loop-piece.value on.are.entry c.loop-piece-test.true c.in-Level.next.now.map
    (ap node_of c.in-Level.ensures) (subst (λ (entry : Option (ℕ × ℕ)). IsFirstEntry c.args.look.side c.in-Level.next.now.map (piece_in entry)) c.in_err-entry-in-Level.was c.end.ensures.first))

pub loop-piece-smaller : goal.loop-piece-smaller
loop-piece-smaller g c =
    let from = c.requires.begun.0 in
    let on = c.loop-piece.invariant.way from c.requires.begun.1 in
    let room = follow_room c.requires.is_arena.is_world from on.are.map c.loop-piece.piece on.bytes on.are.on in
    let some = inner_bytes c.loop-piece.piece c.loop-piece-test.true in
    let long = g.met.K.KeyWriter.has_len c.loop-piece.key on.bytes on.given in
    omega (arith, room, some, long, c.push_piece.ensures.len)

pub loop-piece-preserved : goal.loop-piece-preserved
loop-piece-preserved g c = record {
  way = λ from begun.
      let on = c.loop-piece.invariant.way from begun in
      record {
        bytes = on.bytes ++ piece_bytes c.loop-piece.piece;
        given = c.push_piece.ensures.has on.bytes on.given;
        are = follow_down c.requires.is_arena.is_world from on.are.map c.loop-piece.piece on.bytes on.are.on
            c.loop-piece.value on.are.entry c.loop-piece-test.true c.in-Level.next.now.map
            (ap node_of c.in-Level.ensures) c.in_ok-entry-in-Level.entry (subst (λ (entry : Option (ℕ × ℕ)). IsFirstEntry c.args.look.side c.in-Level.next.now.map (piece_in entry))
            c.in_ok-entry-in-Level.was c.end.ensures.first) (subst (IsEntryOf c.in-Level.next.now.map) c.in_ok-entry-in-Level.was c.end.ensures.value);
      };
  beyond = by_piece g c.args.key.now c.loop-piece.key c.push_piece.new.key c.loop-piece.piece c.push_piece.ensures.len c.loop-piece.invariant.beyond c.push_piece.ensures.beyond;
}

pub push_to-requires : goal.push_to-requires
push_to-requires g c =
    let from = c.requires.begun.0 in
    let on = c.loop-piece.invariant.way from c.requires.begun.1 in
    let bytes = on.bytes ++ piece_bytes c.loop-piece.piece in
    let room = follow_tail_room c.requires.is_arena.is_world from on.are.map c.loop-piece.piece on.bytes on.are.on
    c.loop-piece.value on.are.entry c.loop-piece-test.true c.in-Tail.tail.0 c.in-Tail.tail.1
    (ap node_of c.in-Tail.ensures) (subst HasText c.in-Tail.ensures (c.requires.is_arena.texts c.loop-piece.value)) in
    let long = g.met.K.KeyWriter.has_len c.push_piece.new.key bytes (c.push_piece.ensures.has on.bytes on.given) in
    omega (arith, room, long)

pub returns-in-Tail : goal.returns-in-Tail
returns-in-Tail g c =
    let child = c.in-Tail.ensures in
    let text = subst HasText child (c.requires.is_arena.texts c.loop-piece.value) in
    let more = by_piece g c.args.key.now c.loop-piece.key c.push_piece.new.key c.loop-piece.piece c.push_piece.ensures.len c.loop-piece.invariant.beyond c.push_piece.ensures.beyond in
    record {
      found = λ from begun.
          let on = c.loop-piece.invariant.way from begun in
          let bytes = on.bytes ++ piece_bytes c.loop-piece.piece in
          let neighbour = follow_tail c.requires.is_arena.is_world from on.are.map c.loop-piece.piece on.bytes on.are.on
          c.loop-piece.value on.are.entry c.loop-piece-test.true c.in-Tail.tail.0 c.in-Tail.tail.1 (ap node_of child) text in
          let place = follow_tail_place c.requires.is_arena.is_world from on.are.map c.loop-piece.piece on.bytes on.are.on
          c.loop-piece.value on.are.entry c.loop-piece-test.true c.in-Tail.tail.0 c.in-Tail.tail.1 (ap node_of child) text in
          record {
            bytes = bytes ++ c.in-Tail.tail.0;
            given = c.push_to.ensures.has bytes (c.push_piece.ensures.has on.bytes on.given);
            are = (rw c.value.ensures neighbour, (neighbour.1, place));
          };
      beyond = stays-beyond g.K.KeyWriter.len g.K.KeyWriter.beyond c.args.key.now c.push_piece.new.key c.push_to.new.key (length c.in-Tail.tail.0) c.push_to.ensures.len more c.push_to.ensures.beyond;
    }

pub push_each-requires : goal.push_each-requires
push_each-requires g c =
    let from = c.requires.begun.0 in
    let on = c.loop-piece.invariant.way from c.requires.begun.1 in
    let room = follow_room c.requires.is_arena.is_world from on.are.map c.loop-piece.piece on.bytes on.are.on in
    let long = g.met.K.KeyWriter.has_len c.loop-piece.key on.bytes on.given in
    omega (arith, room, long)

pub returns : goal.returns
returns g c = record {
  found = λ from begun.
      let on = c.loop-piece.invariant.way from begun in
      let neighbour = follow_last c.requires.is_arena.is_world from on.are.map c.loop-piece.piece on.bytes on.are.on
      c.loop-piece.value (omega arith) on.are.entry in
      let place = follow_place c.requires.is_arena.is_world from on.are.map c.loop-piece.piece on.bytes on.are.on
      c.loop-piece.child c.loop-piece.value on.are.stands (omega arith) on.are.entry in
      record {
        bytes = on.bytes ++ piece_bytes c.loop-piece.piece;
        given = c.push_each.ensures.has on.bytes on.given;
        are = (neighbour, rw c.place_in.ensures (neighbour.1, place));
      };
  beyond = by_piece g c.args.key.now c.loop-piece.key c.push_each.new.key c.loop-piece.piece c.push_each.ensures.len c.loop-piece.invariant.beyond c.push_each.ensures.beyond;
}
