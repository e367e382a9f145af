use Rattle.std.proofs.Common.{◌≡◌, ◌+◌, ◌∙◌, ◌++◌, ℕ, List, Option, length, sym, ap, arith, subst, refl}
use Rattle.judy_tails.specs.Writers.{StaysBeyond}
use Rattle.judy_tails.proofs.Writing.{stays-beyond}
use Rattle.judy_sl.specs.Pieces.{piece_bytes}
use Rattle.judy_sl.specs.Arenas.{world_of, node_of, HasText}
use Rattle.judy_sl.proofs.lemmas.seats.Linked.{taken_of}
use Rattle.judy_sl.proofs.lemmas.pieces.PieceBytes.{inner_bytes}
use Rattle.judy_sl.proofs.lemmas.scans.ScanEnds.{follow_room, follow_last, follow_on, follow_tail_room, follow_tail, follow_some}
use Rattle.judy_sl.proofs.lemmas.scans.LevelEntries.{none_of_all}
use Rattle.judy_sl.proofs.lemmas.scans.RunWays.{Climbing, climb_start, climb_leads, climb_down, climb_last, climb_tail}
use Rattle.judy_sl.proofs.arena.Arena.climb.Goals as goal
use Rattle.judy_sl.proofs.arena.Arena.climb.Given.{Over}

-- What a level has of its own.
own_is : {one other : List (ℕ × ℕ) × Option (List (ℕ × ℕ))} → one ≡ other → one.0 ≡ other.0
own_is is = ap (λ (both : List (ℕ × ℕ) × Option (List (ℕ × ℕ))). both.0) is

pub loop-piece-init : goal.loop-piece-init
loop-piece-init g c = record {
  way = λ from begun. record {
    bytes = _;
    given = begun.given;
    are = climb_start c.args.itself (world_of c.args.self.now) from c.args.entry c.args.above.now.items c.args.last.now g.K.KeyWriter.has c.args.key.now begun;
  };
  beyond = λ place behind. refl;
}

-- What lies beyond the key stays while it grows by a piece.
by_piece : (g : Over) (first middle last : g.row.K.Denot) (piece : ℕ) → g.K.KeyWriter.len last ≡ g.K.KeyWriter.len middle + length (piece_bytes piece) →
    StaysBeyond g.K.KeyWriter.len g.K.KeyWriter.beyond first middle → StaysBeyond g.K.KeyWriter.len g.K.KeyWriter.beyond middle last →
    StaysBeyond g.K.KeyWriter.len g.K.KeyWriter.beyond first last
by_piece g first middle last piece = stays-beyond g.K.KeyWriter.len g.K.KeyWriter.beyond first middle last (length (piece_bytes piece))

pub push_piece-requires : goal.push_piece-requires
push_piece-requires g c =
    let from = c.requires.begun.0 in
    let on = c.loop-piece.invariant.way from c.requires.begun.1 in
    let room = follow_room c.requires.is_arena.is_world from c.loop-piece.last.run.level.now.map c.loop-piece.piece on.bytes on.are.on in
    let long = g.met.K.KeyWriter.has_len c.loop-piece.key on.bytes on.given in
    omega (arith, room, long)

pub loop-piece-smaller : goal.loop-piece-smaller
loop-piece-smaller g c =
    let from = c.requires.begun.0 in
    let on = c.loop-piece.invariant.way from c.requires.begun.1 in
    let room = follow_room c.requires.is_arena.is_world from c.loop-piece.last.run.level.now.map c.loop-piece.piece on.bytes on.are.on in
    let some = inner_bytes c.loop-piece.piece c.loop-piece-test.true in
    let long = g.met.K.KeyWriter.has_len c.loop-piece.key on.bytes on.given in
    omega (arith, room, some, long, c.push_piece.ensures.len)

pub child-requires : goal.child-requires
child-requires g c =
    let from = c.requires.begun.0 in
    let on = c.loop-piece.invariant.way from c.requires.begun.1 in
    taken_of c.args.self.now c.loop-piece.value (follow_on c.requires.is_arena.is_world from c.loop-piece.last.run.level.now.map c.loop-piece.piece on.bytes on.are.on
    c.loop-piece.value on.are.entry c.loop-piece-test.true)

pub push_each-requires : goal.push_each-requires
push_each-requires g c =
    let from = c.requires.begun.0 in
    let on = c.loop-piece.invariant.way from c.requires.begun.1 in
    let room = follow_room c.requires.is_arena.is_world from c.loop-piece.last.run.level.now.map c.loop-piece.piece on.bytes on.are.on in
    let long = g.met.K.KeyWriter.has_len c.loop-piece.key on.bytes on.given in
    omega (arith, room, long)

pub returns : goal.returns
returns g c = record {
  climbed = λ from begun.
      let on = c.loop-piece.invariant.way from begun in
      record {
        bytes = on.bytes ++ piece_bytes c.loop-piece.piece;
        given = c.push_each.ensures.has on.bytes on.given;
        are = (
          follow_last c.requires.is_arena.is_world from c.loop-piece.last.run.level.now.map c.loop-piece.piece on.bytes on.are.on c.loop-piece.value (omega arith) on.are.entry,
          climb_last c.requires.is_arena.is_world on.are c.loop-piece.last.run.level refl (omega arith),
        );
      };
  leads = climb_leads c.requires.is_arena.is_world (c.loop-piece.invariant.way c.requires.begun.0 c.requires.begun.1).are;
  beyond = by_piece g c.args.key.now c.loop-piece.key c.push_each.new.key c.loop-piece.piece c.push_each.ensures.len c.loop-piece.invariant.beyond c.push_each.ensures.beyond;
}

pub returns-in_err-first-in-Level : goal.returns-in_err-first-in-Level
returns-in_err-first-in-Level g c =
    let from = c.requires.begun.0 in
    let on = c.loop-piece.invariant.way from c.requires.begun.1 in
    absurd (follow_some c.requires.is_arena.is_world from c.loop-piece.last.run.level.now.map c.loop-piece.piece on.bytes on.are.on
    c.loop-piece.value on.are.entry c.loop-piece-test.true c.in-Level.next.now.map (ap node_of c.in-Level.ensures)
    (none_of_all c.in-Level.next.now.map (sym (own_is c.go_down.ensures) ∙ c.in_err-first-in-Level.ensures.steps.0)))

pub loop-piece-preserved : goal.loop-piece-preserved
loop-piece-preserved g c = record {
  way = λ from begun.
      let on = c.loop-piece.invariant.way from begun in
      let child = c.in-Level.ensures in
      let kept = c.next.ensures.above ∙ ap (λ (both : List (ℕ × ℕ) × Option (List (ℕ × ℕ))). both.1) c.go_down.ensures in
      record {
        bytes = on.bytes ++ piece_bytes c.loop-piece.piece;
        given = c.push_piece.ensures.has on.bytes on.given;
        are = subst (λ (left : Option (List (ℕ × ℕ))). Climbing c.args.itself
            (world_of c.args.self.now) from c.in_ok-first-in-Level.first.0 c.in_ok-first-in-Level.first.1 (on.bytes ++ piece_bytes c.loop-piece.piece)
            c.keep_above.new.above.items c.in-Level.next.now.map (c.next.new.self.0, left) c.keep_above.new.known) (sym kept)
            (climb_down c.requires.is_arena.is_world on.are c.loop-piece.last.run.level refl c.keep_above.new.above.items c.keep_above.new.known c.keep_above.ensures
            c.in-Level.next.now.map c.loop-piece-test.true
            (ap node_of child) c.in_ok-first-in-Level.first c.next.new.self.0 (sym (own_is c.go_down.ensures) ∙ c.in_ok-first-in-Level.ensures.steps));
      };
  beyond = by_piece g c.args.key.now c.loop-piece.key c.push_piece.new.key c.loop-piece.piece c.push_piece.ensures.len c.loop-piece.invariant.beyond c.push_piece.ensures.beyond;
}

pub push_to-requires : goal.push_to-requires
push_to-requires g c =
    let from = c.requires.begun.0 in
    let on = c.loop-piece.invariant.way from c.requires.begun.1 in
    let bytes = on.bytes ++ piece_bytes c.loop-piece.piece in
    let room = follow_tail_room c.requires.is_arena.is_world from c.loop-piece.last.run.level.now.map c.loop-piece.piece on.bytes on.are.on
    c.loop-piece.value on.are.entry c.loop-piece-test.true c.in-Tail.tail.0 c.in-Tail.tail.1 (ap node_of c.in-Tail.ensures)
    (subst HasText c.in-Tail.ensures (c.requires.is_arena.texts c.loop-piece.value)) in
    let long = g.met.K.KeyWriter.has_len c.push_piece.new.key bytes (c.push_piece.ensures.has on.bytes on.given) in
    omega (arith, room, long)

pub returns-in-Tail : goal.returns-in-Tail
returns-in-Tail g c =
    let child = c.in-Tail.ensures in
    let text = subst HasText child (c.requires.is_arena.texts c.loop-piece.value) in
    let more = by_piece g c.args.key.now c.loop-piece.key c.push_piece.new.key c.loop-piece.piece c.push_piece.ensures.len c.loop-piece.invariant.beyond c.push_piece.ensures.beyond in
    record {
      climbed = λ from begun.
          let on = c.loop-piece.invariant.way from begun in
          let bytes = on.bytes ++ piece_bytes c.loop-piece.piece in
          record {
            bytes = bytes ++ c.in-Tail.tail.0;
            given = c.push_to.ensures.has bytes (c.push_piece.ensures.has on.bytes on.given);
            are = (
              rw c.value.ensures (follow_tail c.requires.is_arena.is_world from c.loop-piece.last.run.level.now.map c.loop-piece.piece on.bytes on.are.on
                  c.loop-piece.value on.are.entry c.loop-piece-test.true c.in-Tail.tail.0 c.in-Tail.tail.1 (ap node_of child) text),
              climb_tail c.requires.is_arena.is_world on.are c.loop-piece.last.run.level refl c.in-Tail.tail.0 c.in-Tail.tail.1 c.loop-piece-test.true (ap node_of child) text,
            );
          };
      leads = climb_leads c.requires.is_arena.is_world (c.loop-piece.invariant.way c.requires.begun.0 c.requires.begun.1).are;
      beyond = stays-beyond g.K.KeyWriter.len g.K.KeyWriter.beyond c.args.key.now c.push_piece.new.key c.push_to.new.key (length c.in-Tail.tail.0) c.push_to.ensures.len more c.push_to.ensures.beyond;
    }
