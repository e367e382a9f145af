use Rattle.std.proofs.Common.{◌≡◌, ℕ, suc, List, Option, Some, IfSome, sym, ap, ◌∙◌, subst, true≢false}
use Rattle.judy_sl.specs.Arenas.{world_of, node_of, HasText}
use Rattle.judy_sl.specs.Readers.{found_from}
use Rattle.judy_sl.specs.Strings.{IsString}
use Rattle.judy_sl.proofs.lemmas.seats.Linked.{taken_of}
use Rattle.judy_sl.proofs.lemmas.readers.TextSteps.{none_left, texts_left, string_left}
use Rattle.judy_sl.proofs.lemmas.readers.LevelSteps.{tail_back}
use Rattle.judy_sl.proofs.lemmas.readers.Followed.{found_first, follow_none, follow_final, follow_inner, follow_same, follow_other}
use Rattle.judy_sl.proofs.arena.Arena.get_read.Goals as goal

pub returns-in_err-found : goal.returns-in_err-found
returns-in_err-found c =
    let on = c.pieces.invariant in
    c.from_residual.ensures
    ∙ sym (found_first c.args.self.now c.args.reader.left c.string_law.ensures
    ∙ follow_none c.args.self.now c.args.reader.left c.pieces.key.left on.seat c.pieces.level.now.map on.is_level on.found c.in-Some.piece
    (sym c.in-Some.is ∙ c.next_piece.ensures.piece) c.next_piece.ensures.is_string (sym c.get.ensures ∙ c.in_err-found.was))

pub returns-then-piece-eq0 : goal.returns-then-piece-eq0
returns-then-piece-eq0 c =
    let on = c.pieces.invariant in
    sym (found_first c.args.self.now c.args.reader.left c.string_law.ensures
    ∙ follow_final c.args.self.now c.args.reader.left c.pieces.key.left on.seat c.pieces.level.now.map on.is_level on.found c.in-Some.piece
    (sym c.in-Some.is ∙ c.next_piece.ensures.piece) c.next_piece.ensures.is_string c.if-piece-eq0.true c.in_ok-found.found (sym c.get.ensures ∙ c.in_ok-found.was))

pub child-requires : goal.child-requires
child-requires c =
    let on = c.pieces.invariant in
    let fits = on.is_arena.is_world.levels on.seat c.pieces.level.now.map on.is_level in
    taken_of c.args.self.now c.in_ok-found.found (fits.leads c.in-Some.piece c.in_ok-found.found (sym c.get.ensures ∙ c.in_ok-found.was) c.if-piece-eq0.false).1

pub pieces-preserved : goal.pieces-preserved
pieces-preserved c =
    let on = c.pieces.invariant in
    record {
      is_arena = on.is_arena;
      seat = suc c.in_ok-found.found;
      is_level = ap node_of c.in-Level.ensures;
      found = follow_inner c.args.self.now c.args.reader.left c.pieces.key.left on.seat c.pieces.level.now.map on.is_level on.found c.in-Some.piece
          (sym c.in-Some.is ∙ c.next_piece.ensures.piece) c.next_piece.ensures.is_string c.if-piece-eq0.false c.in_ok-found.found (sym c.get.ensures ∙ c.in_ok-found.was)
          c.next_piece.new.self.left c.next_piece.ensures.left;
    }

pub returns-then-meets : goal.returns-then-meets
returns-then-meets c =
    let on = c.pieces.invariant in
    let at = c.in_ok-found.found in
    let tail = c.in-Tail.tail in
    let left = c.next_piece.new.self.left in
    let here = ap node_of c.in-Tail.ensures in
    let own = subst HasText c.in-Tail.ensures (on.is_arena.texts at) in
    let back = tail_back c.args.self.now on.is_arena at tail.0 tail.1 here own c.words.result.now c.words.ensures in
    let same : left ≡ Some tail.0 = c.meets.ensures.0 c.if-meets.true ∙ c.new.ensures ∙ ap (λ (bytes : List ℕ). Some bytes) back in
    ap (λ (value : ℕ). Some value) c.value.ensures
    ∙ sym (found_first c.args.self.now c.args.reader.left c.string_law.ensures
    ∙ follow_inner c.args.self.now c.args.reader.left c.pieces.key.left on.seat c.pieces.level.now.map on.is_level on.found c.in-Some.piece
    (sym c.in-Some.is ∙ c.next_piece.ensures.piece) c.next_piece.ensures.is_string c.if-piece-eq0.false at (sym c.get.ensures ∙ c.in_ok-found.was) left c.next_piece.ensures.left
    ∙ follow_same (world_of c.args.self.now) (suc at) tail.0 tail.1 here left same)

pub returns-else-meets : goal.returns-else-meets
returns-else-meets c =
    let on = c.pieces.invariant in
    let at = c.in_ok-found.found in
    let tail = c.in-Tail.tail in
    let left = c.next_piece.new.self.left in
    let here = ap node_of c.in-Tail.ensures in
    let own = subst HasText c.in-Tail.ensures (on.is_arena.texts at) in
    let back = tail_back c.args.self.now on.is_arena at tail.0 tail.1 here own c.words.result.now c.words.ensures in
    let strings = subst (λ (one : Option (List ℕ)). IfSome one IsString) (sym c.next_piece.ensures.left) (string_left c.pieces.key.left c.next_piece.ensures.is_string) in
    sym (found_first c.args.self.now c.args.reader.left c.string_law.ensures
    ∙ follow_inner c.args.self.now c.args.reader.left c.pieces.key.left on.seat c.pieces.level.now.map on.is_level on.found c.in-Some.piece
    (sym c.in-Some.is ∙ c.next_piece.ensures.piece) c.next_piece.ensures.is_string c.if-piece-eq0.false at (sym c.get.ensures ∙ c.in_ok-found.was) left c.next_piece.ensures.left
    ∙ follow_other (world_of c.args.self.now) (suc at) tail.0 tail.1 here own left (texts_left left strings)
    (λ same. true≢false (sym (c.meets.ensures.1 (same ∙ ap (λ (bytes : List ℕ). Some bytes) (sym back) ∙ sym c.new.ensures)) ∙ c.if-meets.false)))

pub returns : goal.returns
returns c =
    let on = c.pieces.invariant in
    let none = none_left c.pieces.key.left (sym c.in_default.is ∙ c.next_piece.ensures.piece) in
    sym (found_first c.args.self.now c.args.reader.left c.string_law.ensures ∙ on.found ∙ ap (found_from (world_of c.args.self.now) on.seat) none)
