use Rattle.std.proofs.Common.{ℕ, ◌+◌, ◌∙◌, refl, sym, ap, arith, [], length}
use Rattle.std.proofs.lemmas.List.{length-append}
use Rattle.std.specs.FinMap.{FinMap, get}
use Rattle.judy_model.specs.Keys.{word_order}
use Rattle.judy_model.specs.Counts.{by_count}
use Rattle.judy_sl.specs.Pieces.{piece_bytes}
use Rattle.judy_sl.specs.Arenas.{map_of}
use Rattle.judy_sl.proofs.lemmas.places.Nths.{place_some}
use Rattle.judy_sl.proofs.lemmas.places.NthWays.{held_at}
use Rattle.judy_sl.proofs.lemmas.places.NthFirsts.{nth_is, piece_short, before_first, before_fits, first_some, own_final, own_behind, own_fits, own_inner}
use Rattle.judy_sl.proofs.arena.Arena.nth.Goals as goal

pub chosen-mark-requires-clause-some : goal.chosen-mark-requires-clause-some
chosen-mark-requires-clause-some g c = first_some c.requires.is_arena.is_world 0 c.args.self.now.root.map refl c.args.firsts.now c.requires.firsts c.args.place c.requires.within

pub chosen-mark-requires-clause-first : goal.chosen-mark-requires-clause-first
chosen-mark-requires-clause-first g c =
    before_first c.requires.is_arena.is_world 0 c.args.self.now.root.map refl c.args.firsts.now c.requires.firsts
    (first_some c.requires.is_arena.is_world 0 c.args.self.now.root.map refl c.args.firsts.now c.requires.firsts c.args.place c.requires.within)

pub chosen-mark-requires-clause-fits : goal.chosen-mark-requires-clause-fits
chosen-mark-requires-clause-fits g c = before_fits c.requires.is_arena.is_world 0 c.args.self.now.root.map refl c.args.firsts.now c.requires.firsts c.requires.few

pub unreachable-requires : goal.unreachable-requires
unreachable-requires g c =
    place_some c.args.self.now.root.map c.chosen-mark.result.place c.chosen-mark.ensures.within (ap (λ (words : FinMap word_order ℕ). by_count words (c.chosen-mark.result.place + 1))
    (sym c.array.ensures.map) ∙ sym c.in_default.ensures.key)

pub push_piece-requires : goal.push_piece-requires
push_piece-requires g c = let none = g.met.K.KeyWriter.has_len c.args.key.now [] c.requires.none in let short = piece_short c.in-Some.piece in omega (arith, none, short)

pub returns-then-piece-eq0 : goal.returns-then-piece-eq0
returns-then-piece-eq0 g c =
    let mark = c.chosen-mark.result in
    let piece = c.in-Some.piece in
    let value = c.in-Some.value in
    let place = c.args.place in
    let by = ap (λ (words : FinMap word_order ℕ). by_count words (mark.place + 1)) (sym c.array.ensures.map) ∙ sym c.in-Some.ensures.key in
    let held = ap (λ (words : FinMap word_order ℕ). get words piece) (sym c.array.ensures.map) ∙ c.in-Some.ensures.value in
    let given = c.push_piece.ensures.has [] c.requires.none in
    let at = own_final c.requires.is_arena.is_world 0 c.args.self.now.root.map refl c.args.firsts.now c.requires.firsts place c.requires.within mark c.chosen-mark.ensures
    piece value by held c.if-piece-eq0.true in
    record {
      found = record {
        bytes = piece_bytes piece;
        given = given;
        are = record {
          value = value;
          at = nth_is (map_of c.args.self.now) place (piece_bytes piece) value at;
          held = held_at (map_of c.args.self.now) place (piece_bytes piece) value at;
          answer = refl;
        };
      };
      beyond = c.push_piece.ensures.beyond;
    }

pub nth_behind-requires-clause-within : goal.nth_behind-requires-clause-within
nth_behind-requires-clause-within g c =
    own_behind c.requires.is_arena.is_world 0 c.args.self.now.root.map refl c.args.firsts.now c.requires.firsts c.args.place c.requires.within c.chosen-mark.result c.chosen-mark.ensures
    c.in-Some.piece c.in-Some.value (ap (λ (words : FinMap word_order ℕ). by_count words (c.chosen-mark.result.place + 1)) (sym c.array.ensures.map) ∙ sym c.in-Some.ensures.key)
    (ap (λ (words : FinMap word_order ℕ). get words c.in-Some.piece) (sym c.array.ensures.map) ∙ c.in-Some.ensures.value) c.if-piece-eq0.false

pub nth_behind-requires-clause-begun : goal.nth_behind-requires-clause-begun
nth_behind-requires-clause-begun g c =
    let mark = c.chosen-mark.result in
    let piece = c.in-Some.piece in
    let value = c.in-Some.value in
    let place = c.args.place in
    let by = ap (λ (words : FinMap word_order ℕ). by_count words (mark.place + 1)) (sym c.array.ensures.map) ∙ sym c.in-Some.ensures.key in
    let held = ap (λ (words : FinMap word_order ℕ). get words piece) (sym c.array.ensures.map) ∙ c.in-Some.ensures.value in
    let given = c.push_piece.ensures.has [] c.requires.none in
    let fits = own_fits c.requires.is_arena.is_world 0 c.args.self.now.root.map refl c.args.firsts.now c.requires.firsts place c.requires.within mark c.chosen-mark.ensures
    piece value by held c.if-piece-eq0.false (piece_bytes piece) refl in
    (piece_bytes piece, fits, given)

pub returns : goal.returns
returns g c =
    let mark = c.chosen-mark.result in
    let piece = c.in-Some.piece in
    let value = c.in-Some.value in
    let place = c.args.place in
    let by = ap (λ (words : FinMap word_order ℕ). by_count words (mark.place + 1)) (sym c.array.ensures.map) ∙ sym c.in-Some.ensures.key in
    let held = ap (λ (words : FinMap word_order ℕ). get words piece) (sym c.array.ensures.map) ∙ c.in-Some.ensures.value in
    let given = c.push_piece.ensures.has [] c.requires.none in
    let fits = own_fits c.requires.is_arena.is_world 0 c.args.self.now.root.map refl c.args.firsts.now c.requires.firsts place c.requires.within mark c.chosen-mark.ensures
    piece value by held c.if-piece-eq0.false (piece_bytes piece) refl in
    let got = c.nth_behind.ensures.found (piece_bytes piece) fits given in
    let at = own_inner c.requires.is_arena.is_world 0 c.args.self.now.root.map refl c.args.firsts.now c.requires.firsts place c.requires.within mark c.chosen-mark.ensures
    piece value by held c.if-piece-eq0.false (piece_bytes piece) got.bytes c.nth_behind.result refl got.are in
    let none = g.met.K.KeyWriter.has_len c.args.key.now [] c.requires.none in
    let long = g.met.K.KeyWriter.has_len c.nth_behind.new.key got.bytes got.given in
    let parts = ap length got.are.bytes ∙ length-append (piece_bytes piece) got.are.rest in
    record {
      found = record {
        bytes = got.bytes;
        given = got.given;
        are = record {
          value = got.are.value;
          at = nth_is (map_of c.args.self.now) place got.bytes got.are.value at;
          held = held_at (map_of c.args.self.now) place got.bytes got.are.value at;
          answer = got.are.answer;
        };
      };
      beyond = λ place behind.
          c.nth_behind.ensures.beyond place behind ∙ c.push_piece.ensures.beyond place (omega (arith, behind, long, parts, none, c.push_piece.ensures.len));
    }
