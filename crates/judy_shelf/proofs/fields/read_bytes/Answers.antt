use Rattle.std.proofs.Common.{◌≡◌, ◌-◌, ◌+◌, ◌≤◌, length, take, drop, ap, subst, sym, ◌∙◌, arith, ◌<◌, ◌++◌, All, [], refl, length-drop}
use Rattle.std.proofs.lemmas.Bool.{eqb-true}
use Rattle.std.proofs.lemmas.List.{take_all, take_at, take_rest, length-take-le}
use Rattle.std.proofs.lemmas.List.Elements.{All-take, All-nil}
use borrow.Rule.Slice.PartMut.{put_mid}
use Rattle.judy_model.specs.Fields.{bytes}
use Rattle.judy_pipe.specs.Pipe.{grown}
use Rattle.judy_shelf.specs.Reads.{drawn, Reads, ReadsValue}
use Rattle.judy_shelf.proofs.Rooms.{bytes_from_each, room_full}
use Rattle.judy_shelf.proofs.PieceReads.{end_filled, piece_read, left_read}
use Rattle.judy_shelf.proofs.WriteLemmas.{grown_nothing}
use Rattle.judy_shelf.proofs.fields.read_bytes.Goals as goal

pub returns-then-is_empty-clause-read : goal.returns-then-is_empty-clause-read
returns-then-is_empty-clause-read g c =
    let room = c.args.room.now in
    let now = drawn (g.R.Source.given c.args.source.now) (g.R.Source.ended c.args.source.now) (g.R.Source.tally c.args.source.now).failures in
    let empty = eqb-true (length room) 0 (sym c.is_empty.ensures ∙ c.if-is_empty.true) in
    let none : room ≡ [] = sym (take_all 0 room (omega arith)) in
    subst (λ r. ReadsValue (bytes (length r)) r now now) (sym none) (room_full [] 0 now now (sym (grown_nothing now.given)) (All-nil (λ byte. byte < 256)) refl refl)

pub returns-in_default-clause-read : goal.returns-in_default-clause-read
returns-in_default-clause-read g c =
    let room = c.read_some.new.room in
    let before = drawn (g.R.Source.given c.args.source.now) (g.R.Source.ended c.args.source.now) (g.R.Source.tally c.args.source.now).failures in
    let after = drawn (g.R.Source.given c.read_some.new.source) (g.R.Source.ended c.read_some.new.source) (g.R.Source.tally c.read_some.new.source).failures in
    let all : c.in_ok-count.count ≡ length room = c.if-count-room.true in
    let full : take c.in_ok-count.count room ≡ room = take_all c.in_ok-count.count room (omega arith) in
    room_full room (length c.args.room.now) before after (c.in_ok-count.ensures.given ∙ ap (grown (g.R.Source.given c.args.source.now)) full)
    (bytes_from_each room (λ i. let f = c.type_inv.room i in omega (arith, f))) c.read_some.auto.room c.in_ok-count.ensures.failures

pub returns-in_default-2-clause-read : goal.returns-in_default-2-clause-read
returns-in_default-2-clause-read g c =
    let room = c.read_some.new.room in
    let piece = c.read_pieces.new.room in
    let count = c.in_ok-count.count in
    let left = length room - count in
    let before = drawn (g.R.Source.given c.args.source.now) (g.R.Source.ended c.args.source.now) (g.R.Source.tally c.args.source.now).failures in
    let mid = drawn (g.R.Source.given c.read_some.new.source) (g.R.Source.ended c.read_some.new.source) (g.R.Source.tally c.read_some.new.source).failures in
    let after = drawn (g.R.Source.given c.read_pieces.new.source) (g.R.Source.ended c.read_pieces.new.source) (g.R.Source.tally c.read_pieces.new.source).failures in
    let same : length room ≡ length c.args.room.now = c.read_some.auto.room in
    let within : count ≤ length room = subst (λ n. count ≤ n) (sym same) c.in_ok-count.ensures.count in
    let rest : length (take left (drop count room)) ≡ left = rw take_rest (length-drop count room) in
    let long : length piece ≡ left = c.read_pieces.ensures.len ∙ rest in
    let front : length (take count room) ≡ count = length-take-le count room within in
    let total : count + left ≡ length c.args.room.now = omega arith in
    let filled = end_filled count room piece within long in
    let all = bytes_from_each (put_mid count left room piece) (λ i. let f = c.type_inv.room i in omega (arith, f)) in
    let are = subst (All (λ byte. byte < 256)) (take_at (take count room) piece count front) (All-take (λ byte. byte < 256) count (take count room ++ piece)
    (subst (All (λ byte. byte < 256)) filled all)) in
    let far = piece_read (take count room) count left front before mid c.in_ok-count.ensures.given are c.in_ok-count.ensures.failures in
    let read = left_read (take count room) count left front piece before mid after c.read_pieces.result far
    (subst (λ n. Reads (λ _. piece) (bytes n) mid c.read_pieces.result after) rest c.read_pieces.ensures.read) in
    subst (λ n. Reads (λ _. put_mid count left room piece) (bytes n) before c.read_pieces.result after) total
    (subst (λ r. Reads (λ _. r) (bytes (count + left)) before c.read_pieces.result after) (sym filled) read)
