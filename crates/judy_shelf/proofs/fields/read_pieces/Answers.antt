use Rattle.std.proofs.Common.{◌≡◌, ◌-◌, ◌+◌, ◌≤◌, ◌<◌, length, take, drop, ap, subst, sym, ◌∙◌, arith, length-drop, List, ℕ, refl, All, [], Ok, true, ◌==◌, ◌&&◌, nat_lt}
use Rattle.std.proofs.lemmas.List.{take_rest, take_all}
use Rattle.std.proofs.lemmas.List.Elements.{All-take, All-nil}
use Rattle.std.proofs.lemmas.Bool.{lt-ltb}
use Rattle.judy_pipe.specs.declared.stop.PipeFailed.{PipeFailed}
use Rattle.judy_pipe.specs.Pipe.{grown, told, gave_end}
use Rattle.judy_pipe.proofs.Moves.{grown-grown}
use Rattle.judy_model.specs.Fields.{bytes}
use Rattle.judy_shelf.specs.declared.fault.LoadFault.TheVariants.{Read}
use Rattle.judy_shelf.specs.Reads.{drawn}
use Rattle.judy_shelf.proofs.ReadLemmas.{reads_err}
use Rattle.judy_shelf.proofs.Rooms.{bytes_from_each, filled_long, filled_more, within_room, room_cut, room_broken, room_full}
use Rattle.judy_shelf.proofs.WriteLemmas.{grown_nothing}
use borrow.Rule.Slice.PartMut.{put_mid}
use Rattle.judy_shelf.proofs.fields.read_pieces.Goals as goal

left : (room : List ℕ) (filled : ℕ) → length (take (length room - filled) (drop filled room)) ≡ length room - filled
left room filled = rw take_rest (length-drop filled room)

pub loop-filled-init : goal.loop-filled-init
loop-filled-init g c = record {
  within = omega arith;
  long = refl;
  given = sym (grown_nothing (g.R.Source.given c.args.source.now));
  bytes = All-nil (λ byte. byte < 256);
  failures = refl;
}

pub returns-in-0-clause-read : goal.returns-in-0-clause-read
returns-in-0-clause-read g c =
    let room = c.loop-filled.room in
    let filled = c.loop-filled.filled in
    let before = drawn (g.R.Source.given c.args.source.now) (g.R.Source.ended c.args.source.now) (g.R.Source.tally c.args.source.now).failures in
    let after = drawn (g.R.Source.given c.read_some.new.source) (g.R.Source.ended c.read_some.new.source) (g.R.Source.tally c.read_some.new.source).failures in
    let count : c.in_ok-count.count ≡ 0 = c.in-0.is in
    let none : take c.in_ok-count.count c.read_some.new.room ≡ [] = ap (λ n. take n c.read_some.new.room) count in
    let given = c.in_ok-count.ensures.given ∙ ap (grown (g.R.Source.given c.loop-filled.source)) none ∙ grown_nothing (g.R.Source.given c.loop-filled.source) ∙ c.loop-filled.invariant.given in
    let whole = left room filled in
    let inside : filled < length room = c.loop-filled-test.true in
    let some : 0 < length (take (length room - filled) (drop filled room)) = omega arith in
    let end : gave_end {E = PipeFailed} (Ok c.in_ok-count.count) (length (take (length room - filled) (drop filled room))) ≡ true =
    (λ t. (count t == 0) && nat_lt 0 (length (take (length room - filled) (drop filled room)))) ∙ lt-ltb 0 (length (take (length room - filled) (drop filled room))) some in
    room_cut room filled before after given c.loop-filled.invariant.bytes (g.R.Source.ended c.loop-filled.source) (length c.args.room.now)
    (subst (λ n. filled < n) c.loop-filled.invariant.long inside) c.loop-filled.invariant.within (c.in_ok-count.ensures.ended ∙ ap (told (g.R.Source.ended c.loop-filled.source)) end)
    (c.in_ok-count.ensures.failures ∙ c.loop-filled.invariant.failures)

pub loop-filled-preserved : goal.loop-filled-preserved
loop-filled-preserved g c =
    let room = c.loop-filled.room in
    let filled = c.loop-filled.filled in
    let piece = c.read_some.new.room in
    let whole = left room filled in
    let long : length piece ≡ length room - filled = c.read_some.auto.room ∙ whole in
    let inside = c.loop-filled.invariant.within in
    let few : c.in_ok-count.count ≤ length piece = subst (λ n. c.in_ok-count.count ≤ n) (sym c.read_some.auto.room) c.in_ok-count.ensures.count in
    let all = put_mid filled (length room - filled) room piece in
    record {
      within = within_room filled c.in_ok-count.count room piece inside long few;
      long = filled_long filled c.in_ok-count.count room piece inside long ∙ c.loop-filled.invariant.long;
      given =
          c.in_ok-count.ensures.given ∙ ap (λ known. grown known (take c.in_ok-count.count piece)) c.loop-filled.invariant.given ∙
          grown-grown (g.R.Source.given c.args.source.now) (take filled room) (take c.in_ok-count.count piece) ∙
          ap (grown (g.R.Source.given c.args.source.now)) (sym (filled_more filled c.in_ok-count.count room piece inside long few));
      bytes = All-take (λ byte. byte < 256) (filled + c.in_ok-count.count) all (bytes_from_each all (λ i. let f = c.type_inv.room i in omega (arith, f)));
      failures = c.in_ok-count.ensures.failures ∙ c.loop-filled.invariant.failures;
    }

pub returns-in_err-count-clause-read : goal.returns-in_err-count-clause-read
returns-in_err-count-clause-read g c =
    let before = drawn (g.R.Source.given c.args.source.now) (g.R.Source.ended c.args.source.now) (g.R.Source.tally c.args.source.now).failures in
    let after = drawn (g.R.Source.given c.read_some.new.source) (g.R.Source.ended c.read_some.new.source) (g.R.Source.tally c.read_some.new.source).failures in
    reads_err _ (bytes (length c.args.room.now)) before after Read c.from_residual.result c.from_residual.ensures.1 (
    room_broken c.loop-filled.room c.loop-filled.filled before after (c.in_err-count.ensures.given ∙ grown_nothing (g.R.Source.given c.loop-filled.source) ∙ c.loop-filled.invariant.given)
    c.loop-filled.invariant.bytes (length c.args.room.now)
    (subst (λ n. c.loop-filled.filled < n) c.loop-filled.invariant.long c.loop-filled-test.true) c.loop-filled.invariant.within
    (c.in_err-count.ensures.failures ∙ ap (λ n. n + 1) c.loop-filled.invariant.failures)
    )

pub returns-clause-read : goal.returns-clause-read
returns-clause-read g c =
    let room = c.loop-filled.room in
    let before = drawn (g.R.Source.given c.args.source.now) (g.R.Source.ended c.args.source.now) (g.R.Source.tally c.args.source.now).failures in
    let after = drawn (g.R.Source.given c.loop-filled.source) (g.R.Source.ended c.loop-filled.source) (g.R.Source.tally c.loop-filled.source).failures in
    let full : take c.loop-filled.filled room ≡ room = take_all c.loop-filled.filled room (omega arith) in
    room_full room (length c.args.room.now) before after (c.loop-filled.invariant.given ∙ ap (grown (g.R.Source.given c.args.source.now)) full)
    (subst (All (λ byte. byte < 256)) full c.loop-filled.invariant.bytes) c.loop-filled.invariant.long c.loop-filled.invariant.failures
