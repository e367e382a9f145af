use Rattle.std.proofs.Common.{sym, subst, ◌∙◌, arith}
use Rattle.judy_model.specs.DumpGrammar as grammar
use Rattle.judy_shelf.specs.Reads.{drawn, cause_of, Nowhere, ReadsValue, ReadsFault}
use Rattle.judy_shelf.proofs.ReadLemmas.{reads_err}
use Rattle.judy_shelf.proofs.KeyReads.{suffix_field, rest_stopped, suffix_stopped, front_and_suffix, room_of_rest, key_in_room}
use Rattle.judy_shelf.proofs.fronts.read_string_behind_front.Goals as goal

pub returns-in_err-rest-clause-read : goal.returns-in_err-rest-clause-read
returns-in_err-rest-clause-read g c =
    let was = drawn (g.R.Source.given c.args.source.now) (g.R.Source.ended c.args.source.now) (g.R.Source.tally c.args.source.now).failures in
    let one = drawn (g.R.Source.given c.read_shared_len.new.source) (g.R.Source.ended c.read_shared_len.new.source) (g.R.Source.tally c.read_shared_len.new.source).failures in
    let two = drawn (g.R.Source.given c.read_rest_len.new.source) (g.R.Source.ended c.read_rest_len.new.source) (g.R.Source.tally c.read_rest_len.new.source).failures in
    let before = c.args.before.now in
    let fault = c.in_err-rest.field-0.0 in
    reads_err _ (grammar.string_behind_front before) was two fault c.from_residual-in_err-rest.result c.from_residual-in_err-rest.ensures.1
    (rest_stopped before c.in_ok-shared.field-0 was one c.in_ok-shared.ensures.read (cause_of fault) two c.in_err-rest.ensures.read)

pub returns-in_err-read_suffix-clause-read : goal.returns-in_err-read_suffix-clause-read
returns-in_err-read_suffix-clause-read g c =
    let was = drawn (g.R.Source.given c.args.source.now) (g.R.Source.ended c.args.source.now) (g.R.Source.tally c.args.source.now).failures in
    let one = drawn (g.R.Source.given c.read_shared_len.new.source) (g.R.Source.ended c.read_shared_len.new.source) (g.R.Source.tally c.read_shared_len.new.source).failures in
    let two = drawn (g.R.Source.given c.read_rest_len.new.source) (g.R.Source.ended c.read_rest_len.new.source) (g.R.Source.tally c.read_rest_len.new.source).failures in
    let three = drawn (g.R.Source.given c.read_suffix.new.source) (g.R.Source.ended c.read_suffix.new.source) (g.R.Source.tally c.read_suffix.new.source).failures in
    let before = c.args.before.now in
    let shared = c.in_ok-shared.field-0 in
    let rest = c.in_ok-rest.field-0 in
    let inside = c.in_ok-shared.ensures.most in
    let fits = c.in_ok-rest.ensures.most in
    let long = room_of_rest shared rest before c.args.room.now c.copy_from_slice.new.self c.copy_from_slice.ensures.after inside (omega (arith, fits, c.requires.fits)) in
    let fault = c.in_err-read_suffix.field-0.0 in
    reads_err _ (grammar.string_behind_front before) was three fault c.from_residual-in_err-read_suffix.result c.from_residual-in_err-read_suffix.ensures.1
    (suffix_stopped before shared was one c.in_ok-shared.ensures.read rest two c.in_ok-rest.ensures.read three (cause_of fault)
    (subst (λ n. ReadsFault Nowhere (suffix_field before shared n) (cause_of fault) two three) long c.in_err-read_suffix.ensures.read))

pub returns-clause-read : goal.returns-clause-read
returns-clause-read g c =
    let was = drawn (g.R.Source.given c.args.source.now) (g.R.Source.ended c.args.source.now) (g.R.Source.tally c.args.source.now).failures in
    let one = drawn (g.R.Source.given c.read_shared_len.new.source) (g.R.Source.ended c.read_shared_len.new.source) (g.R.Source.tally c.read_shared_len.new.source).failures in
    let two = drawn (g.R.Source.given c.read_rest_len.new.source) (g.R.Source.ended c.read_rest_len.new.source) (g.R.Source.tally c.read_rest_len.new.source).failures in
    let three = drawn (g.R.Source.given c.read_suffix.new.source) (g.R.Source.ended c.read_suffix.new.source) (g.R.Source.tally c.read_suffix.new.source).failures in
    let before = c.args.before.now in
    let shared = c.in_ok-shared.field-0 in
    let rest = c.in_ok-rest.field-0 in
    let inside = c.in_ok-shared.ensures.most in
    let fits = c.in_ok-rest.ensures.most in
    let front = c.copy_from_slice.new.self in
    let suffix = c.read_suffix.new.suffix in
    let long = room_of_rest shared rest before c.args.room.now front c.copy_from_slice.ensures.after inside (omega (arith, fits, c.requires.fits)) in
    let shown = key_in_room shared rest before c.args.room.now front c.copy_from_slice.ensures.after inside suffix (c.in_ok-read_suffix.ensures.len ∙ long) in
    subst (λ key. ReadsValue (grammar.string_behind_front before) key was three) (sym shown)
    (front_and_suffix before shared was one c.in_ok-shared.ensures.read rest two c.in_ok-rest.ensures.read three suffix
    (subst (λ n. ReadsValue (suffix_field before shared n) suffix two three) long c.in_ok-read_suffix.ensures.read))
