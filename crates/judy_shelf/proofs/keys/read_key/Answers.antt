use Rattle.std.proofs.Common.{◌≡◌, ℕ, Bool, List, [], ◌∷◌, ◌++◌, length, take, drop, nat_le, sym, subst, ◌∙◌, arith}
use Rattle.std.proofs.lemmas.List.{length-take-le, take_at}
use Rattle.judy_model.specs.Fields.{Flaw, bad_key, bytes, number, field}
use Rattle.judy_model.specs.DumpGrammar as grammar
use Rattle.judy_model.specs.declared.keys.TheConstants.{LONGEST_KEY}
use Rattle.judy_shelf.specs.Reads.{drawn, cause_of, Nowhere, ReadsValue, ReadsFault}
use Rattle.judy_shelf.proofs.ReadLemmas.{reads_err, fault_then, value_then}
use Rattle.judy_shelf.proofs.keys.read_key.Goals as goal

abbrev checks : List ((ℕ → Bool) × Flaw)
checks = ((λ length. nat_le length LONGEST_KEY), bad_key) ∷ []

pub returns-in_err-read_bytes-clause-read : goal.returns-in_err-read_bytes-clause-read
returns-in_err-read_bytes-clause-read g c =
    let before = drawn (g.R.Source.given c.args.source.now) (g.R.Source.ended c.args.source.now) (g.R.Source.tally c.args.source.now).failures in
    let mid = drawn (g.R.Source.given c.read_key_len.new.source) (g.R.Source.ended c.read_key_len.new.source) (g.R.Source.tally c.read_key_len.new.source).failures in
    let after = drawn (g.R.Source.given c.read_bytes.new.source) (g.R.Source.ended c.read_bytes.new.source) (g.R.Source.tally c.read_bytes.new.source).failures in
    let len = c.in_ok-len.field-0 in
    let fault = c.in_err-read_bytes.field-0.0 in
    let most = c.in_ok-len.ensures.most in
    let long : length (take len c.args.room.now) ≡ len = length-take-le len c.args.room.now (omega (arith, most, c.requires.fits)) in
    reads_err _ grammar.string before after fault c.from_residual-in_err-read_bytes.result c.from_residual-in_err-read_bytes.ensures.1
    (fault_then (field (number 2) checks) (λ length. bytes length) len before mid c.in_ok-len.ensures.read (cause_of fault) after
    (subst (λ n. ReadsFault Nowhere (bytes n) (cause_of fault) mid after) long c.in_err-read_bytes.ensures.read))

pub returns-clause-read : goal.returns-clause-read
returns-clause-read g c =
    let before = drawn (g.R.Source.given c.args.source.now) (g.R.Source.ended c.args.source.now) (g.R.Source.tally c.args.source.now).failures in
    let mid = drawn (g.R.Source.given c.read_key_len.new.source) (g.R.Source.ended c.read_key_len.new.source) (g.R.Source.tally c.read_key_len.new.source).failures in
    let after = drawn (g.R.Source.given c.read_bytes.new.source) (g.R.Source.ended c.read_bytes.new.source) (g.R.Source.tally c.read_bytes.new.source).failures in
    let len = c.in_ok-len.field-0 in
    let piece = c.read_bytes.new.room in
    let most = c.in_ok-len.ensures.most in
    let long : length (take len c.args.room.now) ≡ len = length-take-le len c.args.room.now (omega (arith, most, c.requires.fits)) in
    let same : length piece ≡ len = c.in_ok-read_bytes.ensures.len ∙ long in
    let shown : piece ≡ take len (piece ++ drop len c.args.room.now) = sym (take_at piece (drop len c.args.room.now) len same) in
    subst (λ key. ReadsValue grammar.string key before after) shown
    (value_then (field (number 2) checks) (λ length. bytes length) len before mid c.in_ok-len.ensures.read piece after
    (subst (λ n. ReadsValue (bytes n) piece mid after) long c.in_ok-read_bytes.ensures.read))
