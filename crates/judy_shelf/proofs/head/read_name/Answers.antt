use Rattle.std.proofs.Common.{ℕ, List, [], ◌∷◌, replicate, subst}
use Rattle.std.proofs.lemmas.List.{length-take-le}
use Rattle.judy_model.specs.Fields.{bad_name, number, bytes, field}
use Rattle.judy_model.specs.DumpGrammar.{is_name_length, name_checks}
use Rattle.judy_shelf.specs.Shelves.{store_of}
use Rattle.judy_shelf.specs.Reads.{drawn, Reads}
use Rattle.judy_shelf.proofs.ReadLemmas.{reads_then}
use Rattle.judy_shelf.proofs.head.read_name.Goals as goal

pub returns-clause-read : goal.returns-clause-read
returns-clause-read g c =
    let before = drawn (g.R.Source.given c.args.source.now) (g.R.Source.ended c.args.source.now) (g.R.Source.tally c.args.source.now).failures in
    let mid = drawn (g.R.Source.given c.read_name_len.new.source) (g.R.Source.ended c.read_name_len.new.source) (g.R.Source.tally c.read_name_len.new.source).failures in
    let after = drawn (g.R.Source.given c.read_name_text.new.source) (g.R.Source.ended c.read_name_text.new.source) (g.R.Source.tally c.read_name_text.new.source).failures in
    let len = c.in_ok-len.field-0 in
    let zeros : List ℕ = replicate 32 0 in
    let most = c.in_ok-len.ensures.most in
    reads_then (field (number 1) ((is_name_length, bad_name) ∷ [])) (λ length. field (bytes length) (name_checks (store_of c.args.shelf.now))) len before mid c.in_ok-len.ensures.read
    (λ name. name) after c.read_name_text.result
    (subst (λ n. Reads (λ name. name) (field (bytes n) (name_checks (store_of c.args.shelf.now))) mid c.read_name_text.result after) (length-take-le len zeros most) c.read_name_text.ensures.read)
