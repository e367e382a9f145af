use Rattle.std.proofs.Common.{[], ◌∷◌, sym, subst}
use Rattle.judy_model.specs.Fields.{bytes, field, checked, done, bad_magic}
use Rattle.judy_model.specs.DumpGrammar as grammar
use Rattle.judy_model.specs.DumpGrammar.{is_magic, version_of}
use Rattle.judy_shelf.specs.Versions.{format_of}
use Rattle.judy_shelf.specs.Reads.{drawn, cause_of, Reads}
use Rattle.judy_shelf.proofs.ReadLemmas.{reads_err, fault_first}
use Rattle.judy_shelf.proofs.HeadLemmas.{version_told}
use Rattle.judy_shelf.proofs.head.read_magic.Goals as goal

pub returns-in_err-read_bytes : goal.returns-in_err-read_bytes
returns-in_err-read_bytes g c =
    let before = drawn (g.R.Source.given c.args.source.now) (g.R.Source.ended c.args.source.now) (g.R.Source.tally c.args.source.now).failures in
    let after = drawn (g.R.Source.given c.read_bytes.new.source) (g.R.Source.ended c.read_bytes.new.source) (g.R.Source.tally c.read_bytes.new.source).failures in
    let fault = c.in_err-read_bytes.field-0.0 in
    reads_err format_of grammar.begins before after fault c.from_residual.result c.from_residual.ensures.1
    (fault_first (field (bytes 4) ((is_magic, bad_magic) ∷ [])) (λ named. done (version_of named)) (cause_of fault) before after
    (fault_first (bytes 4) (checked ((is_magic, bad_magic) ∷ [])) (cause_of fault) before after c.in_err-read_bytes.ensures.read))

pub returns : goal.returns
returns g c =
    let before = drawn (g.R.Source.given c.args.source.now) (g.R.Source.ended c.args.source.now) (g.R.Source.tally c.args.source.now).failures in
    let after = drawn (g.R.Source.given c.read_bytes.new.source) (g.R.Source.ended c.read_bytes.new.source) (g.R.Source.tally c.read_bytes.new.source).failures in
    subst (λ r. Reads format_of grammar.begins before r after) (sym c.ok_or.ensures.value)
    (version_told c.read_bytes.new.room before after c.in_ok-read_bytes.ensures.read c.named_version.result c.named_version.ensures)
