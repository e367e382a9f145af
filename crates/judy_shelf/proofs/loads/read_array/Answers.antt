use Rattle.judy_model.specs.Fields.{◌>>=◌, done}
use Rattle.judy_model.specs.DumpGrammar as grammar
use Rattle.judy_shelf.specs.Arrays.{value_of}
use Rattle.judy_shelf.specs.Shelves.{store_of}
use Rattle.judy_shelf.specs.Versions.{format_of}
use Rattle.judy_shelf.specs.Reads.{drawn, cause_of, InBody, InArray}
use Rattle.judy_shelf.proofs.ReadLemmas.{reads_err, fault_within, fault_behind, begins_then, value_then, value_done}
use Rattle.judy_shelf.proofs.loads.read_array.Goals as goal

pub returns-in_err-array-clause-read : goal.returns-in_err-array-clause-read
returns-in_err-array-clause-read g c =
    let before = drawn (g.R.Source.given c.args.source.now) (g.R.Source.ended c.args.source.now) (g.R.Source.tally c.args.source.now).failures in
    let one = drawn (g.R.Source.given c.read_name.new.source) (g.R.Source.ended c.read_name.new.source) (g.R.Source.tally c.read_name.new.source).failures in
    let two = drawn (g.R.Source.given c.read_body.new.source) (g.R.Source.ended c.read_body.new.source) (g.R.Source.tally c.read_body.new.source).failures in
    let fault = c.in_err-array.field-0.0 in
    let earlier = store_of c.args.shelf.now in
    reads_err (λ made. (made.0, value_of made.1)) (grammar.array (format_of c.args.version) earlier) before two fault c.from_residual-in_err-array.result c.from_residual-in_err-array.ensures.1
    (fault_behind (grammar.name earlier) (λ name. grammar.body (format_of c.args.version) >>= λ held. done (name, held)) c.in_ok-name.name before one c.in_ok-name.ensures.read
    (InBody (format_of c.args.version)) (InArray (format_of c.args.version) earlier)
    (begins_then (grammar.name earlier) c.in_ok-name.name before one c.in_ok-name.ensures.read (λ _. InBody (format_of c.args.version))) (cause_of fault) two
    (fault_within (grammar.body (format_of c.args.version)) (λ held. done (c.in_ok-name.name, held)) (InBody (format_of c.args.version)) (InBody (format_of c.args.version))
    (λ input inside. inside) (cause_of fault) one two c.in_err-array.ensures))

pub returns-clause-read : goal.returns-clause-read
returns-clause-read g c =
    let before = drawn (g.R.Source.given c.args.source.now) (g.R.Source.ended c.args.source.now) (g.R.Source.tally c.args.source.now).failures in
    let one = drawn (g.R.Source.given c.read_name.new.source) (g.R.Source.ended c.read_name.new.source) (g.R.Source.tally c.read_name.new.source).failures in
    let two = drawn (g.R.Source.given c.read_body.new.source) (g.R.Source.ended c.read_body.new.source) (g.R.Source.tally c.read_body.new.source).failures in
    let earlier = store_of c.args.shelf.now in
    let name = c.in_ok-name.name in
    let held = value_of c.in_ok-array.array in
    value_then (grammar.name earlier) (λ name. grammar.body (format_of c.args.version) >>= λ held. done (name, held)) name before one c.in_ok-name.ensures.read (name, held) two
    (value_then (grammar.body (format_of c.args.version)) (λ held. done (name, held)) held one two c.in_ok-array.ensures (name, held) two (value_done (name, held) two))
