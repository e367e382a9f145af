use Rattle.judy_model.specs.Fields.{◌>>=◌, Begins}
use Rattle.judy_model.specs.DumpGrammar as grammar
use Rattle.judy_shelf.specs.Arrays.{value_of}
use Rattle.judy_shelf.specs.Versions.{format_of}
use Rattle.judy_shelf.specs.Writes.{kind_number}
use Rattle.judy_shelf.specs.Reads.{drawn, cause_of, AtSome}
use Rattle.judy_shelf.proofs.ReadLemmas.{reads_err, fault_first, fault_then, reads_behind}
use Rattle.judy_shelf.proofs.loads.read_body.Goals as goal

pub returns-in_err-limit : goal.returns-in_err-limit
returns-in_err-limit g c =
    let before = drawn (g.R.Source.given c.args.source.now) (g.R.Source.ended c.args.source.now) (g.R.Source.tally c.args.source.now).failures in
    let one = drawn (g.R.Source.given c.read_kind.new.source) (g.R.Source.ended c.read_kind.new.source) (g.R.Source.tally c.read_kind.new.source).failures in
    let two = drawn (g.R.Source.given c.read_limit.new.source) (g.R.Source.ended c.read_limit.new.source) (g.R.Source.tally c.read_limit.new.source).failures in
    let fault = c.in_err-limit.field-0.0 in
    let kind = kind_number c.in_ok-kind.kind in
    reads_err value_of (grammar.body (format_of c.args.version)) before two fault c.from_residual-in_err-limit.result c.from_residual-in_err-limit.ensures.1
    (fault_then grammar.kind (λ kind. grammar.limit >>= λ limit. grammar.key_count limit >>= λ count. grammar.contents (format_of c.args.version) kind limit count)
    kind before one c.in_ok-kind.ensures (cause_of fault) two
    (fault_first grammar.limit (λ limit. grammar.key_count limit >>= λ count. grammar.contents (format_of c.args.version) kind limit count) (cause_of fault) one two c.in_err-limit.ensures.read))

pub returns-in_err-count : goal.returns-in_err-count
returns-in_err-count g c =
    let before = drawn (g.R.Source.given c.args.source.now) (g.R.Source.ended c.args.source.now) (g.R.Source.tally c.args.source.now).failures in
    let one = drawn (g.R.Source.given c.read_kind.new.source) (g.R.Source.ended c.read_kind.new.source) (g.R.Source.tally c.read_kind.new.source).failures in
    let two = drawn (g.R.Source.given c.read_limit.new.source) (g.R.Source.ended c.read_limit.new.source) (g.R.Source.tally c.read_limit.new.source).failures in
    let three = drawn (g.R.Source.given c.read_key_count.new.source) (g.R.Source.ended c.read_key_count.new.source) (g.R.Source.tally c.read_key_count.new.source).failures in
    let fault = c.in_err-count.field-0.0 in
    let kind = kind_number c.in_ok-kind.kind in
    let limit = c.in_ok-limit.limit in
    reads_err value_of (grammar.body (format_of c.args.version)) before three fault c.from_residual-in_err-count.result c.from_residual-in_err-count.ensures.1
    (fault_then grammar.kind (λ kind. grammar.limit >>= λ limit. grammar.key_count limit >>= λ count. grammar.contents (format_of c.args.version) kind limit count)
    kind before one c.in_ok-kind.ensures (cause_of fault) three
    (fault_then grammar.limit (λ limit. grammar.key_count limit >>= λ count. grammar.contents (format_of c.args.version) kind limit count) limit one two c.in_ok-limit.ensures.read
    (cause_of fault) three
    (fault_first (grammar.key_count limit) (λ count. grammar.contents (format_of c.args.version) kind limit count) (cause_of fault) two three c.in_err-count.ensures)))

pub returns : goal.returns
returns g c =
    let before = drawn (g.R.Source.given c.args.source.now) (g.R.Source.ended c.args.source.now) (g.R.Source.tally c.args.source.now).failures in
    let one = drawn (g.R.Source.given c.read_kind.new.source) (g.R.Source.ended c.read_kind.new.source) (g.R.Source.tally c.read_kind.new.source).failures in
    let two = drawn (g.R.Source.given c.read_limit.new.source) (g.R.Source.ended c.read_limit.new.source) (g.R.Source.tally c.read_limit.new.source).failures in
    let three = drawn (g.R.Source.given c.read_key_count.new.source) (g.R.Source.ended c.read_key_count.new.source) (g.R.Source.tally c.read_key_count.new.source).failures in
    let four = drawn (g.R.Source.given c.read_contents.new.source) (g.R.Source.ended c.read_contents.new.source) (g.R.Source.tally c.read_contents.new.source).failures in
    let kind = kind_number c.in_ok-kind.kind in
    let limit = c.in_ok-limit.limit in
    let count = c.in_ok-count.count in
    reads_behind grammar.kind (λ kind. grammar.limit >>= λ limit. grammar.key_count limit >>= λ count. grammar.contents (format_of c.args.version) kind limit count)
    kind before one c.in_ok-kind.ensures
    (λ kind. Begins grammar.limit (λ limit. Begins (grammar.key_count limit) (λ count. AtSome (grammar.contents (format_of c.args.version) kind limit) count))) value_of four c.read_contents.result
    (reads_behind grammar.limit (λ limit. grammar.key_count limit >>= λ count. grammar.contents (format_of c.args.version) kind limit count) limit one two c.in_ok-limit.ensures.read
    (λ limit. Begins (grammar.key_count limit) (λ count. AtSome (grammar.contents (format_of c.args.version) kind limit) count)) value_of four c.read_contents.result
    (reads_behind (grammar.key_count limit) (λ count. grammar.contents (format_of c.args.version) kind limit count) count two three c.in_ok-count.ensures
    (AtSome (grammar.contents (format_of c.args.version) kind limit)) value_of four c.read_contents.result c.read_contents.ensures))
