use Rattle.std.proofs.Common.{[]}
use Rattle.judy_model.specs.DumpGrammar as grammar
use Rattle.judy_shelf.specs.Shelves.{store_of}
use Rattle.judy_shelf.specs.Versions.{format_of}
use Rattle.judy_shelf.specs.Reads.{drawn, InArrays}
use Rattle.judy_shelf.proofs.ReadLemmas.{reads_behind}
use Rattle.judy_shelf.proofs.loads.read_store.Goals as goal

pub returns : goal.returns
returns g c =
    let before = drawn (g.R.Source.given c.args.source.now) (g.R.Source.ended c.args.source.now) (g.R.Source.tally c.args.source.now).failures in
    let one = drawn (g.R.Source.given c.read_array_count.new.source) (g.R.Source.ended c.read_array_count.new.source) (g.R.Source.tally c.read_array_count.new.source).failures in
    let two = drawn (g.R.Source.given c.read_arrays.new.source) (g.R.Source.ended c.read_arrays.new.source) (g.R.Source.tally c.read_arrays.new.source).failures in
    let version = format_of c.args.version in
    reads_behind grammar.array_count (λ count. grammar.arrays version [] count) c.in_ok-count.count before one c.in_ok-count.ensures.read
    (InArrays version) store_of two c.read_arrays.result c.read_arrays.ensures
