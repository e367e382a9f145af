use Rattle.std.proofs.Common.{◌≡◌, ◌+◌, ◌<◌, [], ◌∷◌, length, sym, ap, subst, ◌∙◌, arith, length-append}
use Rattle.judy_model.specs.DumpGrammar as grammar
use Rattle.judy_shelf.specs.Arrays.{value_of}
use Rattle.judy_shelf.specs.Shelves.{store_of}
use Rattle.judy_shelf.specs.Versions.{format_of}
use Rattle.judy_shelf.specs.Reads.{drawn, cause_of, ReadsValue}
use Rattle.judy_shelf.proofs.ShelfLemmas.{with_new_array-store_of}
use Rattle.judy_shelf.proofs.ReadLemmas.{reads_err}
use Rattle.judy_shelf.proofs.ArrayReads.{ArraysRead, arrays_none, arrays_next, arrays_fault, arrays_memory, arrays_whole}
use Rattle.judy_shelf.proofs.loads.read_arrays.Goals as goal

pub arrays-init : goal.arrays-init
arrays-init g c =
    let before = drawn (g.R.Source.given c.args.source.now) (g.R.Source.ended c.args.source.now) (g.R.Source.tally c.args.source.now).failures in
    let none = ap length c.new-shelf.ensures in
    (omega arith, subst (λ made. ArraysRead (format_of c.args.version) 0 (store_of made) before before) (sym c.new-shelf.ensures) (arrays_none (format_of c.args.version) before))

pub returns-in_err-name : goal.returns-in_err-name
returns-in_err-name g c =
    let before = drawn (g.R.Source.given c.args.source.now) (g.R.Source.ended c.args.source.now) (g.R.Source.tally c.args.source.now).failures in
    let mid = drawn (g.R.Source.given c.arrays.source) (g.R.Source.ended c.arrays.source) (g.R.Source.tally c.arrays.source).failures in
    let after = drawn (g.R.Source.given c.read_array.new.source) (g.R.Source.ended c.read_array.new.source) (g.R.Source.tally c.read_array.new.source).failures in
    let some : c.arrays.counter < c.args.count = omega arith in
    let fault = c.in_err-name.field-0.0 in
    reads_err store_of (grammar.arrays (format_of c.args.version) [] c.args.count) before after fault c.from_residual.result c.from_residual.ensures.1
    (arrays_fault (format_of c.args.version) c.arrays.counter (store_of c.arrays.shelf) before mid c.arrays.invariant.1 after c.args.count some (cause_of fault) c.in_err-name.ensures.read)

pub returns-in-Err : goal.returns-in-Err
returns-in-Err g c =
    let before = drawn (g.R.Source.given c.args.source.now) (g.R.Source.ended c.args.source.now) (g.R.Source.tally c.args.source.now).failures in
    let mid = drawn (g.R.Source.given c.arrays.source) (g.R.Source.ended c.arrays.source) (g.R.Source.tally c.arrays.source).failures in
    let after = drawn (g.R.Source.given c.read_array.new.source) (g.R.Source.ended c.read_array.new.source) (g.R.Source.tally c.read_array.new.source).failures in
    let some : c.arrays.counter < c.args.count = omega arith in
    arrays_memory (format_of c.args.version) c.arrays.counter (store_of c.arrays.shelf) before mid c.arrays.invariant.1 after c.args.count some c.in_ok-name.name
    (value_of c.in_ok-name.array) c.in_ok-name.ensures.read

pub arrays-preserved : goal.arrays-preserved
arrays-preserved g c =
    let before = drawn (g.R.Source.given c.args.source.now) (g.R.Source.ended c.args.source.now) (g.R.Source.tally c.args.source.now).failures in
    let mid = drawn (g.R.Source.given c.arrays.source) (g.R.Source.ended c.arrays.source) (g.R.Source.tally c.arrays.source).failures in
    let after = drawn (g.R.Source.given c.read_array.new.source) (g.R.Source.ended c.read_array.new.source) (g.R.Source.tally c.read_array.new.source).failures in
    let name = c.in_ok-name.name in
    let array = c.in_ok-name.array in
    let far = arrays_next (format_of c.args.version) c.arrays.counter (store_of c.arrays.shelf) before mid c.arrays.invariant.1 after name (value_of array) c.in_ok-name.ensures.read in
    let added = c.in-Ok.ensures.added in
    let same = with_new_array-store_of c.arrays.shelf name array ∙ ap store_of (sym added) in
    let long = length-append c.arrays.shelf ((name, array) ∷ []) in
    let grew = ap length added in
    let within = c.arrays.invariant.0 in
    (omega arith, subst (λ made. ArraysRead (format_of c.args.version) (c.arrays.counter + 1) made before after) same far)

pub returns : goal.returns
returns g c =
    let before = drawn (g.R.Source.given c.args.source.now) (g.R.Source.ended c.args.source.now) (g.R.Source.tally c.args.source.now).failures in
    let now = drawn (g.R.Source.given c.arrays.source) (g.R.Source.ended c.arrays.source) (g.R.Source.tally c.arrays.source).failures in
    let all : c.arrays.counter ≡ c.args.count = omega arith in
    subst (λ n. ReadsValue (grammar.arrays (format_of c.args.version) [] n) (store_of c.arrays.shelf) before now) all
    (arrays_whole (format_of c.args.version) c.arrays.counter (store_of c.arrays.shelf) before now c.arrays.invariant.1)
