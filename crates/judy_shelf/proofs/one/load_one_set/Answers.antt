use Rattle.std.proofs.Common.{[], ◌∷◌, None, refl, ap, ◌∙◌}
use Rattle.judy_model.specs.Keys.{word_order, byte_order}
use Rattle.judy_model.specs.Arrays.{ArrayOf, judy1}
use Rattle.judy_model.specs.DumpText.{length_order}
use Rattle.judy_model.specs.DumpGrammar.{entries, word, no_value, string, string_key}
use Rattle.judy_word.specs.WordArrays.{array_of}
use Rattle.judy_shelf.specs.declared.one.OneFault.TheVariants.{Load}
use Rattle.judy_shelf.specs.Ones.{set_with}
use Rattle.judy_shelf.specs.Versions.{format_of}
use Rattle.judy_shelf.specs.Reads.{drawn, cause_of}
use Rattle.judy_shelf.proofs.ArrayReads.{loads_fault, loads_whole}
use Rattle.judy_shelf.proofs.OneReads.{one_err, keys_stopped, keys_read, keys_end, made_limit, words_back}
use Rattle.judy_shelf.proofs.one.load_one_set.Goals as goal

pub returns-in_err-head-clause-read : goal.returns-in_err-head-clause-read
returns-in_err-head-clause-read g c =
    let before = drawn (g.R.Source.given c.args.source.now) (g.R.Source.ended c.args.source.now) (g.R.Source.tally c.args.source.now).failures in
    let one = drawn (g.R.Source.given c.read_head.new.source) (g.R.Source.ended c.read_head.new.source) (g.R.Source.tally c.read_head.new.source).failures in
    one_err 1 set_with before one c.in_err-head.field-0.0 c.from_residual.result c.from_residual.ensures.1 c.in_err-head.ensures

pub returns-in_err-set-clause-read : goal.returns-in_err-set-clause-read
returns-in_err-set-clause-read g c =
    let before = drawn (g.R.Source.given c.args.source.now) (g.R.Source.ended c.args.source.now) (g.R.Source.tally c.args.source.now).failures in
    let one = drawn (g.R.Source.given c.read_head.new.source) (g.R.Source.ended c.read_head.new.source) (g.R.Source.tally c.read_head.new.source).failures in
    let two = drawn (g.R.Source.given c.read_set.new.source) (g.R.Source.ended c.read_set.new.source) (g.R.Source.tally c.read_set.new.source).failures in
    let version = format_of c.in_ok-head.head.version in
    let count = c.in_ok-head.head.count in
    let name = c.in_ok-head.ensures.0 in
    let limit = c.in_ok-head.ensures.1 in
    let told = c.new-empty.result.limit in
    let fault = c.in_err-set.field-0.0 in
    one_err 1 set_with before two (Load fault) c.from_residual-in_err-set.result c.from_residual-in_err-set.ensures.1
    (keys_stopped judy1 words_back (λ array. refl) told limit (entries word_order (λ before. word) no_value None) count one two version name before c.in_ok-head.ensures.2 (cause_of fault)
    c.in_err-set.ensures.read)

pub returns-in_err-read_end-clause-read : goal.returns-in_err-read_end-clause-read
returns-in_err-read_end-clause-read g c =
    let before = drawn (g.R.Source.given c.args.source.now) (g.R.Source.ended c.args.source.now) (g.R.Source.tally c.args.source.now).failures in
    let one = drawn (g.R.Source.given c.read_head.new.source) (g.R.Source.ended c.read_head.new.source) (g.R.Source.tally c.read_head.new.source).failures in
    let two = drawn (g.R.Source.given c.read_set.new.source) (g.R.Source.ended c.read_set.new.source) (g.R.Source.tally c.read_set.new.source).failures in
    let three = drawn (g.R.Source.given c.read_end.new.source) (g.R.Source.ended c.read_end.new.source) (g.R.Source.tally c.read_end.new.source).failures in
    let version = format_of c.in_ok-head.head.version in
    let count = c.in_ok-head.head.count in
    let name = c.in_ok-head.ensures.0 in
    let limit = c.in_ok-head.ensures.1 in
    let told = c.new-empty.result.limit in
    let whole = keys_read judy1 words_back (λ array. refl) told limit (entries word_order (λ before. word) no_value None) count one two version name before c.in_ok-head.ensures.2 (array_of
    c.in_ok-set.set) c.in_ok-set.ensures.read in
    let store = (name, set_with limit c.in_ok-set.set) ∷ [] in
    let fault = c.in_err-read_end.field-0.0 in
    one_err 1 set_with before three (Load fault) c.from_residual-in_err-read_end.result c.from_residual-in_err-read_end.ensures.1
    (loads_fault version store before two three whole (cause_of fault) c.in_err-read_end.ensures)

pub returns-clause-limit : goal.returns-clause-limit
returns-clause-limit g c =
    let before = drawn (g.R.Source.given c.args.source.now) (g.R.Source.ended c.args.source.now) (g.R.Source.tally c.args.source.now).failures in
    let one = drawn (g.R.Source.given c.read_head.new.source) (g.R.Source.ended c.read_head.new.source) (g.R.Source.tally c.read_head.new.source).failures in
    let two = drawn (g.R.Source.given c.read_set.new.source) (g.R.Source.ended c.read_set.new.source) (g.R.Source.tally c.read_set.new.source).failures in
    let version = format_of c.in_ok-head.head.version in
    let count = c.in_ok-head.head.count in
    let name = c.in_ok-head.ensures.0 in
    let limit = c.in_ok-head.ensures.1 in
    let told = c.new-empty.result.limit in
    made_limit judy1 words_back (λ array. refl) told limit (entries word_order (λ before. word) no_value None) count one two (array_of c.in_ok-set.set) c.in_ok-set.ensures.read ∙
    c.new-empty.ensures.limit

pub returns-clause-read : goal.returns-clause-read
returns-clause-read g c =
    let before = drawn (g.R.Source.given c.args.source.now) (g.R.Source.ended c.args.source.now) (g.R.Source.tally c.args.source.now).failures in
    let one = drawn (g.R.Source.given c.read_head.new.source) (g.R.Source.ended c.read_head.new.source) (g.R.Source.tally c.read_head.new.source).failures in
    let two = drawn (g.R.Source.given c.read_set.new.source) (g.R.Source.ended c.read_set.new.source) (g.R.Source.tally c.read_set.new.source).failures in
    let three = drawn (g.R.Source.given c.read_end.new.source) (g.R.Source.ended c.read_end.new.source) (g.R.Source.tally c.read_end.new.source).failures in
    let version = format_of c.in_ok-head.head.version in
    let count = c.in_ok-head.head.count in
    let name = c.in_ok-head.ensures.0 in
    let limit = c.in_ok-head.ensures.1 in
    let told = c.new-empty.result.limit in
    let whole = keys_read judy1 words_back (λ array. refl) told limit (entries word_order (λ before. word) no_value None) count one two version name before c.in_ok-head.ensures.2 (array_of
    c.in_ok-set.set) c.in_ok-set.ensures.read in
    let store = (name, set_with limit c.in_ok-set.set) ∷ [] in
    let ends = keys_end judy1 words_back (λ array. refl) told limit (entries word_order (λ before. word) no_value None) count one two version name before c.in_ok-head.ensures.2 (array_of
    c.in_ok-set.set) c.in_ok-set.ensures.read in
    let end = c.in_ok-read_end.ensures in
    (name, limit, loads_whole version store before two three whole end.0 end.1 end.2, (ends.0, end.0 ∙ ends.1, ends.2))
