use Rattle.std.proofs.Common.{◌+◌, take, refl, sym, subst, arith}
use Rattle.std.specs.FinMap.{insert}
use Rattle.judy_model.specs.Keys.{byte_order}
use Rattle.judy_model.specs.Arrays.{ArrayOf, judysl}
use Rattle.judy_model.specs.DumpGrammar as grammar
use Rattle.judy_shelf.specs.Reads.{drawn}
use Rattle.judy_shelf.specs.Versions.{format_of}
use Rattle.judy_shelf.proofs.EntryReads.{string_keys, Filling, none_filled, key_stopped, value_stopped, all_filled, one_filled, one_not_filled}
use Rattle.judy_shelf.proofs.loads.read_strings.Goals as goal

pub keys-init : goal.keys-init
keys-init g c =
    let before = drawn (g.R.Source.given c.args.source.now) (g.R.Source.ended c.args.source.now) (g.R.Source.tally c.args.source.now).failures in
    let array = c.args.strings in
    subst (λ last. Filling string_keys (grammar.string_key (format_of c.args.version)) grammar.word array.limit 0 last array before before) (sym c.new-last.ensures)
    (none_filled array c.requires.empty before)

pub returns-in_err-len : goal.returns-in_err-len
returns-in_err-len g c = key_stopped c.keys.invariant judysl c.args.count (omega arith) judysl _ c.in_err-len.field-0.0 c.from_residual.result c.from_residual.ensures.1 c.in_err-len.ensures.read

pub returns-in_err-value : goal.returns-in_err-value
returns-in_err-value g c =
    value_stopped c.keys.invariant judysl c.args.count (omega arith) judysl _ c.in_err-value.field-0.0 c.from_residual-in_err-value.result c.from_residual-in_err-value.ensures.1
    (take c.in_ok-len.len c.read_string_after.new.room) _ c.in_ok-len.ensures.read c.in_err-value.ensures

pub returns-in-Err : goal.returns-in-Err
returns-in-Err g c =
    one_not_filled c.keys.invariant (take c.in_ok-len.len c.read_string_after.new.room) c.in_ok-len.ensures.above _ c.in_ok-len.ensures.read c.in_ok-value.value
    _ c.in_ok-value.ensures judysl c.args.count (omega arith)

pub keys-preserved : goal.keys-preserved
keys-preserved g c =
    let before = drawn (g.R.Source.given c.args.source.now) (g.R.Source.ended c.args.source.now) (g.R.Source.tally c.args.source.now).failures in
    let after = drawn (g.R.Source.given c.read_u64.new.source) (g.R.Source.ended c.read_u64.new.source) (g.R.Source.tally c.read_u64.new.source).failures in
    let key = take c.in_ok-len.len c.read_string_after.new.room in
    let made : ArrayOf byte_order = record { limit = c.keys.strings.limit; map = insert c.keys.strings.map key c.in_ok-value.value } in
    subst (λ last. Filling string_keys (grammar.string_key (format_of c.args.version)) grammar.word c.args.strings.limit (c.keys.counter + 1) last made before after) (sym c.keep.ensures)
    (one_filled c.keys.invariant key c.in_ok-len.ensures.above _ c.in_ok-len.ensures.read c.in_ok-value.value _ c.in_ok-value.ensures made refl refl)

pub returns : goal.returns
returns g c = all_filled c.keys.invariant judysl c.args.count (omega arith) c.keys.strings refl
