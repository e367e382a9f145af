use Rattle.std.proofs.Common.{◌≡◌, ℕ, List, ◌++◌, option_map, option_copied, sym, ap, subst, ◌∙◌}
use Rattle.std.specs.List.{flat_map}
use Rattle.std.proofs.lemmas.Option.{none-some, same_Some}
use Rattle.judy_model.specs.DumpText as text
use Rattle.judy_model.specs.DumpText.{length_order, entries_by}
use Rattle.judy_shelf.specs.Sorted.{pairs_in, sorted_in}
use Rattle.judy_model.specs.Arrays.{judy1, judyl, judysl, judyhs}
use Rattle.judy_word.specs.WordArrays.{array_of}
use Rattle.judy_shelf.specs.Arrays.{value_of}
use Rattle.judy_shelf.specs.Versions.{format_of}
use Rattle.judy_shelf.specs.Writes.{sunk, Wrote}
use Rattle.judy_shelf.proofs.WriteLemmas.{wrote_err}
use Rattle.judy_shelf.proofs.DumpParts.{array_stopped, array_goes_on}
use Rattle.judy_shelf.proofs.dumps.write_array.Goals as goal

pub returns-in_err-put : goal.returns-in_err-put
returns-in_err-put g c =
    wrote_err _ _ _ _ c.from_residual.result c.from_residual.ensures.1
    (array_stopped (format_of c.args.version) c.deref.result.now c.args.name.now (value_of c.args.array.now) (c.deref.ensures.0 ∙ c.array_head.ensures) _ _ c.in_err-put.ensures)

pub returns-in-Judy1 : goal.returns-in-Judy1
returns-in-Judy1 g c =
    array_goes_on (format_of c.args.version) c.deref.result.now c.args.name.now (value_of c.args.array.now) (c.deref.ensures.0 ∙ c.array_head.ensures) _
    (judy1 (array_of c.in-Judy1.set)) _ _ c.write_set.result (ap value_of c.in-Judy1.is) c.in_ok-put.ensures c.write_set.ensures

pub returns-in-JudyL : goal.returns-in-JudyL
returns-in-JudyL g c =
    array_goes_on (format_of c.args.version) c.deref.result.now c.args.name.now (value_of c.args.array.now) (c.deref.ensures.0 ∙ c.array_head.ensures) _
    (judyl (array_of c.in-JudyL.words)) _ _ c.write_words.result (ap value_of c.in-JudyL.is) c.in_ok-put.ensures c.write_words.ensures

pub returns-in-JudySl : goal.returns-in-JudySl
returns-in-JudySl g c =
    array_goes_on (format_of c.args.version) c.deref.result.now c.args.name.now (value_of c.args.array.now) (c.deref.ensures.0 ∙ c.array_head.ensures) _
    (judysl c.in-JudySl.strings) _ _ c.write_strings.result (ap value_of c.in-JudySl.is) c.in_ok-put.ensures c.write_strings.ensures

pub unreachable-requires : goal.unreachable-requires
unreachable-requires g c =
    let there = c.requires.sorted (entries_by length_order c.in-JudyHs.field-0.map) (ap sorted_in c.in-JudyHs.is) in
    none-some (entries_by length_order c.in-JudyHs.field-0.map) (sym (ap (λ keys. option_map pairs_in (option_copied keys)) c.in-None.is) ∙ there)

pub returns-in-Some : goal.returns-in-Some
returns-in-Some g c =
    let before = sunk (g.W.Sink.taken c.args.sink.now) (g.W.Sink.tally c.args.sink.now).failures in
    let mid = sunk (g.W.Sink.taken c.put.new.sink) (g.W.Sink.tally c.put.new.sink).failures in
    let after = sunk (g.W.Sink.taken c.write.new.sink) (g.W.Sink.tally c.write.new.sink).failures in
    let list = entries_by length_order c.in-JudyHs.field-0.map in
    let there = c.requires.sorted list (ap sorted_in c.in-JudyHs.is) in
    let same : pairs_in c.in-Some.keys.now ≡ list = same_Some (pairs_in c.in-Some.keys.now) list (sym (ap (λ keys. option_map pairs_in (option_copied keys)) c.in-Some.is) ∙ there) in
    array_goes_on (format_of c.args.version) c.deref.result.now c.args.name.now (value_of c.args.array.now) (c.deref.ensures.0 ∙ c.array_head.ensures) before
    (judyhs c.in-JudyHs.field-0) mid after c.write.result (ap value_of c.in-JudyHs.is) c.in_ok-put.ensures
    (subst (λ pairs. Wrote (flat_map (λ (entry : List ℕ × ℕ). text.string entry.0 ++ text.word entry.1) pairs) mid c.write.result after) same c.write.ensures)
