use Rattle.std.proofs.Common.{rules, length, take, slice_get, sym, ap, subst, arith, ◌+◌, ◌∙◌}
use Rattle.std.proofs.lemmas.Option.{slice_get_within}
use Rattle.judy_shelf.specs.Sorted.{sorted_lists}
use Rattle.judy_shelf.proofs.SortedLemmas.{lists_counted, list_at, found_list}
use Rattle.std.proofs.Math.Numerals.{add-one}
use Rattle.judy_model.specs.DumpText.{array_text}
use Rattle.judy_shelf.specs.Arrays.{value_of}
use Rattle.judy_shelf.specs.Shelves.{store_of}
use Rattle.judy_shelf.specs.Versions.{format_of}
use Rattle.judy_shelf.specs.Writes.{sunk}
use Rattle.judy_shelf.proofs.WriteLemmas.{wrote_err}
use Rattle.judy_shelf.proofs.WalkLemmas.{Written, written_more, written_stop, written_all}
use Rattle.judy_shelf.proofs.DumpParts.{headed, stored_at, not_stored_at, dump_stopped_early, dump_stopped, dump_done}
use Rattle.judy_shelf.proofs.dumps.write_shelf.Goals as goal

pub returns-in_err-put : goal.returns-in_err-put
returns-in_err-put g c =
    let before = sunk (g.W.Sink.taken c.args.sink.now) (g.W.Sink.tally c.args.sink.now).failures in
    let after = sunk (g.W.Sink.taken c.put.new.sink) (g.W.Sink.tally c.put.new.sink).failures in
    wrote_err _ before after _ c.from_residual.result c.from_residual.ensures.1 (dump_stopped_early (format_of c.args.version) c.args.shelf.now before c.heading.result
    c.heading.ensures after c.in_err-put.ensures)

pub returns-in_err-write_array : goal.returns-in_err-write_array
returns-in_err-write_array g c =
    let entries = c.args.shelf.now in
    let before = sunk (g.W.Sink.taken c.args.sink.now) (g.W.Sink.tally c.args.sink.now).failures in
    let mid = sunk (g.W.Sink.taken c.arrays.sink) (g.W.Sink.tally c.arrays.sink).failures in
    let after = sunk (g.W.Sink.taken c.write_array.new.sink) (g.W.Sink.tally c.write_array.new.sink).failures in
    wrote_err _ before after _ c.from_residual-in_err-write_array.result c.from_residual-in_err-write_array.ensures.1
    (dump_stopped (format_of c.args.version) entries before after
    (written_stop (array_text (format_of c.args.version)) (store_of entries) (headed (format_of c.args.version) entries before) c.arrays.place
    (c.in-Some.name.now, value_of c.in-Some.array.now) mid after c.arrays.invariant.2
    (stored_at (format_of c.args.version) entries c.arrays.place c.in-Some.name.now c.in-Some.array.now c.in-Some.ensures.entry) c.in_err-write_array.ensures))

pub arrays-preserved : goal.arrays-preserved
arrays-preserved g c =
    let entries = c.args.shelf.now in
    let before = sunk (g.W.Sink.taken c.args.sink.now) (g.W.Sink.tally c.args.sink.now).failures in
    let mid = sunk (g.W.Sink.taken c.arrays.sink) (g.W.Sink.tally c.arrays.sink).failures in
    let after = sunk (g.W.Sink.taken c.write_array.new.sink) (g.W.Sink.tally c.write_array.new.sink).failures in
    let at = sym c.in-Some.ensures.entry in
    let counted = lists_counted entries c.arrays.place (c.in-Some.name.now, c.in-Some.array.now) at in
    let so_far = c.arrays.invariant.0 in
    let few = c.arrays.invariant.1 in (
      ap (λ n. n + c.list_count-listed.result) so_far ∙ ap (λ n. length (sorted_lists (take c.arrays.place entries)) + n) c.list_count-listed.ensures.count ∙
          sym counted ∙ ap (λ n. length (sorted_lists (take n entries))) (sym (add-one c.arrays.place)),
      omega (arith, few, c.list_count-listed.ensures.most),
      subst (λ place. Written (array_text (format_of c.args.version)) (store_of entries) (headed (format_of c.args.version) entries before) place after) (sym (add-one c.arrays.place))
          (written_more (array_text (format_of c.args.version)) (store_of entries) (headed (format_of c.args.version) entries before) c.arrays.place
          (c.in-Some.name.now, value_of c.in-Some.array.now) mid after c.arrays.invariant.2
          (stored_at (format_of c.args.version) entries c.arrays.place c.in-Some.name.now c.in-Some.array.now c.in-Some.ensures.entry) c.in_ok-write_array.ensures),
    )

pub write_array-requires-clause-sorted : goal.write_array-requires-clause-sorted
write_array-requires-clause-sorted g c list is =
    let entries = c.args.shelf.now in
    let listed = c.arrays.listed in
    let here = list_at entries c.arrays.place (c.in-Some.name.now, c.in-Some.array.now) list (sym c.in-Some.ensures.entry) is in
    let at = ap (λ lists. slice_get lists listed) c.requires.sorted ∙ ap (slice_get (sorted_lists entries)) c.arrays.invariant.0 ∙ here in
    found_list c.get.result c.args.lists.now listed list at c.get.ensures.lookup.2 c.get.ensures.lookup.1

pub overflow_add-place : goal.overflow_add-place
overflow_add-place g c =
    let inside = slice_get_within c.args.shelf.now c.arrays.place (c.in-Some.name.now, c.in-Some.array.now) (sym c.in-Some.ensures.entry) in
    omega (arith, inside, c.in-Some.ensures.within)

pub arrays-smaller : goal.arrays-smaller
arrays-smaller g c =
    let inside = slice_get_within c.args.shelf.now c.arrays.place (c.in-Some.name.now, c.in-Some.array.now) (sym c.in-Some.ensures.entry) in
    omega (arith, inside)

pub returns : goal.returns
returns g c =
    let entries = c.args.shelf.now in
    let before = sunk (g.W.Sink.taken c.args.sink.now) (g.W.Sink.tally c.args.sink.now).failures in
    let now = sunk (g.W.Sink.taken c.arrays.sink) (g.W.Sink.tally c.arrays.sink).failures in
    dump_done (format_of c.args.version) entries before now (written_all (array_text (format_of c.args.version)) (store_of entries)
    (headed (format_of c.args.version) entries before) c.arrays.place now c.arrays.invariant.2 (not_stored_at (format_of c.args.version) entries c.arrays.place c.in_default.ensures.entry))

pub arrays-init : goal.arrays-init
arrays-init g c = search rules
