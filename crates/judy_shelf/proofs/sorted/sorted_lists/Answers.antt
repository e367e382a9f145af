use Rattle.std.proofs.Common.{List, ℕ, ◌++◌, take, sym, ap, ◌∙◌}
use Rattle.std.proofs.Math.Numerals.{add-one}
use Rattle.judy_shelf.specs.declared.array.Array.{Array}
use Rattle.judy_shelf.specs.Sorted.{sorted_in, sorted_lists}
use Rattle.judy_shelf.proofs.WalkLemmas.{take_none}
use Rattle.judy_shelf.proofs.SortedLemmas.{lists_more}
use Rattle.judy_shelf.proofs.sorted.sorted_lists.Goals as goal

pub arrays-preserved : goal.arrays-preserved
arrays-preserved c =
    let entries = c.args.shelf.now in
    let place = c.arrays.place in
    let array = c.in-Some.array.now in
    c.in_ok-add_list.ensures.sorted ∙ ap (λ l. l ++ sorted_in array) c.arrays.invariant
    ∙ sym (lists_more entries place (c.in-Some.field-0-0.now, array) (sym c.in-Some.ensures.entry)) ∙ ap (λ n. sorted_lists (take n entries)) (sym (add-one place))

pub returns-clause-sorted : goal.returns-clause-sorted
returns-clause-sorted c =
    c.arrays.invariant ∙ ap sorted_lists (take_none (λ (entry : List ℕ × Array). sorted_in entry.1) c.args.shelf.now c.arrays.place (sym c.in_default.ensures.entry))
