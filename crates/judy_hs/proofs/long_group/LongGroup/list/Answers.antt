use Rattle.std.proofs.Common.{List, length, take, drop, sym, ap, subst, ◌∙◌}
use Rattle.std.proofs.lemmas.List.{length-map}
use Rattle.std.specs.List.Sorted.{IsPermutation}
use Rattle.judy_hs.specs.declared.entry.HsEntry.{HsEntry}
use Rattle.judy_hs.specs.Listed.{key_bytes, entries_in, chained}
use Rattle.judy_hs.proofs.SortLemmas.{whole_back, sorted_behind}
use Rattle.judy_hs.proofs.long_group.LongGroup.list.Goals as goal

pub returns : goal.returns
returns c =
    let middle = c.list_unsorted.new.list in
    let new = c.sort_from.new.list in
    let start = c.len-start.result in
    let same = c.deref_mut.ensures.value in
    let listed = c.in_ok-list_unsorted.ensures in
    ap entries_in (whole_back middle.len middle.items new middle.ok.0 (c.sort_from.ensures.len ∙ ap length same))
    ∙ sorted_behind (entries_in c.args.list.now.items) (chained c.args.self.now) listed.0 middle.items new start
    (c.len-start.ensures ∙ c.args.list.now.ok.0 ∙ sym (length-map c.args.list.now.items (λ (entry : HsEntry). (key_bytes entry.key, entry.value)))) listed.2 c.requires listed.1
    (c.sort_from.ensures.front ∙ ap (take start) same)
    (subst (λ (before : List HsEntry). IsPermutation (drop start before) (drop start new)) same c.sort_from.ensures.permutation) c.sort_from.ensures.sorted
