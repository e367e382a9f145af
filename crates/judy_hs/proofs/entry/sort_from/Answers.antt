use Rattle.std.proofs.Common.{◌-◌, length, drop, sym, subst, arith}
use Rattle.std.specs.List.Sorted.{IsPermutation, IsSortedBy}
use Rattle.std.proofs.lemmas.List.{take_rest}
use Rattle.std.proofs.lemmas.Slice.{take-put_mid_below}
use Rattle.judy_hs.specs.Listed.{is_before}
use Rattle.judy_hs.proofs.SortLemmas.{drop-put_mid_rest}
use Rattle.judy_hs.proofs.entry.sort_from.Goals as goal

pub returns-clause-front : goal.returns-clause-front
returns-clause-front c = take-put_mid_below c.args.start (length c.args.list.now - c.args.start) c.args.list.now c.sort.new.entries c.args.start (omega arith) c.requires

pub returns-clause-permutation : goal.returns-clause-permutation
returns-clause-permutation c =
    let xs = c.args.list.now in
    subst (IsPermutation (drop c.args.start xs)) (sym (drop-put_mid_rest c.args.start xs c.sort.new.entries c.requires))
    (subst (λ before. IsPermutation before c.sort.new.entries) (take_rest xs c.args.start) c.sort.ensures.permutation)

pub returns-clause-sorted : goal.returns-clause-sorted
returns-clause-sorted c = subst (IsSortedBy is_before) (sym (drop-put_mid_rest c.args.start c.args.list.now c.sort.new.entries c.requires)) c.sort.ensures.sorted
