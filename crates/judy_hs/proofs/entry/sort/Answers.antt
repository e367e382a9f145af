use Rattle.std.proofs.Common.{rules}
use Rattle.std.specs.Cmp.Lexicographic.{nat_list_cmp_total}
use Rattle.std.proofs.lemmas.List.Sorted.{ranks_by, answers_always}
use Rattle.judy_hs.specs.Listed.{key_bytes}
use Rattle.judy_hs.specs.declared.entry.HsEntry.{HsEntry}
use Rattle.judy_hs.proofs.entry.sort.Goals as goal

pub returns-clause-sorted : goal.returns-clause-sorted
returns-clause-sorted c = c.sort_unstable_by.ensures.sorted _ (ranks_by nat_list_cmp_total (λ (entry : HsEntry). key_bytes entry.key)) (answers_always _ _ _ (λ f a r f' called. search rules))
