use Rattle.std.proofs.Common.{◌++◌, List, ap, ◌∙◌}
use Rattle.judy_hs.specs.Listed.{entries_in, keyed_list}
use Rattle.judy_hs.specs.declared.entry.HsEntry.{HsEntry}
use Rattle.judy_hs.proofs.ListedLemmas.{all_can, all_listed}
use Rattle.judy_hs.proofs.judyhs.JudyHs.sorted.Goals as goal

pub list-requires : goal.list-requires
list-requires g c = all_can g.H.ByteHash.hash_of g.H.ByteHash.LONGEST c.self.inside.groups c.self.invariant.is_keyed

pub returns : goal.returns
returns g c =
    rw (← c.self.view_is) (
    c.in_ok-list-2.ensures ∙ ap (λ (before : List HsEntry). entries_in before ++ keyed_list c.self.inside.groups) c.in_ok-list.ensures.items
    ∙ all_listed g.H.ByteHash.hash_of g.H.ByteHash.LONGEST c.self.inside.groups c.self.invariant.is_keyed
    )
