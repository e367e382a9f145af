use Rattle.std.proofs.Common.{◌≤◌, subst, arith}
use Rattle.judy_records.specs.Texts.{words_for}
use Rattle.judy_tails.specs.Short.{ShortLists, list_for}
use Rattle.judy_tails.proofs.LengthLemmas.{are-few, first-within}
use Rattle.judy_tails.proofs.short.ShortTails.are_few.Goals as goal

pub returns : goal.returns
returns c = λ bytes.
    let lists = c.self.inside.lists.items in
    let within = first-within lists (words_for bytes) in
    let few = are-few lists c.self.invariant in
    subst (λ (all : ShortLists). list_for all bytes ≤ 129) c.self.view_is (omega (arith, within, few))
