use Rattle.std.proofs.Common.{◌≡◌, ◌<◌, slice_get, length, ap, sym, ◌∙◌, arith}
use Rattle.judy_records.specs.Texts.{words_for}
use Rattle.judy_tails.specs.Short.{ShortLists, list_for}
use Rattle.judy_tails.proofs.LengthLemmas.{first_for, found-for, first-within}
use Rattle.judy_tails.proofs.short.ShortTails.reach.Goals as goal

pub returns-else-number-len-clause-reached : goal.returns-else-number-len-clause-reached
returns-else-number-len-clause-reached c =
    let lists = c.self.inside.lists.items in
    let words = words_for c.args.bytes in
    let first : first_for words lists ≡ c.args.number = ap (λ (all : ShortLists). list_for all c.args.bytes) c.self.view_is ∙ sym c.requires.number in
    let within = first-within lists words in
    let inside : first_for words lists < length lists = omega (arith, first, within, c.if-number-len.false, c.len.ensures, c.self.inside.lists.ok) in
    (λ i. slice_get (sym c.self.view_is i).words (sym first i)) ∙ found-for lists words inside
