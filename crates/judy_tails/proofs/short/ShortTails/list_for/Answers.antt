use Rattle.std.proofs.Common.{◌≡◌, ◌<◌, length, ap, sym, ◌∙◌, arith}
use Rattle.std.proofs.lemmas.List.{get_or_read}
use Rattle.judy_records.specs.Spots.{RecordList, empty_list}
use Rattle.judy_tails.specs.Short.{ShortLists, list_for}
use Rattle.judy_tails.proofs.LengthLemmas.{first_for, first-is}
use Rattle.judy_tails.proofs.short.ShortTails.list_for.Goals as goal

pub returns-then-size-words : goal.returns-then-size-words
returns-then-size-words c =
    let lists = c.self.inside.lists.items in
    let number = c.loop-number.number in
    let inside : number < length lists = omega (arith, c.loop-number-test.true, c.len-number-end.ensures, c.self.inside.lists.ok) in
    let read = get_or_read lists number c.index.result.now inside c.index.ensures (empty_list 0) in
    let here = ap (λ (list : RecordList). list.size) (sym read) ∙ sym c.size.ensures ∙ c.if-size-words.true in
    sym (first-is lists c.words_for-words.result number (omega (arith, inside)) c.loop-number.invariant (λ _. here))
    ∙ ap (λ words. first_for words lists) c.words_for-words.ensures
    ∙ ap (λ (all : ShortLists). list_for all c.args.bytes) c.self.view_is

pub returns : goal.returns
returns c =
    let lists = c.self.inside.lists.items in
    let past : c.len.result ≡ length lists = omega (arith, c.len.ensures, c.self.inside.lists.ok) in
    sym (first-is lists c.words_for-words.result c.len.result (omega (arith, past))
    (λ before less. c.loop-number.invariant before (omega (arith, less, past, c.loop-number-test.false, c.len-number-end.ensures, c.self.inside.lists.ok)))
    (λ inside. absurd (omega (arith, inside, past))))
    ∙ ap (λ words. first_for words lists) c.words_for-words.ensures
    ∙ ap (λ (all : ShortLists). list_for all c.args.bytes) c.self.view_is
