use Rattle.std.proofs.Common.{◌≡◌, ◌∙◌, length, map, sym, arith}
use Rattle.std.proofs.lemmas.List.{length-map}
use Rattle.judy_word.proofs.SortedFacts.{at_most}
use Rattle.judy_word.proofs.sorted.check_sorted.Goals as goal

pub returns-clause-sorted : goal.returns-clause-sorted
returns-clause-sorted g c =
    let keys = map g.K.Keyed.key_of c.args.items.now in
    let count : length keys ≡ length c.args.items.now = length-map c.args.items.now g.K.Keyed.key_of in
    let most = at_most g.K.Keyed.key_of 0 c.args.items.now in
    let front = c.ascending-front.ensures.front in
    let more = c.if-front-items.false in
    let few = c.if-front-limit.false in
    let all : c.ascending-front.result ≡ length c.args.items.now = omega arith in
    record { words = c.ascending-front.ensures.words all; ascending = sym front ∙ all ∙ sym count; within = omega arith }
