use Rattle.std.proofs.Common.{◌&&◌, nat_lt, nat_le, eqb}
use Rattle.judy_sets.proofs.RangeTests.{up_to}
use Rattle.judy_sets.proofs.WordPuts.{one_word, words_join}
use Rattle.judy_sets.proofs.range_words.put_to.Goals as goal

pub returns : goal.returns
returns g c =
    let from = c.args.from in
    let to = c.args.to in
    words_join c.args.made.now c.put_words.new.made c.put.new.self (λ other. nat_le from other && nat_lt other to) (λ other. eqb other to) (λ other. nat_le from other && nat_le other to)
    (λ other. up_to from to other c.requires.order) c.in_ok-put_words.ensures (one_word c.put_words.new.made c.put.new.self to c.in_ok-put.ensures.put)
