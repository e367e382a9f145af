use Rattle.std.proofs.Common.{◌+◌, ◌&&◌, nat_lt, nat_le, eqb, arith}
use Rattle.judy_sets.proofs.RangeTests.{none_yet, one_more, all_below}
use Rattle.judy_sets.proofs.WordPuts.{no_words, one_word, words_alike, words_join}
use Rattle.judy_sets.proofs.range_words.put_words.Goals as goal

pub words-init : goal.words-init
words-init g c = record {
  low = omega arith;
  high = omega arith;
  put = no_words c.args.made.now (λ other. nat_le c.args.from other && nat_lt other c.args.from) (none_yet c.args.from);
}

pub words-preserved : goal.words-preserved
words-preserved g c =
    let from = c.args.from in
    let word = c.words.word in
    let low = c.words.invariant.low in record {
      low = omega arith;
      high = omega arith;
      put = words_join c.args.made.now c.words.made c.put.new.self (λ other. nat_le from other && nat_lt other word) (λ other. eqb other word)
          (λ other. nat_le from other && nat_lt other (word + 1)) (λ other. one_more from word other low) c.words.invariant.put
          (one_word c.words.made c.put.new.self word c.in_ok-put.ensures.put);
    }

pub returns : goal.returns
returns g c =
    let from = c.args.from in
    let end = c.args.end in
    let word = c.words.word in
    words_alike c.args.made.now c.words.made (λ other. nat_le from other && nat_lt other word) (λ other. nat_le from other && nat_lt other end)
    (λ other. all_below from word end other c.words.invariant.low c.words.invariant.high c.words-test.false) c.words.invariant.put
