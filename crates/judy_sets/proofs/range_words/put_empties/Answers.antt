use Rattle.std.proofs.Common.{◌+◌, ◌&&◌, true, nat_lt, nat_le, ap, sym, ◌∙◌, arith}
use Rattle.std.specs.FinMap.{contains_key}
use Rattle.judy_sets.specs.RangeWords.{is_put}
use Rattle.judy_sets.proofs.RangeTests.{pass_key, last_key, no_key}
use Rattle.judy_sets.proofs.WordPuts.{words_alike, words_join}
use Rattle.judy_sets.proofs.range_words.put_empties.Goals as goal

pub returns-then-key-to : goal.returns-then-key-to
returns-then-key-to g c =
    let map = c.args.array.now.map in
    let at = c.keys.at in
    let to = c.args.to in
    let key = c.in-Some.key in
    let least = c.in-Some.ensures in
    let last = c.if-key-to.true in
    c.keys.invariant.later c.put_words.new.made
    (words_alike c.keys.made c.put_words.new.made (λ word. nat_le at word && nat_lt word key) (is_put true map at to)
    (λ word. ap (λ end. nat_le at word && nat_lt word end) last
    ∙ last_key at to word (contains_key map word) c.keys.invariant.high (λ up less. least.none word up (omega (arith, less, last))) (λ is. ap (contains_key map) (is ∙ sym last) ∙ least.held))
    c.in_ok-put_words.ensures)

pub keys-preserved : goal.keys-preserved
keys-preserved g c =
    let map = c.args.array.now.map in
    let at = c.keys.at in
    let to = c.args.to in
    let key = c.in-Some.key in
    let least = c.in-Some.ensures in
    let low = least.low in
    let high = least.high in record {
      low = omega arith;
      high = omega arith;
      later = λ new put. c.keys.invariant.later new
          (words_join c.keys.made c.put_words.new.made new (λ word. nat_le at word && nat_lt word key) (is_put true map (key + 1) to) (is_put true map at to)
          (λ word. pass_key at to key word (contains_key map word) low high (least.none word) (λ is. ap (contains_key map) is ∙ least.held))
          c.in_ok-put_words.ensures put);
    }

pub returns : goal.returns
returns g c =
    let map = c.args.array.now.map in
    let at = c.keys.at in
    let to = c.args.to in
    c.keys.invariant.later c.put_to.new.made
    (words_alike c.keys.made c.put_to.new.made (λ word. nat_le at word && nat_le word to) (is_put true map at to)
    (λ word. no_key at to word (contains_key map word) (c.in_default.ensures word))
    c.in_ok-put_to.ensures)
