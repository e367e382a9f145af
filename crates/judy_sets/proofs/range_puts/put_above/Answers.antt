use Rattle.judy_sets.proofs.RangePuts.{above_nothing, above_put}
use Rattle.judy_sets.proofs.range_puts.put_above.Goals as goal

pub returns-then-at-eq18446744073709551615 : goal.returns-then-at-eq18446744073709551615
returns-then-at-eq18446744073709551615 g c = above_nothing g.V.Words.WORDS c.args.at c.args.array.now.map c.args.made.now c.keys_law.ensures c.if-at-eq18446744073709551615.true

pub returns : goal.returns
returns g c = above_put g.V.Words.WORDS c.args.at c.args.array.now.map c.args.made.now c.put_range.new.made c.keys_law.ensures c.in_ok-put_range.ensures
