use Rattle.std.proofs.Common.{arith}
use Rattle.judy_sets.proofs.RangePuts.{below_nothing, below_put}
use Rattle.judy_sets.proofs.range_puts.put_below.Goals as goal

pub returns-then-at-eq0 : goal.returns-then-at-eq0
returns-then-at-eq0 g c = below_nothing g.V.Words.WORDS c.args.at c.args.array.now.map c.args.made.now c.if-at-eq0.true

pub returns : goal.returns
returns g c = below_put g.V.Words.WORDS c.args.at c.args.array.now.map c.args.made.now c.put_range.new.made (let some = c.if-at-eq0.false in omega (arith, some)) c.in_ok-put_range.ensures
