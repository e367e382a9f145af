use Rattle.std.proofs.Common.{arith}
use Rattle.judy_sets.proofs.RangeFacts.{count-within}
use Rattle.judy_sets.proofs.RangePuts.{part_is}
use Rattle.judy_sets.proofs.range_puts.part_filled.Goals as goal

pub returns-then-count-limit-clause-refused : goal.returns-then-count-limit-clause-refused
returns-then-count-limit-clause-refused g c =
    let counted = c.count.ensures in
    let all = count-within c.args.from c.args.to c.args.array.now.map in
    let more = c.if-count-limit.true in
    omega (arith, counted, all, more)

pub returns-in-Ok-clause-map : goal.returns-in-Ok-clause-map
returns-in-Ok-clause-map g c =
    part_is g.V.Words.WORDS c.args.from c.args.to c.args.array.now.map c.new-made.result c.put_range.new.made c.new-made.ensures.map c.len.ensures.zeros c.in-Ok.ensures

pub returns-in-Ok-clause-within : goal.returns-in-Ok-clause-within
returns-in-Ok-clause-within g c =
    let counted = c.count.ensures in
    let all = count-within c.args.from c.args.to c.args.array.now.map in
    let few = c.if-count-limit.false in
    omega (arith, counted, all, few)

pub returns-in-Err-clause-refused : goal.returns-in-Err-clause-refused
returns-in-Err-clause-refused g c =
    let counted = c.count.ensures in
    let all = count-within c.args.from c.args.to c.args.array.now.map in
    let few = c.if-count-limit.false in
    omega (arith, counted, all, few)
