use Rattle.judy_sets.specs.Pages.{rest}
use Rattle.judy_sets.proofs.RangePuts.{range_is}
use Rattle.judy_sets.proofs.range_puts.put_range.Goals as goal

pub returns : goal.returns
returns g c =
    range_is g.V.Words.WORDS c.args.from c.args.to c.args.array.now.map c.args.made.now c.put_up_to.new.made (rest c.from_key-pages.result) c.from_key-pages.ensures c.in_ok-put_up_to.ensures
