use Rattle.judy_sets.proofs.RangeFacts.{none_first, past_first, none_between, least_is}
use Rattle.judy_sets.proofs.range_words.first_up_to.Goals as goal

pub returns-in_default : goal.returns-in_default
returns-in_default g c =
    let map = c.args.array.now.map in
    none_between c.args.from c.args.to map (none_first c.args.from c.args.to map c.in_default.ensures)

pub returns-then-key-to : goal.returns-then-key-to
returns-then-key-to g c =
    let map = c.args.array.now.map in
    none_between c.args.from c.args.to map (past_first c.args.from c.args.to map c.in-Some.key c.in-Some.ensures c.if-key-to.true)

pub returns : goal.returns
returns g c = least_is c.args.from c.args.to c.args.array.now.map c.in-Some.key c.in-Some.ensures c.if-key-to.false
