-- `tell_nth`: the key that was found is told with its value; where no value was found there is no n-th key, and the buffer stays.
use Rattle.judy_model.specs.Counts.{by_count}
use Rattle.judy_c.proofs.ScanFacts.{nth_told, no_nth_told}
use Rattle.judy_c.proofs.string_counts.tell_nth.Goals as goal

pub returns-in-Some : goal.returns-in-Some
returns-in-Some c =
    nth_told c.args.array.now.map (by_count c.args.array.now.map c.args.n) c.args.buffer.now c.args.count.now c.args.value.now c.by_count_in.new.buffer c.by_count_in.new.len
    c.in-Some.word c.requires c.in-Some.ensures.key c.in-Some.ensures.value

pub returns-in-None : goal.returns-in-None
returns-in-None c =
    no_nth_told c.args.array.now.map c.args.n c.args.buffer.now c.args.count.now c.args.value.now c.by_count_in.new.buffer c.by_count_in.new.len c.in-None.ensures.key c.in-None.ensures.value
