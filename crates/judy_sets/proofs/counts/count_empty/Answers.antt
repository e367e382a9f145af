use Rattle.std.proofs.Common.{arith}
use Rattle.judy_laws.proofs.lemmas.WordRanges.{empties_and_keys, none_in_reverse}
use Rattle.judy_sets.proofs.counts.count_empty.Goals as goal

pub returns-then-from-to : goal.returns-then-from-to
returns-then-from-to g c =
    let none = (none_in_reverse c.args.array.now.map c.args.from c.args.to c.if-from-to.true).0 in
    omega (arith, none)

pub returns-then-keys-behind_first : goal.returns-then-keys-behind_first
returns-then-keys-behind_first g c =
    let all = empties_and_keys c.args.array.now.map c.args.from c.args.to in
    let keys = c.count-keys.ensures in
    let more = c.if-keys-behind_first.true in
    let order = c.if-from-to.false in
    omega (arith, all, keys, more, order)

pub returns : goal.returns
returns g c =
    let all = empties_and_keys c.args.array.now.map c.args.from c.args.to in
    let keys = c.count-keys.ensures in
    let few = c.if-keys-behind_first.false in
    let order = c.if-from-to.false in
    let sum = c.saturating_add.ensures in
    omega (arith, all, keys, few, order, sum)
