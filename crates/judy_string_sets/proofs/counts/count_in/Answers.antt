use Rattle.std.proofs.Common.{arith}
use Rattle.judy_model.specs.TwoMaps.{intersection}
use Rattle.judy_string_sets.proofs.PartFacts.{taken_fewer, none_len}
use Rattle.judy_string_sets.proofs.CountFacts.{common_most}
use Rattle.judy_string_sets.proofs.counts.count_in.Goals as goal

pub overflow_add-count : goal.overflow_add-count
overflow_add-count g c =
    let other = c.args.other.now.map in
    let fewer = taken_fewer (intersection c.keys.keys.map other) c.next_of.new.keys.key c.in-Some._value (intersection c.next_of.new.keys.map other) c.in-Some.ensures in
    let counted = c.keys.invariant in
    let most = common_most c.args.one.now.map other in
    let long = c.len-most.ensures.count in
    omega (arith, fewer, counted, most, long)

pub keys-smaller : goal.keys-smaller
keys-smaller g c =
    let other = c.args.other.now.map in
    let fewer = taken_fewer (intersection c.keys.keys.map other) c.next_of.new.keys.key c.in-Some._value (intersection c.next_of.new.keys.map other) c.in-Some.ensures in
    omega (arith, fewer)

pub keys-preserved : goal.keys-preserved
keys-preserved g c =
    let other = c.args.other.now.map in
    let fewer = taken_fewer (intersection c.keys.keys.map other) c.next_of.new.keys.key c.in-Some._value (intersection c.next_of.new.keys.map other) c.in-Some.ensures in
    let counted = c.keys.invariant in
    omega (arith, fewer, counted)

pub returns : goal.returns
returns g c =
    let none = none_len (intersection c.keys.keys.map c.args.other.now.map) c.in_default.ensures in
    let counted = c.keys.invariant in
    omega (arith, none, counted)
