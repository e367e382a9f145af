use Rattle.std.proofs.Common.{sym, arith}
use Rattle.judy_saved.proofs.LengthLemmas.{keys_fit, entries_fit, long_found, short_passed, all_passed}
use Rattle.judy_saved.proofs.dumps.are_sayable.Goals as goal

pub returns-then-longest-le-LONGEST_KEY-clause-answer : goal.returns-then-longest-le-LONGEST_KEY-clause-answer
returns-then-longest-le-LONGEST_KEY-clause-answer g c =
    let few = c.if-longest-le-LONGEST_KEY.true in
    sym (entries_fit c.args.strings.now.map (λ key value held. let within = c.longest.ensures.within key value held in omega (arith, within, few)))

pub returns-then-not-is_sayable-clause-answer : goal.returns-then-not-is_sayable-clause-answer
returns-then-not-is_sayable-clause-answer g c =
    sym (long_found c.args.strings.now.map c.keys.place (omega (arith, c.keys-test.true, c.len-place-end.ensures.count)) c.is_sayable.result c.is_sayable.ensures c.if-not-is_sayable.true)

pub keys-preserved : goal.keys-preserved
keys-preserved g c =
    short_passed c.args.strings.now.map c.keys.place (omega (arith, c.keys-test.true, c.len-place-end.ensures.count)) c.is_sayable.result c.is_sayable.ensures
    c.if-not-is_sayable.false c.keys.invariant

pub returns-clause-answer : goal.returns-clause-answer
returns-clause-answer g c =
    sym (all_passed c.args.strings.now.map c.keys.place (omega (arith, c.keys-test.false, c.len-place-end.ensures.count)) c.keys.invariant)

pub returns-clause-within : goal.returns-clause-within
returns-clause-within g c true =
    keys_fit c.args.strings.now.map
    (all_passed c.args.strings.now.map c.keys.place (omega (arith, c.keys-test.false, c.len-place-end.ensures.count)) c.keys.invariant)
