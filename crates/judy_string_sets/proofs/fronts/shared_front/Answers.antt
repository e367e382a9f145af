use Rattle.std.proofs.Common.{arith}
use Rattle.judy_string_sets.proofs.FrontFacts.{shared_end}
use Rattle.judy_string_sets.proofs.fronts.shared_front.Goals as goal

pub returns-else-shared-bytes-clause-shared : goal.returns-else-shared-bytes-clause-shared
returns-else-shared-bytes-clause-shared c =
    let all = c.bytes.invariant.2 in
    let none = shared_end c.bytes.shared c.args.key.now c.args.bytes.now (omega (arith, c.if-shared-bytes.false)) in
    omega (arith, none, all)
