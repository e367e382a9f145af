use Rattle.std.proofs.Common.{arith}
use Rattle.judy_shelf.proofs.SharedLemmas.{shared_key_end}
use Rattle.judy_shelf.proofs.fronts.shared_len.Goals as goal

pub returns-else-shared-key-clause-shared : goal.returns-else-shared-key-clause-shared
returns-else-shared-key-clause-shared c =
    let all = c.bytes.invariant.2 in
    let ended = c.if-shared-key.false in
    let none = shared_key_end c.bytes.shared c.args.before.now c.args.key.now (omega (arith, ended)) in
    omega (arith, none, all)
