use Rattle.std.proofs.Common.{◌<◌, length, arith}
use Rattle.std.proofs.lemmas.Bool.Decides.{nat_tests}
use Rattle.judy_query.proofs.GivingFacts.{one_given}
use Rattle.judy_query.proofs.givings.fill_one.Goals as goal

pub returns-then-not-is_empty : goal.returns-then-not-is_empty
returns-then-not-is_empty g c =
    let some : 0 < length c.args.out.now = grind (arith, nat_tests) in
    one_given c.args.out.now c.from_pair.result (g.E.FromPair.made c.args.key c.args.value) c.from_pair.ensures c.requires some
