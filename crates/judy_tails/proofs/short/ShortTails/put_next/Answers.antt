use Rattle.std.proofs.Common.{length, arith}
use Rattle.judy_tails.proofs.short.ShortTails.put_next.Goals as goal

pub put_in-requires-clause-number : goal.put_in-requires-clause-number
put_in-requires-clause-number c = omega (arith, c.requires.next, c.are_few.ensures (length c.args.text.now))
