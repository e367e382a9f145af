use Rattle.judy_query.proofs.GivingFacts.{bits_given}
use Rattle.judy_query.proofs.givings.give_whole.Goals as goal

pub returns-else-count-out-3 : goal.returns-else-count-out-3
returns-else-count-out-3 g c = record {
  given = bits_given g.E.FromPair.made c.args.view.now c.in-BitLeaf.skipped c.in-BitLeaf.list c.in-BitLeaf.is c.args.base c.len-count-in-BitLeaf.result c.args.out.now c.fill_from-in-BitLeaf.new.out
      c.len-count-in-BitLeaf.ensures.count c.if-count-out-3.false c.fill_from-in-BitLeaf.ensures;
}
