use Rattle.std.proofs.Common.{length, ap, ◌∙◌, arith}
use Rattle.judy_leaf.specs.Fills.{made_of}
use Rattle.judy_query.proofs.GivingFacts.{bits_part, bits_room}
use Rattle.judy_query.proofs.givings.fill_in.Goals as goal

pub fill_from-requires-in-BitLeaf-clause-inside : goal.fill_from-requires-in-BitLeaf-clause-inside
fill_from-requires-in-BitLeaf-clause-inside g c =
    let same = bits_room c.args.view.now c.in-BitLeaf.skipped c.in-BitLeaf.list c.in-BitLeaf.is in
    omega (arith, c.requires.inside)

pub returns-in-BitLeaf : goal.returns-in-BitLeaf
returns-in-BitLeaf g c =
    c.fill_from-in-BitLeaf.ensures ∙ ap (made_of g.E.FromPair.made) (bits_part c.args.view.now c.in-BitLeaf.skipped c.in-BitLeaf.list c.in-BitLeaf.is c.args.base c.args.at (length c.args.out.now))
