use Rattle.std.proofs.Common.{◌+◌, length, refl, arith}
use Rattle.judy_node.specs.Views.{view_pairs}
use Rattle.judy_query.proofs.GivingFacts.{next_given, most_given}
use Rattle.judy_query.proofs.stretch.Stretch.fill.Goals as goal

pub returns-clause-given : goal.returns-clause-given
returns-clause-given g c =
    let s = c.self.inside in
    let counted = c.self.invariant.counted in
    let within = c.self.invariant.within in
    let least = c.min-count.ensures in
    next_given g.E.FromPair.made s.base s.at c.min-count.result (s.at + c.min-count.result) (view_pairs s.view) c.args.self.now c.args.out.now c.fill_in.new.out refl c.self.view_is
    (omega arith) (omega arith) c.fill_in.ensures

pub returns-clause-most : goal.returns-clause-most
returns-clause-most g c =
    let s = c.self.inside in
    most_given s.base s.at c.min-count.result s.len (view_pairs s.view) c.args.self.now (length c.args.out.now) c.self.view_is c.self.invariant.counted c.self.invariant.within c.min-count.ensures
