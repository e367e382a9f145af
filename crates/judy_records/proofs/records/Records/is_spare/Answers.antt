use Rattle.judy_records.proofs.ListHolds.{shift-fits}
use Rattle.judy_records.proofs.SpareLemmas.{number-in, number-spare, spare-number, spare-free}
use Rattle.judy_records.proofs.records.Records.is_spare.Goals as goal

pub locate-number-requires : goal.locate-number-requires
locate-number-requires c = shift-fits c.self.inside c.self.invariant

pub is_spare-requires : goal.is_spare-requires
is_spare-requires c = number-in c.self.inside c.self.invariant c.self.view_is c.args.place c.requires c.locate-number.ensures

pub returns-clause-spare : goal.returns-clause-spare
returns-clause-spare c = (
  λ is. number-spare c.self.inside c.self.invariant c.self.view_is c.args.place c.requires c.locate-number.ensures (c.is_spare.ensures.0 is),
  λ spare. c.is_spare.ensures.1 (spare-number c.self.inside c.self.invariant c.self.view_is c.args.place c.requires c.locate-number.ensures spare),
)

pub returns-clause-free : goal.returns-clause-free
returns-clause-free c = λ is.
    spare-free c.args.self.now c.args.place c.requires
    (number-spare c.self.inside c.self.invariant c.self.view_is c.args.place c.requires c.locate-number.ensures (c.is_spare.ensures.0 is))
