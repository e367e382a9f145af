use Rattle.judy_sets.proofs.MeetFacts.{some_counted}
use Rattle.judy_sets.proofs.meets.has_some.Goals as goal

pub returns : goal.returns
returns g c = some_counted _ c.count_sought.result c.count_sought.ensures
