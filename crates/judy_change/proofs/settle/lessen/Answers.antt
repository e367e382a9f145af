use Rattle.judy_change.proofs.SettleFacts.{settled-tight, settled-kept}
use Rattle.judy_change.proofs.settle.lessen.Goals as goal

pub returns-in-Ok : goal.returns-in-Ok
returns-in-Ok g c = λ loose. settled-tight g.V.Words.WORDS c.args.width loose c.args.child.pairs c.in-Ok.small c.in-Ok.ensures

pub returns-in-Err : goal.returns-in-Err
returns-in-Err g c = λ loose. settled-kept g.V.Words.WORDS c.args.width loose c.args.child c.requires.child c.requires.few
