use Rattle.judy_c.proofs.SavedAnswers.{wanted_behind_all}
use Rattle.judy_c.proofs.saved.loads.boxed_of_dump.Goals as goal

pub returns-in_default-clause-refused : goal.returns-in_default-clause-refused
returns-in_default-clause-refused g c =
    wanted_behind_all (λ limit. g.T.SavedArray.kind.with_limit limit c.in_ok-array.array) g.T.SavedArray.kind.number c.args.bytes.now c.in_ok-array.ensures.read
