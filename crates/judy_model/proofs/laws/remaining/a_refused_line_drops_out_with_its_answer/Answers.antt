use Rattle.std.proofs.lemmas.Bool.{false_from_ne_true}
use Rattle.judy_model.specs.Remaining.{wants_memory}
use Rattle.judy_model.proofs.lemmas.runs.RemainingLemmas.{wanted, remains}
use Rattle.judy_model.proofs.laws.remaining.a_refused_line_drops_out_with_its_answer.Goals as goal

pub returns-clause-others : goal.returns-clause-others
returns-clause-others c = λ line lines reply replies other. remains line lines replies reply (false_from_ne_true (wants_memory reply) (λ is. other (wanted reply is)))
