use Rattle.judy_model.proofs.lemmas.dumps.PlaceLemmas.{no_other_flaw}
use Rattle.judy_model.proofs.laws.dumps.no_flaw_before_an_entry.Goals as goal

pub returns : goal.returns
returns c = no_other_flaw
