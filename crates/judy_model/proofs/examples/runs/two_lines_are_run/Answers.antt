use Rattle.std.proofs.Common.{[], ◌∷◌, Ok, Err, inl, inr, refl}
use Rattle.judy_model.specs.Replies.{done, no_memory}
use Rattle.judy_model.specs.Examples.{two_lines}
use Rattle.judy_model.proofs.lemmas.runs.RunLaws.{Run-ample}
use Rattle.judy_model.proofs.examples.runs.two_lines_are_run.Goals as goal

pub returns : goal.returns
returns c = record { ample = Run-ample [] two_lines; short = (Err no_memory ∷ Ok done ∷ [], ([], inr (refl, refl, refl), (_, inl refl, refl)), refl) }
