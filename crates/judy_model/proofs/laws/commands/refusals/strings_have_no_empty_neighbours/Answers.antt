use Rattle.std.proofs.Common.{codes, refl}
use Rattle.judy_model.specs.CommandWords as command
use Rattle.judy_model.specs.Arrays.{judysl}
use Rattle.judy_model.proofs.lemmas.commands.RefusedCommands.{lacks_one}
use Rattle.judy_model.proofs.laws.commands.refusals.strings_have_no_empty_neighbours.Goals as goal

pub returns : goal.returns
returns c = record {
  first = lacks_one judysl (codes "fe") (command.empty command.first) (record { plain = refl; named = refl }) (λ _ _. refl);
  next = lacks_one judysl (codes "ne") (command.empty command.next) (record { plain = refl; named = refl }) (λ _ _. refl);
  last = lacks_one judysl (codes "le") (command.empty command.last) (record { plain = refl; named = refl }) (λ _ _. refl);
  prev = lacks_one judysl (codes "pe") (command.empty command.prev) (record { plain = refl; named = refl }) (λ _ _. refl);
}
