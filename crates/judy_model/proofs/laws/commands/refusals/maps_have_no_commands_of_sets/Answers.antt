use Rattle.std.proofs.Common.{codes, refl}
use Rattle.judy_model.specs.CommandWords as command
use Rattle.judy_model.specs.Arrays.{judyl, judysl, judyhs}
use Rattle.judy_model.proofs.lemmas.commands.RefusedCommands.{lacks_one}
use Rattle.judy_model.proofs.laws.commands.refusals.maps_have_no_commands_of_sets.Goals as goal

pub returns-clause-words : goal.returns-clause-words
returns-clause-words c = (
  lacks_one judyl (codes "set") command.set (record { plain = refl; named = refl }) (λ _ _. refl),
  lacks_one judyl (codes "unset") command.unset (record { plain = refl; named = refl }) (λ _ _. refl),
  lacks_one judyl (codes "test") command.test (record { plain = refl; named = refl }) (λ _ _. refl),
)

pub returns-clause-strings : goal.returns-clause-strings
returns-clause-strings c = (
  lacks_one judysl (codes "set") command.set (record { plain = refl; named = refl }) (λ _ _. refl),
  lacks_one judysl (codes "unset") command.unset (record { plain = refl; named = refl }) (λ _ _. refl),
  lacks_one judysl (codes "test") command.test (record { plain = refl; named = refl }) (λ _ _. refl),
)

pub returns-clause-bytes : goal.returns-clause-bytes
returns-clause-bytes c = (
  lacks_one judyhs (codes "set") command.set (record { plain = refl; named = refl }) (λ _ _. refl),
  lacks_one judyhs (codes "unset") command.unset (record { plain = refl; named = refl }) (λ _ _. refl),
  lacks_one judyhs (codes "test") command.test (record { plain = refl; named = refl }) (λ _ _. refl),
)
