use Rattle.std.proofs.Common.{codes, refl}
use Rattle.judy_model.specs.CommandWords as command
use Rattle.judy_model.specs.Arrays.{judyhs}
use Rattle.judy_model.proofs.lemmas.commands.RefusedCommands.{lacks_one, lacks_two}
use Rattle.judy_model.proofs.laws.commands.refusals.bytes_have_no_neighbours.Goals as goal

pub returns-clause-first : goal.returns-clause-first
returns-clause-first c = (
  lacks_one judyhs (codes "first") (command.neighbour command.first) (record { plain = refl; named = refl }) (λ _ _. refl),
  lacks_one judyhs (codes "fe") (command.empty command.first) (record { plain = refl; named = refl }) (λ _ _. refl),
)

pub returns-clause-next : goal.returns-clause-next
returns-clause-next c = (
  lacks_one judyhs (codes "next") (command.neighbour command.next) (record { plain = refl; named = refl }) (λ _ _. refl),
  lacks_one judyhs (codes "ne") (command.empty command.next) (record { plain = refl; named = refl }) (λ _ _. refl),
)

pub returns-clause-last : goal.returns-clause-last
returns-clause-last c = (
  lacks_one judyhs (codes "last") (command.neighbour command.last) (record { plain = refl; named = refl }) (λ _ _. refl),
  lacks_one judyhs (codes "le") (command.empty command.last) (record { plain = refl; named = refl }) (λ _ _. refl),
)

pub returns-clause-prev : goal.returns-clause-prev
returns-clause-prev c = (
  lacks_one judyhs (codes "prev") (command.neighbour command.prev) (record { plain = refl; named = refl }) (λ _ _. refl),
  lacks_one judyhs (codes "pe") (command.empty command.prev) (record { plain = refl; named = refl }) (λ _ _. refl),
)

pub returns-clause-by_count : goal.returns-clause-by_count
returns-clause-by_count c = lacks_one judyhs (codes "bycount") command.by_count (record { plain = refl; named = refl }) (λ _ _. refl)

pub returns-clause-count : goal.returns-clause-count
returns-clause-count c = lacks_two judyhs (codes "count") command.count (record { plain = refl; named = refl }) (λ _ _ _. refl)
