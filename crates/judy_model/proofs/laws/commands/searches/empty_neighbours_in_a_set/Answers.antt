use Rattle.std.proofs.Common.{codes, refl}
use Rattle.judy_model.specs.CommandWords as command
use Rattle.judy_model.proofs.lemmas.commands.SearchCommands.{beside_set}
use Rattle.judy_model.proofs.laws.commands.searches.empty_neighbours_in_a_set.Goals as goal

pub returns : goal.returns
returns c = record {
  first = beside_set (codes "fe") command.first (record { plain = refl; named = refl });
  next = beside_set (codes "ne") command.next (record { plain = refl; named = refl });
  last = beside_set (codes "le") command.last (record { plain = refl; named = refl });
  prev = beside_set (codes "pe") command.prev (record { plain = refl; named = refl });
}
