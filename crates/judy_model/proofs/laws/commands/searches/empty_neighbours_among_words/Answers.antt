use Rattle.std.proofs.Common.{codes, refl}
use Rattle.judy_model.specs.CommandWords as command
use Rattle.judy_model.proofs.lemmas.commands.SearchCommands.{beside_words}
use Rattle.judy_model.proofs.laws.commands.searches.empty_neighbours_among_words.Goals as goal

pub returns : goal.returns
returns c = record {
  first = beside_words (codes "fe") command.first (record { plain = refl; named = refl });
  next = beside_words (codes "ne") command.next (record { plain = refl; named = refl });
  last = beside_words (codes "le") command.last (record { plain = refl; named = refl });
  prev = beside_words (codes "pe") command.prev (record { plain = refl; named = refl });
}
