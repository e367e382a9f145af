use Rattle.std.proofs.Common.{codes, refl}
use Rattle.judy_model.specs.CommandWords as command
use Rattle.judy_model.proofs.lemmas.commands.SearchCommands.{in_set}
use Rattle.judy_model.proofs.laws.commands.searches.neighbours_in_a_set.Goals as goal

pub returns : goal.returns
returns c = record {
  first = in_set (codes "first") command.first (record { plain = refl; named = refl });
  next = in_set (codes "next") command.next (record { plain = refl; named = refl });
  last = in_set (codes "last") command.last (record { plain = refl; named = refl });
  prev = in_set (codes "prev") command.prev (record { plain = refl; named = refl });
}
