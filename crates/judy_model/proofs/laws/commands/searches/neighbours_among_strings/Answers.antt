use Rattle.std.proofs.Common.{codes, refl}
use Rattle.judy_model.specs.CommandWords as command
use Rattle.judy_model.proofs.lemmas.commands.SearchCommands.{in_strings}
use Rattle.judy_model.proofs.laws.commands.searches.neighbours_among_strings.Goals as goal

pub returns : goal.returns
returns c = record {
  first = in_strings (codes "first") command.first (record { plain = refl; named = refl });
  next = in_strings (codes "next") command.next (record { plain = refl; named = refl });
  last = in_strings (codes "last") command.last (record { plain = refl; named = refl });
  prev = in_strings (codes "prev") command.prev (record { plain = refl; named = refl });
}
