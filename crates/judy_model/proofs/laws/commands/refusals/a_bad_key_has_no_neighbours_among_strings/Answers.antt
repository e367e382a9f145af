use Rattle.std.proofs.Common.{codes, refl}
use Rattle.judy_model.specs.CommandWords as command
use Rattle.judy_model.proofs.lemmas.commands.RefusedCommands.{neighbour_in_strings_bad}
use Rattle.judy_model.proofs.laws.commands.refusals.a_bad_key_has_no_neighbours_among_strings.Goals as goal

pub returns : goal.returns
returns c = record {
  first = neighbour_in_strings_bad (codes "first") command.first (record { plain = refl; named = refl });
  next = neighbour_in_strings_bad (codes "next") command.next (record { plain = refl; named = refl });
  last = neighbour_in_strings_bad (codes "last") command.last (record { plain = refl; named = refl });
  prev = neighbour_in_strings_bad (codes "prev") command.prev (record { plain = refl; named = refl });
}
