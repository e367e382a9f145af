use Rattle.std.proofs.Common.{codes, refl}
use Rattle.judy_model.specs.CommandWords as command
use Rattle.judy_model.proofs.lemmas.commands.RefusedCommands.{empty_in_set_bad}
use Rattle.judy_model.proofs.laws.commands.refusals.a_bad_word_has_no_empty_neighbours_in_a_set.Goals as goal

pub returns : goal.returns
returns c = record {
  first = empty_in_set_bad (codes "fe") command.first (record { plain = refl; named = refl });
  next = empty_in_set_bad (codes "ne") command.next (record { plain = refl; named = refl });
  last = empty_in_set_bad (codes "le") command.last (record { plain = refl; named = refl });
  prev = empty_in_set_bad (codes "pe") command.prev (record { plain = refl; named = refl });
}
