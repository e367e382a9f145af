use Rattle.std.proofs.Common.{codes, refl}
use Rattle.judy_model.specs.CommandWords as command
use Rattle.judy_model.specs.Arrays.{judy1}
use Rattle.judy_model.proofs.lemmas.commands.RefusedCommands.{lacks_one, lacks_two}
use Rattle.judy_model.proofs.laws.commands.refusals.a_set_has_no_commands_of_values.Goals as goal

pub returns : goal.returns
returns c = record {
  get = lacks_one judy1 (codes "get") command.get (record { plain = refl; named = refl }) (λ _ _. refl);
  del = lacks_one judy1 (codes "del") command.del (record { plain = refl; named = refl }) (λ _ _. refl);
  put = lacks_two judy1 (codes "put") command.put (record { plain = refl; named = refl }) (λ _ _ _. refl);
  ins = lacks_two judy1 (codes "ins") command.ins (record { plain = refl; named = refl }) (λ _ _ _. refl);
}
