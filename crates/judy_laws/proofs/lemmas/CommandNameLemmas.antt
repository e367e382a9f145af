-- A word names a command where it is the command's own.
use Rattle.std.proofs.Common.{◌≡◌, ◌↔◌, ℕ, true, false, cond, List, Option, Some, None, refl, ap, ◌∙◌}
use Rattle.std.specs.Prelude.{bytes_eq}
use Rattle.std.proofs.lemmas.Slice.Eq.{bytes_eq-Decides}
use Rattle.judy_model.specs.CommandWords as command
use Rattle.judy_model.specs.CommandWords.{Neighbour, KeyCommand, PairCommand, Command, command_named}
use Rattle.judy_laws.specs.CommandNames.{name_of_command}

module _ (word : List ℕ) (which : Command) where
  -- the word is the one of the command that a table gives for it
  abbrev IsNamedBy : Option Command → Type 0
  IsNamedBy given = given ≡ Some which → word ≡ name_of_command which

  -- a row of the table, before the others
  row : (first : Command) (others : Option Command) → IsNamedBy others → IsNamedBy (cond (bytes_eq word (name_of_command first)) (Some first) others)
  row first others named =
      elim (bytes_eq word (name_of_command first)) as (λ b. bytes_eq word (name_of_command first) ≡ b → IsNamedBy (cond b (Some first) others)) [
        | true ↦ λ same is. let here : first ≡ which = cc in (bytes_eq-Decides word (name_of_command first)).0 same ∙ ap name_of_command here
        | false ↦ λ _ is. named is
      ] refl

  no_row : IsNamedBy None
  no_row is = cc

  word_of_command : IsNamedBy (command_named word)
  word_of_command =
      row (command.on_key command.by_count) _ (row command.make _ (row command.list _ (row command.drop _ (row command.free _
      (row (command.on_key command.set) _ (row (command.on_key command.unset) _ (row (command.on_key command.test) _
      (row (command.on_key command.get) _ (row (command.on_key command.del) _
      (row (command.on_key (command.neighbour command.first)) _ (row (command.on_key (command.neighbour command.next)) _
      (row (command.on_key (command.neighbour command.last)) _ (row (command.on_key (command.neighbour command.prev)) _
      (row (command.on_key (command.empty command.first)) _ (row (command.on_key (command.empty command.next)) _
      (row (command.on_key (command.empty command.last)) _ (row (command.on_key (command.empty command.prev)) _
      (row (command.on_pair command.ins) _ (row (command.on_pair command.put) _ (row (command.on_pair command.count) _ no_row))))))))))))))))))))

key_command_named : (which : KeyCommand) → command_named (name_of_command (command.on_key which)) ≡ Some (command.on_key which)
key_command_named command.set = refl
key_command_named command.unset = refl
key_command_named command.test = refl
key_command_named command.get = refl
key_command_named command.del = refl
key_command_named (command.neighbour command.first) = refl
key_command_named (command.neighbour command.next) = refl
key_command_named (command.neighbour command.last) = refl
key_command_named (command.neighbour command.prev) = refl
key_command_named (command.empty command.first) = refl
key_command_named (command.empty command.next) = refl
key_command_named (command.empty command.last) = refl
key_command_named (command.empty command.prev) = refl
key_command_named command.by_count = refl

pair_command_named : (which : PairCommand) → command_named (name_of_command (command.on_pair which)) ≡ Some (command.on_pair which)
pair_command_named command.ins = refl
pair_command_named command.put = refl
pair_command_named command.count = refl

own_word : (which : Command) → command_named (name_of_command which) ≡ Some which
own_word command.make = refl
own_word command.list = refl
own_word command.drop = refl
own_word command.free = refl
own_word (command.on_key which) = key_command_named which
own_word (command.on_pair which) = pair_command_named which

pub names_a_command : (word : List ℕ) (which : Command) → (command_named word ≡ Some which) ↔ (word ≡ name_of_command which)
names_a_command word which = (word_of_command word which, λ same. ap command_named same ∙ own_word which)
