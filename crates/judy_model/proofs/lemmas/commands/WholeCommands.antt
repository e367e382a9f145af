-- What the commands of a whole array and of the store do.
use Rattle.std.proofs.Common.{◌≡◌, ℕ, false, List, [], ◌∷◌, Some, Ok, IsTrue, refl, ap, ◌∙◌}
use Rattle.std.specs.Prelude.{codes}
use Rattle.judy_model.specs.Arrays.{ArrayValue, len_of, emptied}
use Rattle.judy_model.specs.Lines.{Line}
use Rattle.judy_model.specs.Tokens.{is_name}
use Rattle.judy_model.specs.Stores.{Store, array_named, without_array}
use Rattle.judy_model.specs.Replies.{freed, listed}
use Rattle.judy_model.specs.CommandWords as command
use Rattle.judy_model.specs.Commands as commands
use Rattle.judy_model.specs.Steps.{step, settled}
use Rattle.judy_model.specs.CommandLaws.{Says, Changes}
use Rattle.judy_model.proofs.lemmas.commands.CommandLemmas.{Names, step-said, named_array, Changes-by}

free_names : Names (codes "free") command.free
free_names = record { plain = refl; named = refl }

drop_names : Names (codes "drop") command.drop
drop_names = record { plain = refl; named = refl }

list_names : Names (codes "list") command.list
list_names = record { plain = refl; named = refl }

pub freed_array : (array : ArrayValue) → Changes (codes "free") [] array (freed (len_of array)) (emptied array)
freed_array array = Changes-by (codes "free") command.free [] free_names commands.freed_whole (λ _ _. refl) array _ refl

pub dropped_array : (array : ArrayValue) (store : Store) (name : List ℕ) (line : Line) → IsTrue (is_name name) → array_named store name ≡ Some array →
    Says line (codes "drop" ∷ name ∷ []) → step store line ≡ (Ok (freed (len_of array)), without_array store name)
dropped_array array store name line good here says =
    step-said store line (codes "drop") command.drop (name ∷ []) drop_names says
    ∙ ap (settled store) (named_array store name array (λ name array. Ok (record { answer = freed (len_of array); after = without_array store name; grows = false })) good here)

pub listed_store : (store : Store) (line : Line) → Says line (codes "list" ∷ []) → step store line ≡ (Ok (listed store), store)
listed_store store line says = step-said store line (codes "list") command.list [] list_names says
