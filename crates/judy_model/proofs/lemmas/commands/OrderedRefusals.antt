-- The refusals that come before what a command does to its array.
use Rattle.std.proofs.Common.{◌≡◌, ◌≢◌, ℕ, Bool, true, false, cond, ◌==◌, ◌&&◌, List, [], ◌∷◌, length, Option, Some, None, Result, Ok, Err, is_some, T, IsFalse, refl, sym, ap, subst, ◌∙◌}
use Rattle.std.specs.Prelude.{ok_or, nat_eq, codes}
use Rattle.std.specs.List.{starts_with}
use Rattle.std.proofs.lemmas.Bool.{eqb-true}
use Rattle.judy_model.specs.Arrays.{ArrayValue, len_of}
use Rattle.judy_model.specs.Lines.{Line, text_of}
use Rattle.judy_model.specs.Tokens.{tokens_of}
use Rattle.judy_model.specs.Stores.{Store, without_array}
use Rattle.judy_model.specs.Replies.{Refusal, line_too_long, unknown_command, argument_count, bad_name, no_such_array, silent, freed}
use Rattle.judy_model.specs.CommandWords as command
use Rattle.judy_model.specs.CommandWords.{Command, KeyCommand, PairCommand, command_named}
use Rattle.judy_model.specs.Commands.{Outcome, ◌>>=◌, unchanged, name_at, array_at, carried_out, freed_whole, within, on_key, on_pair}
use Rattle.judy_model.specs.Steps.{step, settled, carried_out_by_word, outcome_of_tokens}
use Rattle.judy_model.specs.CommandLaws.{Says, RefusesItsArguments, RefusesABadName, RefusesAMissingArray}
use Rattle.judy_model.proofs.lemmas.commands.CommandLemmas.{Names, step-said}

-- A word that is no command is refused.
pub unknown : (word : List ℕ) (arguments : List (List ℕ)) (store : Store) (line : Line) → IsFalse (starts_with nat_eq word (59 ∷ [])) → command_named word ≡ None →
    Says line (word ∷ arguments) → step store line ≡ (Err unknown_command, store)
unknown word arguments store line plain none says =
    ap (λ long. settled store (cond long (Err line_too_long) (outcome_of_tokens store (tokens_of (text_of line))))) says.0
    ∙ ap (λ tokens. settled store (outcome_of_tokens store tokens)) says.1
    ∙ ap (λ comment. settled store (cond comment (Ok (unchanged store silent)) (carried_out_by_word store word arguments))) plain
    ∙ ap (λ found. settled store (ok_or found unknown_command >>= (λ command. carried_out store command arguments))) none

-- No command's word begins as a comment does.
semicolon : (byte : ℕ) (rest : List ℕ) (command : Command) → command_named (byte ∷ rest) ≡ Some command → (comment : Bool) → (59 == byte) ≡ comment → comment ≡ false
semicolon byte rest command named false is = refl
semicolon byte rest command named true is =
    let none : command_named (byte ∷ rest) ≡ None = ap (λ byte. command_named (byte ∷ rest)) (sym (eqb-true 59 byte is)) in
    absurd (subst (λ (found : Option Command). T (is_some found)) (sym named ∙ none) tt)

plain : (word : List ℕ) (command : Command) → command_named word ≡ Some command → starts_with nat_eq word (59 ∷ []) ≡ false
plain [] command named = refl
plain (byte ∷ rest) command named = ap (λ b. b && true) (semicolon byte rest command named (59 == byte) refl)

names-by : (word : List ℕ) (command : Command) → command_named word ≡ Some command → Names word command
names-by word command named = record { plain = plain word command named; named = named }

-- The number of the arguments.
module _ (word : List ℕ) (command : Command) (names : Names word command) (arguments : List (List ℕ)) where
  counted : ((store : Store) → carried_out store command arguments ≡ Err argument_count) → RefusesItsArguments word arguments
  counted is store line says = step-said store line word command arguments names says ∙ ap (settled store) (is store)

list-takes : (arguments : List (List ℕ)) → length arguments ≢ 0 → (store : Store) → carried_out store command.list arguments ≡ Err argument_count
list-takes [] other store = absurd (other refl)
list-takes (first ∷ rest) other store = refl

drop-takes : (arguments : List (List ℕ)) → length arguments ≢ 1 → (store : Store) → carried_out store command.drop arguments ≡ Err argument_count
drop-takes [] other store = refl
drop-takes (name ∷ []) other store = absurd (other refl)
drop-takes (name ∷ second ∷ rest) other store = refl

free-takes : (arguments : List (List ℕ)) → length arguments ≢ 1 → (store : Store) → carried_out store command.free arguments ≡ Err argument_count
free-takes [] other store = refl
free-takes (name ∷ []) other store = absurd (other refl)
free-takes (name ∷ second ∷ rest) other store = refl

make-takes : (arguments : List (List ℕ)) → length arguments ≢ 2 → length arguments ≢ 3 → (store : Store) → carried_out store command.make arguments ≡ Err argument_count
make-takes [] two three store = refl
make-takes (name ∷ []) two three store = refl
make-takes (name ∷ kind ∷ []) two three store = absurd (two refl)
make-takes (name ∷ kind ∷ limit ∷ []) two three store = absurd (three refl)
make-takes (name ∷ kind ∷ limit ∷ fourth ∷ rest) two three store = refl

key-takes : (which : KeyCommand) (arguments : List (List ℕ)) → length arguments ≢ 2 → (store : Store) → carried_out store (command.on_key which) arguments ≡ Err argument_count
key-takes which [] other store = refl
key-takes which (name ∷ []) other store = refl
key-takes which (name ∷ key ∷ []) other store = absurd (other refl)
key-takes which (name ∷ key ∷ third ∷ rest) other store = refl

pair-takes : (which : PairCommand) (arguments : List (List ℕ)) → length arguments ≢ 3 → (store : Store) → carried_out store (command.on_pair which) arguments ≡ Err argument_count
pair-takes which [] other store = refl
pair-takes which (name ∷ []) other store = refl
pair-takes which (name ∷ key ∷ []) other store = refl
pair-takes which (name ∷ key ∷ value ∷ []) other store = absurd (other refl)
pair-takes which (name ∷ key ∷ value ∷ fourth ∷ rest) other store = refl

pub list-arguments : (arguments : List (List ℕ)) → length arguments ≢ 0 → RefusesItsArguments (codes "list") arguments
list-arguments arguments other = counted (codes "list") command.list (names-by (codes "list") command.list refl) arguments (list-takes arguments other)

pub make-arguments : (arguments : List (List ℕ)) → length arguments ≢ 2 → length arguments ≢ 3 → RefusesItsArguments (codes "make") arguments
make-arguments arguments two three = counted (codes "make") command.make (names-by (codes "make") command.make refl) arguments (make-takes arguments two three)

pub drop-arguments : (arguments : List (List ℕ)) → length arguments ≢ 1 → RefusesItsArguments (codes "drop") arguments
drop-arguments arguments other = counted (codes "drop") command.drop (names-by (codes "drop") command.drop refl) arguments (drop-takes arguments other)

pub free-arguments : (arguments : List (List ℕ)) → length arguments ≢ 1 → RefusesItsArguments (codes "free") arguments
free-arguments arguments other = counted (codes "free") command.free (names-by (codes "free") command.free refl) arguments (free-takes arguments other)

pub key-arguments : (which : KeyCommand) (word : List ℕ) (arguments : List (List ℕ)) → command_named word ≡ Some (command.on_key which) → length arguments ≢ 2 → RefusesItsArguments word arguments
key-arguments which word arguments named other = counted word (command.on_key which) (names-by word (command.on_key which) named) arguments (key-takes which arguments other)

pub pair-arguments : (which : PairCommand) (word : List ℕ) (arguments : List (List ℕ)) → command_named word ≡ Some (command.on_pair which) → length arguments ≢ 3 → RefusesItsArguments word arguments
pair-arguments which word arguments named other = counted word (command.on_pair which) (names-by word (command.on_pair which) named) arguments (pair-takes which arguments other)

-- The commands that name an array, each with what it does with it.
pub record OfArray (word : List ℕ) (arguments : List (List ℕ)) : Type 0 where
  which : Command
  names : Names word which
  rest : Store → List ℕ → ArrayValue → Result (Outcome Store) Refusal
  does : (store : Store) (name : List ℕ) → carried_out store which (name ∷ arguments) ≡ (name_at name >>= (λ name. array_at store name >>= rest store name))

pub drop-of : OfArray (codes "drop") []
drop-of = record {
  which = command.drop;
  names = names-by (codes "drop") command.drop refl;
  rest = λ store name array. Ok (record { answer = freed (len_of array); after = without_array store name; grows = false });
  does = λ _ _. refl;
}

pub free-of : OfArray (codes "free") []
free-of = record {
  which = command.free;
  names = names-by (codes "free") command.free refl;
  rest = λ store name array. freed_whole array >>= (λ outcome. Ok (within store name outcome));
  does = λ _ _. refl;
}

pub key-of : (which : KeyCommand) (word token : List ℕ) → command_named word ≡ Some (command.on_key which) → OfArray word (token ∷ [])
key-of which word token named = record {
  which = command.on_key which;
  names = names-by word (command.on_key which) named;
  rest = λ store name array. on_key which token array >>= (λ outcome. Ok (within store name outcome));
  does = λ _ _. refl;
}

pub pair-of : (which : PairCommand) (word first second : List ℕ) → command_named word ≡ Some (command.on_pair which) → OfArray word (first ∷ second ∷ [])
pair-of which word first second named = record {
  which = command.on_pair which;
  names = names-by word (command.on_pair which) named;
  rest = λ store name array. on_pair which first second array >>= (λ outcome. Ok (within store name outcome));
  does = λ _ _. refl;
}

-- The name, and the array of that name.
module _ {word : List ℕ} {arguments : List (List ℕ)} (it : OfArray word arguments) where
  pub bad_named : RefusesABadName word arguments
  bad_named store name line bad says =
      step-said store line word it.which (name ∷ arguments) it.names says
      ∙ ap (settled store) (it.does store name)
      ∙ ap (λ b. settled store (ok_or (cond b (Some name) None) bad_name >>= (λ name. array_at store name >>= it.rest store name))) bad

  pub missing : RefusesAMissingArray word arguments
  missing store name line good none says =
      step-said store line word it.which (name ∷ arguments) it.names says
      ∙ ap (settled store) (it.does store name)
      ∙ ap (λ b. settled store (ok_or (cond b (Some name) None) bad_name >>= (λ name. array_at store name >>= it.rest store name))) good
      ∙ ap (λ found. settled store (ok_or found no_such_array >>= it.rest store name)) none
