-- What a line does that says a command: the way from its tokens to what the command does to the array that it names.
use Rattle.std.proofs.Common.{◌≡◌, ℕ, false, cond, List, [], ◌∷◌, Some, None, Result, Ok, Err, IsTrue, refl, ap, ◌∙◌}
use Rattle.std.specs.Prelude.{ok_or, bytes_eq, nat_eq}
use Rattle.std.specs.List.{starts_with}
use Rattle.std.proofs.lemmas.Map.Steps.{set_value_same}
use Rattle.judy_model.specs.Arrays.{ArrayValue}
use Rattle.judy_model.specs.Lines.{Line, text_of}
use Rattle.judy_model.specs.Tokens.{tokens_of, is_name}
use Rattle.judy_model.specs.Stores.{Store, array_named}
use Rattle.judy_model.specs.Replies.{Answer, silent, Refusal, line_too_long, unknown_command, bad_name, no_such_array}
use Rattle.judy_model.specs.CommandWords.{Command, KeyCommand, PairCommand, on_key, on_pair, command_named}
use Rattle.judy_model.specs.Commands as commands
use Rattle.judy_model.specs.Commands.{Outcome, ◌>>=◌, unchanged, within, name_at, array_at, at_name, carried_out}
use Rattle.judy_model.specs.Steps.{step, settled, carried_out_by_word, outcome_of_tokens}
use Rattle.judy_model.specs.CommandLaws.{Says, Changes, Answers, IsRefused}

-- a word that names a command, and so begins no comment
pub record Names (word : List ℕ) (command : Command) : Type 0 where
  pub plain : starts_with nat_eq word (59 ∷ []) ≡ false
  pub named : command_named word ≡ Some command

-- a line that says a command does what the command does
pub step-said : (store : Store) (line : Line) (word : List ℕ) (command : Command) (arguments : List (List ℕ)) → Names word command → Says line (word ∷ arguments) →
    step store line ≡ settled store (carried_out store command arguments)
step-said store line word command arguments names says =
    ap (λ long. settled store (cond long (Err line_too_long) (outcome_of_tokens store (tokens_of (text_of line))))) says.0
    ∙ ap (λ tokens. settled store (outcome_of_tokens store tokens)) says.1
    ∙ ap (λ comment. settled store (cond comment (Ok (unchanged store silent)) (carried_out_by_word store word arguments))) names.plain
    ∙ ap (λ found. settled store (ok_or found unknown_command >>= (λ command. carried_out store command arguments))) names.named

-- the array of a name that stands in the store
pub named_array : {A : Type 0} (store : Store) (name : List ℕ) (array : ArrayValue) (rest : List ℕ → ArrayValue → Result A Refusal) → IsTrue (is_name name) →
    array_named store name ≡ Some array → (name_at name >>= (λ name. array_at store name >>= rest name)) ≡ rest name array
named_array store name array rest is here =
    ap (λ b. ok_or (cond b (Some name) None) bad_name >>= (λ name. array_at store name >>= rest name)) is
    ∙ ap (λ found. ok_or found no_such_array >>= rest name) here

-- what becomes of the store by what becomes of the array
module _ (word : List ℕ) (command : Command) (arguments : List (List ℕ)) (names : Names word command) (effect : ArrayValue → Result (Outcome ArrayValue) Refusal)
    (does : (store : Store) (name : List ℕ) → carried_out store command (name ∷ arguments) ≡ at_name store name effect) (array : ArrayValue) where
  done : (result : Result (Outcome ArrayValue) Refusal) → effect array ≡ result → (store : Store) (name : List ℕ) (line : Line) → IsTrue (is_name name) →
      array_named store name ≡ Some array → Says line (word ∷ name ∷ arguments) → step store line ≡ settled store (result >>= (λ outcome. Ok (within store name outcome)))
  done result is store name line good here says =
      step-said store line word command (name ∷ arguments) names says
      ∙ ap (settled store) (does store name)
      ∙ ap (settled store) (named_array store name array (λ name array. effect array >>= (λ outcome. Ok (within store name outcome))) good here)
      ∙ ap (λ result. settled store (result >>= (λ outcome. Ok (within store name outcome)))) is

  pub Changes-by : (outcome : Outcome ArrayValue) → effect array ≡ Ok outcome → Changes word arguments array outcome.answer outcome.after
  Changes-by outcome is store name line good here says = done (Ok outcome) is store name line good here says

  pub Answers-by : (answer : Answer) → effect array ≡ Ok (unchanged array answer) → Answers word arguments array answer
  Answers-by answer is store name line good here says =
      done (Ok (unchanged array answer)) is store name line good here says
      ∙ ap (λ after. (Ok answer, after)) (set_value_same (bytes_eq name) store array here)

  pub IsRefused-by : (refusal : Refusal) → effect array ≡ Err refusal → IsRefused word arguments array refusal
  IsRefused-by refusal is store name line good here says = done (Err refusal) is store name line good here says

-- a command of one key
module _ (word : List ℕ) (command : KeyCommand) (names : Names word (on_key command)) (token : List ℕ) (array : ArrayValue) where
  pub key-Changes : (outcome : Outcome ArrayValue) → commands.on_key command token array ≡ Ok outcome → Changes word (token ∷ []) array outcome.answer outcome.after
  key-Changes = Changes-by word (on_key command) (token ∷ []) names (commands.on_key command token) (λ _ _. refl) array

  pub key-Answers : (answer : Answer) → commands.on_key command token array ≡ Ok (unchanged array answer) → Answers word (token ∷ []) array answer
  key-Answers = Answers-by word (on_key command) (token ∷ []) names (commands.on_key command token) (λ _ _. refl) array

  pub key-IsRefused : (refusal : Refusal) → commands.on_key command token array ≡ Err refusal → IsRefused word (token ∷ []) array refusal
  key-IsRefused = IsRefused-by word (on_key command) (token ∷ []) names (commands.on_key command token) (λ _ _. refl) array

-- a command of two
module _ (word : List ℕ) (command : PairCommand) (names : Names word (on_pair command)) (first second : List ℕ) (array : ArrayValue) where
  pub pair-Changes : (outcome : Outcome ArrayValue) → commands.on_pair command first second array ≡ Ok outcome → Changes word (first ∷ second ∷ []) array outcome.answer outcome.after
  pair-Changes = Changes-by word (on_pair command) (first ∷ second ∷ []) names (commands.on_pair command first second) (λ _ _. refl) array

  pub pair-Answers : (answer : Answer) → commands.on_pair command first second array ≡ Ok (unchanged array answer) → Answers word (first ∷ second ∷ []) array answer
  pair-Answers = Answers-by word (on_pair command) (first ∷ second ∷ []) names (commands.on_pair command first second) (λ _ _. refl) array

  pub pair-IsRefused : (refusal : Refusal) → commands.on_pair command first second array ≡ Err refusal → IsRefused word (first ∷ second ∷ []) array refusal
  pair-IsRefused = IsRefused-by word (on_pair command) (first ∷ second ∷ []) names (commands.on_pair command first second) (λ _ _. refl) array
