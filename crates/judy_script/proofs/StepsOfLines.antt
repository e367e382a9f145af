-- From what a line's tokens do to a step of the run.
use Rattle.std.proofs.Common.{◌≡◌, ℕ, false, cond, List, [], ◌∷◌, Option, Some, None, Result, Ok, Err, inl, inr, refl, sym, ap, ◌∙◌}
use Rattle.std.specs.Prelude.{take, ok_or, nat_eq}
use Rattle.std.specs.List.{starts_with}
use Rattle.judy_model.specs.Lines.{Line, is_too_long, text_of}
use Rattle.judy_model.specs.Tokens.{tokens_of}
use Rattle.judy_model.specs.Stores.{Store}
use Rattle.judy_model.specs.Replies.{Reply, Refusal, silent, unknown_command}
use Rattle.judy_model.specs.CommandWords.{Command, make, list, drop, free, on_key, on_pair, command_named}
use Rattle.judy_model.specs.Commands.{Outcome, ◌>>=◌, unchanged, carried_out}
use Rattle.judy_model.specs.Steps.{Step, outcome_grows, outcome_of, outcome_of_tokens}
use Rattle.judy_command.specs.Follows.{Follows}

-- what follows an outcome is what the line relation allows
Step-by : (before after : Store) (outcome : Result (Outcome Store) Refusal) (line : Line) (reply : Reply) → outcome_of before line ≡ outcome →
    Follows before outcome reply after → Step before line reply after
Step-by before after (Ok outcome) line (Ok answer) is h = inl (rw (is, h.0, h.1) refl)
Step-by before after (Ok outcome) line (Err refusal) is h = inr (ap outcome_grows is ∙ h.0, ap Err h.1, h.2)
Step-by before after (Err first) line (Ok answer) is h = absurd h
Step-by before after (Err first) line (Err refusal) is h = inl (rw (is, h.0, h.1) refl)

pub Step-Follows : (before after : Store) (line : Line) (reply : Reply) → Follows before (outcome_of before line) reply after → Step before line reply after
Step-Follows before after line reply h = Step-by before after (outcome_of before line) line reply refl h

-- four arguments decide: no command takes as many
carried_out-take : (store : Store) (command : Command) (arguments : List (List ℕ)) → carried_out store command (take 4 arguments) ≡ carried_out store command arguments
carried_out-take store command [] = refl
carried_out-take store command (a ∷ []) = refl
carried_out-take store command (a ∷ b ∷ []) = refl
carried_out-take store command (a ∷ b ∷ c ∷ []) = refl
carried_out-take store make (a ∷ b ∷ c ∷ d ∷ more) = refl
carried_out-take store list (a ∷ b ∷ c ∷ d ∷ more) = refl
carried_out-take store drop (a ∷ b ∷ c ∷ d ∷ more) = refl
carried_out-take store free (a ∷ b ∷ c ∷ d ∷ more) = refl
carried_out-take store (on_key command) (a ∷ b ∷ c ∷ d ∷ more) = refl
carried_out-take store (on_pair command) (a ∷ b ∷ c ∷ d ∷ more) = refl

found-take : (store : Store) (found : Option Command) (arguments : List (List ℕ)) → (ok_or found unknown_command >>= (λ command. carried_out store command (take 4 arguments))) ≡
    (ok_or found unknown_command >>= (λ command. carried_out store command arguments))
found-take store None arguments = refl
found-take store (Some command) arguments = carried_out-take store command arguments

-- so five tokens decide
pub outcome_of_tokens-take : (store : Store) (tokens : List (List ℕ)) → outcome_of_tokens store (take 5 tokens) ≡ outcome_of_tokens store tokens
outcome_of_tokens-take store [] = refl
outcome_of_tokens-take store (word ∷ arguments) =
    ap (λ carried. cond (starts_with nat_eq word (59 ∷ [])) (Ok (unchanged store silent)) carried) (found-take store (command_named word) arguments)

-- a line of at most 4,096 bytes does what its first five tokens do
pub outcome_of-tokens : (store : Store) (line : Line) (tokens : List (List ℕ)) → is_too_long line ≡ false → tokens ≡ take 5 (tokens_of (text_of line)) →
    outcome_of store line ≡ outcome_of_tokens store tokens
outcome_of-tokens store line tokens fits same = rw (fits, same) (sym (outcome_of_tokens-take store (tokens_of (text_of line))))
