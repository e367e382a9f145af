-- What a line's outcome can be.
use Rattle.std.proofs.Common.{◌≡◌, ◌≢◌, ℕ, Bool, true, false, inl, inr, cond, List, [], ◌∷◌, Option, Some, None, Result, Ok, Err, refl, ap, ◌∙◌}
use Rattle.std.specs.declared.cmp.Ordering.{Ordering}
use Rattle.judy_model.specs.Keys.{word_order, byte_order}
use Rattle.std.specs.Prelude.{ok_or, nat_lt, nat_le, ◌&&◌, is_none, length, nat_eq}
use Rattle.std.specs.List.{starts_with}
use Rattle.judy_model.specs.Arrays.{ArrayOf, ArrayValue, judy1, judyl, judysl, judyhs, is_full}
use Rattle.judy_model.specs.Tokens.{word_of, name_of, tokens_of}
use Rattle.judy_model.specs.KeyTokens.{string_key_of, bytes_key_of}
use Rattle.judy_model.specs.Lines.{Line, is_too_long, text_of}
use Rattle.judy_model.specs.Stores.{Store, array_named}
use Rattle.judy_model.specs.Replies.{Reply, Refusal, line_too_long, unknown_command, argument_count, bad_name, no_such_array, wrong_kind, bad_word, bad_key, bad_limit, exists}
use Rattle.judy_model.specs.Replies.{too_many_arrays, full, no_memory}
use Rattle.judy_model.specs.Kinds.{kind_named}
use Rattle.judy_model.specs.CommandWords as command
use Rattle.judy_model.specs.CommandWords.{KeyCommand, PairCommand, Command, command_named}
use Rattle.judy_model.specs.Commands.{Outcome, ◌>>=◌, provided, limit_at, made, set_on_key, set_on_pair, map_on_key, map_on_pair, words_on_key, words_on_pair, strings_on_key}
use Rattle.judy_model.specs.Commands.{strings_on_pair, on_key, on_pair, freed_whole, at_name, carried_out, name_at, word_at, string_key_at, bytes_key_at, array_at}
use Rattle.judy_model.specs.Steps.{outcome_of, outcome_of_tokens, carried_out_by_word, settled, step, outcome_grows, grows, Step}

module _ {A : Type 0} where
  -- a result that isn't a want of memory
  abbrev pub NeverNoMemory : Result A Refusal → Type 0
  NeverNoMemory result = result ≢ Err no_memory

  given : (value : A) → NeverNoMemory (Ok value)
  given value = λ e. cc

  refused : (refusal : Refusal) → refusal ≢ no_memory → NeverNoMemory (Err refusal)
  refused refusal other = λ e. other (cc)

  chosen : (b : Bool) (x y : Result A Refusal) → NeverNoMemory x → NeverNoMemory y → NeverNoMemory (cond b x y)
  chosen true x y h k = h
  chosen false x y h k = k

  found : (o : Option A) (refusal : Refusal) → refusal ≢ no_memory → NeverNoMemory (ok_or o refusal)
  found None refusal other = refused refusal other
  found (Some value) refusal other = given value

followed : {A B : Type 0} (first : Result A Refusal) (rest : A → Result B Refusal) → NeverNoMemory first → ((value : A) → NeverNoMemory (rest value)) → NeverNoMemory (first >>= rest)
followed (Ok value) rest h k = k value
followed (Err refusal) rest h k = λ e. h (cc)

checked : (holds : Bool) (refusal : Refusal) → refusal ≢ no_memory → NeverNoMemory (provided holds refusal)
checked true refusal other = given tt
checked false refusal other = refused refusal other

a_limit : (limit : Option (List ℕ)) → NeverNoMemory (limit_at limit)
a_limit None = given _
a_limit (Some token) = found (word_of token) bad_word (λ e. cc)

made_never : (store : Store) (name kind : List ℕ) (limit : Option (List ℕ)) → NeverNoMemory (made store name kind limit)
made_never store name kind limit =
    followed (name_at name) _ (found (name_of name) bad_name (λ e. cc)) (λ name'.
    followed (ok_or (kind_named kind) wrong_kind) _ (found (kind_named kind) wrong_kind (λ e. cc)) (λ empty.
    followed (limit_at limit) _ (a_limit limit) (λ limit'.
    followed (provided (nat_lt 0 limit' && nat_le limit' 4294967295) bad_limit) _ (checked _ bad_limit (λ e. cc)) (λ _.
    followed (provided (is_none (array_named store name')) exists) _ (checked _ exists (λ e. cc)) (λ _.
    followed (provided (nat_lt (length store) 64) too_many_arrays) _ (checked _ too_many_arrays (λ e. cc)) (λ _. given _))))))

a_word : (token : List ℕ) → NeverNoMemory (word_at token)
a_word token = found (word_of token) bad_word (λ e. cc)

-- what is left as it is, by a word that a token says
read_never : (token : List ℕ) (read : ℕ → Result (Outcome ArrayValue) Refusal) → ((word : ℕ) → NeverNoMemory (read word)) → NeverNoMemory (word_at token >>= read)
read_never token read h = followed (word_at token) read (a_word token) h

wrong : {A : Type 0} → NeverNoMemory {A = A} (Err wrong_kind)
wrong = refused wrong_kind (λ e. cc)

set_key_never : (command : KeyCommand) (set : ArrayOf word_order) (token : List ℕ) → NeverNoMemory (set_on_key command set token)
set_key_never command.set set token = read_never token _ (λ key. chosen (is_full set key) _ _ (refused full (λ e. cc)) (given _))
set_key_never command.unset set token = read_never token _ (λ key. given _)
set_key_never command.test set token = read_never token _ (λ key. given _)
set_key_never command.get set token = wrong
set_key_never command.del set token = wrong
set_key_never (command.neighbour side) set token = read_never token _ (λ key. given _)
set_key_never (command.empty side) set token = read_never token _ (λ key. given _)
set_key_never command.by_count set token = read_never token _ (λ key. given _)

set_pair_never : (command : PairCommand) (set : ArrayOf word_order) (key value : List ℕ) → NeverNoMemory (set_on_pair command set key value)
set_pair_never command.ins set key value = wrong
set_pair_never command.put set key value = wrong
set_pair_never command.count set key value = read_never key _ (λ k. read_never value _ (λ v. given _))

-- what all maps have, by a key that a token says
module _ {K : Type 0} {order : K → K → Ordering} (kind : ArrayOf order → ArrayValue) where
  map_key_never : (command : KeyCommand) (array : ArrayOf order) (said : Result K Refusal) → NeverNoMemory said → NeverNoMemory (map_on_key kind command array said)
  map_key_never command.set array said a_key = wrong
  map_key_never command.unset array said a_key = wrong
  map_key_never command.test array said a_key = wrong
  map_key_never command.get array said a_key = followed said _ a_key (λ key. given _)
  map_key_never command.del array said a_key = followed said _ a_key (λ key. given _)
  map_key_never (command.neighbour side) array said a_key = wrong
  map_key_never (command.empty side) array said a_key = wrong
  map_key_never command.by_count array said a_key = wrong

  map_pair_never : (command : PairCommand) (array : ArrayOf order) (said : Result K Refusal) (value : List ℕ) → NeverNoMemory said → NeverNoMemory (map_on_pair kind command array said value)
  map_pair_never command.ins array said value a_key =
      followed said _ a_key (λ k. read_never value _ (λ v. chosen (is_full array k) _ _ (refused full (λ e. cc)) (given _)))
  map_pair_never command.put array said value a_key = followed said _ a_key (λ k. read_never value _ (λ v. given _))
  map_pair_never command.count array said value a_key = wrong

words_key_never : (command : KeyCommand) (array : ArrayOf word_order) (token : List ℕ) → NeverNoMemory (words_on_key command array token)
words_key_never command.set array token = wrong
words_key_never command.unset array token = wrong
words_key_never command.test array token = wrong
words_key_never command.get array token = map_key_never judyl command.get array (word_at token) (a_word token)
words_key_never command.del array token = map_key_never judyl command.del array (word_at token) (a_word token)
words_key_never (command.neighbour side) array token = read_never token _ (λ key. given _)
words_key_never (command.empty side) array token = read_never token _ (λ key. given _)
words_key_never command.by_count array token = read_never token _ (λ key. given _)

words_pair_never : (command : PairCommand) (array : ArrayOf word_order) (key value : List ℕ) → NeverNoMemory (words_on_pair command array key value)
words_pair_never command.ins array key value = map_pair_never judyl command.ins array (word_at key) value (a_word key)
words_pair_never command.put array key value = map_pair_never judyl command.put array (word_at key) value (a_word key)
words_pair_never command.count array key value = read_never key _ (λ k. read_never value _ (λ v. given _))

a_string_key : (token : List ℕ) → NeverNoMemory (string_key_at token)
a_string_key token = found (string_key_of token) bad_key (λ e. cc)

a_bytes_key : (token : List ℕ) → NeverNoMemory (bytes_key_at token)
a_bytes_key token = found (bytes_key_of token) bad_key (λ e. cc)

strings_key_never : (command : KeyCommand) (array : ArrayOf byte_order) (token : List ℕ) → NeverNoMemory (strings_on_key command array token)
strings_key_never command.set array token = wrong
strings_key_never command.unset array token = wrong
strings_key_never command.test array token = wrong
strings_key_never command.get array token = map_key_never judysl command.get array (string_key_at token) (a_string_key token)
strings_key_never command.del array token = map_key_never judysl command.del array (string_key_at token) (a_string_key token)
strings_key_never (command.neighbour side) array token = followed (string_key_at token) _ (a_string_key token) (λ key. given _)
strings_key_never (command.empty side) array token = wrong
strings_key_never command.by_count array token = read_never token _ (λ key. given _)

strings_pair_never : (command : PairCommand) (array : ArrayOf byte_order) (key value : List ℕ) → NeverNoMemory (strings_on_pair command array key value)
strings_pair_never command.ins array key value = map_pair_never judysl command.ins array (string_key_at key) value (a_string_key key)
strings_pair_never command.put array key value = map_pair_never judysl command.put array (string_key_at key) value (a_string_key key)
strings_pair_never command.count array key value =
    followed (string_key_at key) _ (a_string_key key) (λ k. followed (string_key_at value) _ (a_string_key value) (λ v. given _))

key_never : (command : KeyCommand) (key : List ℕ) (array : ArrayValue) → NeverNoMemory (on_key command key array)
key_never command key (judy1 set) = set_key_never command set key
key_never command key (judyl array) = words_key_never command array key
key_never command key (judysl array) = strings_key_never command array key
key_never command key (judyhs array) = map_key_never judyhs command array (bytes_key_at key) (a_bytes_key key)

pair_never : (command : PairCommand) (key value : List ℕ) (array : ArrayValue) → NeverNoMemory (on_pair command key value array)
pair_never command key value (judy1 set) = set_pair_never command set key value
pair_never command key value (judyl array) = words_pair_never command array key value
pair_never command key value (judysl array) = strings_pair_never command array key value
pair_never command key value (judyhs array) = map_pair_never judyhs command array (bytes_key_at key) value (a_bytes_key key)

-- a command of one array: the rest of its checks, where the name is one of the store's
named_never : {A : Type 0} (store : Store) (name : List ℕ) (rest : List ℕ → ArrayValue → Result A Refusal) → ((name : List ℕ) (array : ArrayValue) → NeverNoMemory (rest name array)) →
    NeverNoMemory (name_at name >>= (λ name. array_at store name >>= rest name))
named_never store name rest h =
    followed (name_at name) _ (found (name_of name) bad_name (λ e. cc)) (λ name'.
    followed (array_at store name') _ (found (array_named store name') no_such_array (λ e. cc)) (h name'))

at_name_never : (store : Store) (name : List ℕ) (effect : ArrayValue → Result (Outcome ArrayValue) Refusal) → ((array : ArrayValue) → NeverNoMemory (effect array)) →
    NeverNoMemory (at_name store name effect)
at_name_never store name effect h =
    named_never store name _ (λ name' array. followed (effect array) _ (h array) (λ outcome. given _))

miscounted : {A : Type 0} → NeverNoMemory {A = A} (Err argument_count)
miscounted = refused argument_count (λ e. cc)

carried_out_never : (store : Store) (command : Command) (arguments : List (List ℕ)) → NeverNoMemory (carried_out store command arguments)
carried_out_never store command.make [] = miscounted
carried_out_never store command.make (name ∷ []) = miscounted
carried_out_never store command.make (name ∷ kind ∷ []) = made_never store name kind None
carried_out_never store command.make (name ∷ kind ∷ limit ∷ []) = made_never store name kind (Some limit)
carried_out_never store command.make (name ∷ kind ∷ limit ∷ more ∷ rest) = miscounted
carried_out_never store command.list [] = given _
carried_out_never store command.list (name ∷ rest) = miscounted
carried_out_never store command.drop [] = miscounted
carried_out_never store command.drop (name ∷ []) = named_never store name _ (λ name' array. given _)
carried_out_never store command.drop (name ∷ more ∷ rest) = miscounted
carried_out_never store command.free [] = miscounted
carried_out_never store command.free (name ∷ []) = at_name_never store name freed_whole (λ array. given _)
carried_out_never store command.free (name ∷ more ∷ rest) = miscounted
carried_out_never store (command.on_key command) [] = miscounted
carried_out_never store (command.on_key command) (name ∷ []) = miscounted
carried_out_never store (command.on_key command) (name ∷ key ∷ []) = at_name_never store name (on_key command key) (key_never command key)
carried_out_never store (command.on_key command) (name ∷ key ∷ more ∷ rest) = miscounted
carried_out_never store (command.on_pair command) [] = miscounted
carried_out_never store (command.on_pair command) (name ∷ []) = miscounted
carried_out_never store (command.on_pair command) (name ∷ key ∷ []) = miscounted
carried_out_never store (command.on_pair command) (name ∷ key ∷ value ∷ []) = at_name_never store name (on_pair command key value) (pair_never command key value)
carried_out_never store (command.on_pair command) (name ∷ key ∷ value ∷ more ∷ rest) = miscounted

by_word_never : (store : Store) (word : List ℕ) (arguments : List (List ℕ)) → NeverNoMemory (carried_out_by_word store word arguments)
by_word_never store word arguments =
    followed (ok_or (command_named word) unknown_command) _ (found (command_named word) unknown_command (λ e. cc)) (λ command. carried_out_never store command arguments)

of_tokens_never : (store : Store) (tokens : List (List ℕ)) → NeverNoMemory (outcome_of_tokens store tokens)
of_tokens_never store [] = given _
of_tokens_never store (word ∷ arguments) =
    chosen (starts_with nat_eq word (59 ∷ [])) _ _ (given _) (by_word_never store word arguments)

-- what a line does by the definition is never a want of memory
pub outcome_of-never_no_memory : (store : Store) (line : Line) → NeverNoMemory (outcome_of store line)
outcome_of-never_no_memory store line =
    chosen (is_too_long line) _ _ (refused line_too_long (λ e. cc)) (of_tokens_never store (tokens_of (text_of line)))

settled_by : (before after : Store) (outcome : Result (Outcome Store) Refusal) (reply : Reply) → NeverNoMemory outcome → (reply, after) ≡ settled before outcome →
    reply ≡ Err no_memory → after ≡ before
settled_by before after (Ok outcome) reply never e is = absurd (cc (ap (λ p. p.0) e))
settled_by before after (Err refusal) reply never e is = ap (λ p. p.1) e

pub step-refused : (store : Store) (line : Line) (refusal : Refusal) → outcome_of store line ≡ Err refusal → step store line ≡ (Err refusal, store)
step-refused store line refusal e = ap (settled store) e

pub Step-refused : (before after : Store) (line : Line) (refusal : Refusal) (reply : Reply) → outcome_of before line ≡ Err refusal → Step before line reply after →
    (reply ≡ Err refusal) × (after ≡ before)
Step-refused before after line refusal reply e (inl is) =
    let s : (reply, after) ≡ (Err refusal, before) = is ∙ step-refused before line refusal e in
    (ap (λ p. p.0) s, ap (λ p. p.1) s)
Step-refused before after line refusal reply e (inr (grown, is, same)) =
    let never : grows before line ≡ false = ap outcome_grows e in absurd (cc)

pub Step-not_growing : (before after : Store) (line : Line) (reply : Reply) → grows before line ≡ false → Step before line reply after → (reply, after) ≡ step before line
Step-not_growing before after line reply never (inl is) = is
Step-not_growing before after line reply never (inr (grown, is, same)) = absurd (cc)

pub Step-no_memory : (before after : Store) (line : Line) → Step before line (Err no_memory) after → after ≡ before
Step-no_memory before after line (inl is) = settled_by before after (outcome_of before line) _ (outcome_of-never_no_memory before line) is refl
Step-no_memory before after line (inr (grown, is, same)) = same
