-- What the commands that only read leave as it is, and which commands may add something.
use Rattle.std.proofs.Common.{◌≡◌, ◌⊎◌, inl, inr, ℕ, true, false, List, [], ◌∷◌, Option, Some, None, Result, Ok, refl, sym, ap, ◌∙◌, true≢false, IsTrue, IsFalse, IfOk}
use Rattle.std.specs.Prelude.{bytes_eq, ok_or, nat_lt, nat_le, is_none, length, ◌&&◌, ⊤}
use Rattle.std.specs.FinMap.{get}
use Rattle.std.proofs.lemmas.Bool.{false_from_ne_true}
use Rattle.std.proofs.lemmas.Map.Steps.{set_value_same}
use Rattle.std.proofs.lemmas.Result.{IfOk-at_ok}
use Rattle.std.specs.declared.cmp.Ordering.{Ordering}
use Rattle.judy_model.specs.Keys.{word_order, byte_order}
use Rattle.judy_model.specs.Arrays.{ArrayOf, ArrayValue, judy1, judyl, judysl, judyhs, is_full}
use Rattle.judy_model.specs.Kinds.{kind_named}
use Rattle.judy_model.specs.Stores.{Store, array_named, with_array}
use Rattle.judy_model.specs.Replies.{Refusal, wrong_kind, bad_limit, exists, too_many_arrays}
use Rattle.judy_model.specs.CommandWords as command
use Rattle.judy_model.specs.CommandWords.{KeyCommand, PairCommand, Command, only_reads}
use Rattle.judy_model.specs.Commands.{Outcome, ◌>>=◌, set_on_key, set_on_pair, map_on_key, map_on_pair, words_on_key, words_on_pair, strings_on_key, strings_on_pair, overwritten}
use Rattle.judy_model.specs.Commands.{on_key, on_pair, freed_whole, at_name, name_at, word_at, string_key_at, bytes_key_at, limit_at, provided, made, carried_out}
use Rattle.judy_model.proofs.lemmas.commands.Outcomes.{chosen, followed, anything, by_word, by_name}

-- a command that may add an array or a key
abbrev pub Adds : Command → Type 0
Adds which = (which ≡ command.make) ⊎ (which ≡ command.on_key command.set) ⊎ (which ≡ command.on_pair command.ins)

-- an outcome changes nothing where the command only reads, and grows only where it adds
abbrev Fits : {State : Type 0} → Command → State → Outcome State → Type 0
Fits command state outcome = (IsTrue (only_reads command) → outcome.after ≡ state) × (IsTrue outcome.grows → Adds command)

never : {A : Type 0} → false ≡ true → A
never e = absurd (true≢false (sym e))

-- a check whose value tells nothing
past : {A B : Type 0} (Q : B → Type 0) (first : Result A Refusal) (rest : A → Result B Refusal) → ((value : A) → IfOk (rest value) Q) → IfOk (first >>= rest) Q
past Q first rest each = followed (λ _. ⊤) Q first rest (anything first) (λ value _. each value)

set_key_fits : (which : KeyCommand) (set : ArrayOf word_order) (token : List ℕ) → IfOk (set_on_key which set token) (Fits (command.on_key which) (judy1 set))
set_key_fits command.set set token = by_word _ token _ (λ key _. chosen _ (is_full set key) _ _ (λ _. tt) (λ _. (never, λ _. inr (inl refl))))
set_key_fits command.unset set token = by_word _ token _ (λ key _. (never, never))
set_key_fits command.test set token = by_word _ token _ (λ key _. (λ _. refl, never))
set_key_fits command.get set token = tt
set_key_fits command.del set token = tt
set_key_fits (command.neighbour side) set token = by_word _ token _ (λ key _. (λ _. refl, never))
set_key_fits (command.empty side) set token = by_word _ token _ (λ key _. (λ _. refl, never))
set_key_fits command.by_count set token = by_word _ token _ (λ key _. (λ _. refl, never))

-- what all maps have
module _ {K : Type 0} {order : K → K → Ordering} (kind : ArrayOf order → ArrayValue) where
  map_key_fits : (which : KeyCommand) (array : ArrayOf order) (said : Result K Refusal) → IfOk (map_on_key kind which array said) (Fits (command.on_key which) (kind array))
  map_key_fits command.set array said = tt
  map_key_fits command.unset array said = tt
  map_key_fits command.test array said = tt
  map_key_fits command.get array said = past _ said _ (λ key. (λ _. refl, never))
  map_key_fits command.del array said = past _ said _ (λ key. (never, never))
  map_key_fits (command.neighbour side) array said = tt
  map_key_fits (command.empty side) array said = tt
  map_key_fits command.by_count array said = tt

  overwritten_fits : (array : ArrayOf order) (key : K) (value : ℕ) (before : Option ℕ) → Fits (command.on_pair command.put) (kind array) (overwritten kind array key value before)
  overwritten_fits array key value None = (never, never)
  overwritten_fits array key value (Some before) = (never, never)

  map_pair_fits : (which : PairCommand) (array : ArrayOf order) (said : Result K Refusal) (value : List ℕ) → IfOk (map_on_pair kind which array said value) (Fits (command.on_pair which) (kind array))
  map_pair_fits command.ins array said value =
      past _ said _ (λ k. by_word _ value _ (λ v _. chosen _ (is_full array k) _ _ (λ _. tt) (λ _. (never, λ _. inr (inr refl)))))
  map_pair_fits command.put array said value = past _ said _ (λ k. by_word _ value _ (λ v _. overwritten_fits array k v (get array.map k)))
  map_pair_fits command.count array said value = tt

words_key_fits : (which : KeyCommand) (array : ArrayOf word_order) (token : List ℕ) → IfOk (words_on_key which array token) (Fits (command.on_key which) (judyl array))
words_key_fits command.set array token = tt
words_key_fits command.unset array token = tt
words_key_fits command.test array token = tt
words_key_fits command.get array token = map_key_fits judyl command.get array (word_at token)
words_key_fits command.del array token = map_key_fits judyl command.del array (word_at token)
words_key_fits (command.neighbour side) array token = by_word _ token _ (λ key _. (λ _. refl, never))
words_key_fits (command.empty side) array token = by_word _ token _ (λ key _. (λ _. refl, never))
words_key_fits command.by_count array token = by_word _ token _ (λ key _. (λ _. refl, never))

strings_key_fits : (which : KeyCommand) (array : ArrayOf byte_order) (token : List ℕ) → IfOk (strings_on_key which array token) (Fits (command.on_key which) (judysl array))
strings_key_fits command.set array token = tt
strings_key_fits command.unset array token = tt
strings_key_fits command.test array token = tt
strings_key_fits command.get array token = map_key_fits judysl command.get array (string_key_at token)
strings_key_fits command.del array token = map_key_fits judysl command.del array (string_key_at token)
strings_key_fits (command.neighbour side) array token = past _ (string_key_at token) _ (λ key. (λ _. refl, never))
strings_key_fits (command.empty side) array token = tt
strings_key_fits command.by_count array token = by_word _ token _ (λ key _. (λ _. refl, never))

key_fits : (which : KeyCommand) (key : List ℕ) (array : ArrayValue) → IfOk (on_key which key array) (Fits (command.on_key which) array)
key_fits which key (judy1 set) = set_key_fits which set key
key_fits which key (judyl array) = words_key_fits which array key
key_fits which key (judysl array) = strings_key_fits which array key
key_fits which key (judyhs array) = map_key_fits judyhs which array (bytes_key_at key)

set_pair_fits : (which : PairCommand) (set : ArrayOf word_order) (key value : List ℕ) → IfOk (set_on_pair which set key value) (Fits (command.on_pair which) (judy1 set))
set_pair_fits command.ins set key value = tt
set_pair_fits command.put set key value = tt
set_pair_fits command.count set key value = by_word _ key _ (λ from _. by_word _ value _ (λ to _. (λ _. refl, never)))

words_pair_fits : (which : PairCommand) (array : ArrayOf word_order) (key value : List ℕ) → IfOk (words_on_pair which array key value) (Fits (command.on_pair which) (judyl array))
words_pair_fits command.ins array key value = map_pair_fits judyl command.ins array (word_at key) value
words_pair_fits command.put array key value = map_pair_fits judyl command.put array (word_at key) value
words_pair_fits command.count array key value = by_word _ key _ (λ from _. by_word _ value _ (λ to _. (λ _. refl, never)))

strings_pair_fits : (which : PairCommand) (array : ArrayOf byte_order) (key value : List ℕ) → IfOk (strings_on_pair which array key value) (Fits (command.on_pair which) (judysl array))
strings_pair_fits command.ins array key value = map_pair_fits judysl command.ins array (string_key_at key) value
strings_pair_fits command.put array key value = map_pair_fits judysl command.put array (string_key_at key) value
strings_pair_fits command.count array key value = past _ (string_key_at key) _ (λ from. past _ (string_key_at value) _ (λ to. (λ _. refl, never)))

pair_fits : (which : PairCommand) (key value : List ℕ) (array : ArrayValue) → IfOk (on_pair which key value array) (Fits (command.on_pair which) array)
pair_fits which key value (judy1 set) = set_pair_fits which set key value
pair_fits which key value (judyl array) = words_pair_fits which array key value
pair_fits which key value (judysl array) = strings_pair_fits which array key value
pair_fits which key value (judyhs array) = map_pair_fits judyhs which array (bytes_key_at key) value

module _ (store : Store) where
  -- an array that is left as it was leaves the store as it was
  named_fits : (command : Command) (token : List ℕ) (effect : ArrayValue → Result (Outcome ArrayValue) Refusal) → ((array : ArrayValue) → IfOk (effect array) (Fits command array)) →
      IfOk (at_name store token effect) (Fits command store)
  named_fits command token effect fits =
      by_name (Fits command store) store token _ (λ name array here.
      followed (Fits command array) (Fits command store) (effect array) _ (fits array) (λ outcome fit.
      (λ only. ap (with_array store name) (fit.0 only) ∙ set_value_same (bytes_eq name) store array here, fit.1)))

  made_fits : (name kind : List ℕ) (limit : Option (List ℕ)) → IfOk (made store name kind limit) (Fits command.make store)
  made_fits name kind limit =
      past _ (name_at name) _ (λ name.
      past _ (ok_or (kind_named kind) wrong_kind) _ (λ empty.
      past _ (limit_at limit) _ (λ limit.
      past _ (provided (nat_lt 0 limit && nat_le limit 4294967295) bad_limit) _ (λ _.
      past _ (provided (is_none (array_named store name)) exists) _ (λ _.
      past _ (provided (nat_lt (length store) 64) too_many_arrays) _ (λ _. (never, λ _. inl refl)))))))

  carried_out_fits : (which : Command) (arguments : List (List ℕ)) → IfOk (carried_out store which arguments) (Fits which store)
  carried_out_fits command.make [] = tt
  carried_out_fits command.make (name ∷ []) = tt
  carried_out_fits command.make (name ∷ kind ∷ []) = made_fits name kind None
  carried_out_fits command.make (name ∷ kind ∷ limit ∷ []) = made_fits name kind (Some limit)
  carried_out_fits command.make (name ∷ kind ∷ limit ∷ more ∷ rest) = tt
  carried_out_fits command.list [] = (λ _. refl, never)
  carried_out_fits command.list (name ∷ rest) = tt
  carried_out_fits command.drop [] = tt
  carried_out_fits command.drop (name ∷ []) = by_name _ store name _ (λ name array here. (never, never))
  carried_out_fits command.drop (name ∷ more ∷ rest) = tt
  carried_out_fits command.free [] = tt
  carried_out_fits command.free (name ∷ []) = named_fits command.free name freed_whole (λ array. (never, never))
  carried_out_fits command.free (name ∷ more ∷ rest) = tt
  carried_out_fits (command.on_key which) [] = tt
  carried_out_fits (command.on_key which) (name ∷ []) = tt
  carried_out_fits (command.on_key which) (name ∷ key ∷ []) = named_fits (command.on_key which) name (on_key which key) (key_fits which key)
  carried_out_fits (command.on_key which) (name ∷ key ∷ more ∷ rest) = tt
  carried_out_fits (command.on_pair which) [] = tt
  carried_out_fits (command.on_pair which) (name ∷ []) = tt
  carried_out_fits (command.on_pair which) (name ∷ key ∷ []) = tt
  carried_out_fits (command.on_pair which) (name ∷ key ∷ value ∷ []) = named_fits (command.on_pair which) name (on_pair which key value) (pair_fits which key value)
  carried_out_fits (command.on_pair which) (name ∷ key ∷ value ∷ more ∷ rest) = tt

  module _ (command : Command) (arguments : List (List ℕ)) (outcome : Outcome Store) (is : carried_out store command arguments ≡ Ok outcome) where
    fits : Fits command store outcome
    fits = IfOk-at_ok (Fits command store) is (carried_out_fits command arguments)

    -- a command that grows adds an array or a key
    pub grows-Adds : IsTrue outcome.grows → Adds command
    grows-Adds grown = fits.1 grown

    -- one that only reads leaves the store, and doesn't grow
    pub reading_leaves : IsTrue (only_reads command) → (outcome.after ≡ store) × IsFalse outcome.grows
    reading_leaves only = (fits.0 only, false_from_ne_true outcome.grows (λ grown. neither (grows-Adds grown)))
      where
        neither : Adds command → ⊥
        neither (inl is) = never (sym (ap only_reads is) ∙ only)
        neither (inr (inl is)) = never (sym (ap only_reads is) ∙ only)
        neither (inr (inr is)) = never (sym (ap only_reads is) ∙ only)
