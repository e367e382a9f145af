-- What the laws of commands speak of: what each line does that says a command, to each store that has the array
-- which it names. A law that several kinds have is stated of a kind.
use Rattle.std.specs.Prelude.{◌≡◌, ℕ, ◌<◌, IsTrue, IsFalse, List, [], ◌∷◌, codes, Option, Some, None, Ok, Err, true, false}
use Rattle.std.specs.declared.cmp.Ordering.{Ordering}
use Rattle.std.specs.FinMap.{FinMap, get, len}
use Rattle.judy_model.specs.Arrays.{ArrayOf, ArrayValue, with_map, ins, write, del}
use Rattle.judy_model.specs.Counts.{count}
use Rattle.judy_model.specs.Lines.{Line, is_too_long, text_of}
use Rattle.judy_model.specs.Tokens.{tokens_of, is_name, word_of}
use Rattle.judy_model.specs.Stores.{Store, array_named, with_array}
use Rattle.judy_model.specs.Replies.{Answer, was, flag, number, nothing, Refusal, argument_count, bad_name, no_such_array, wrong_kind, full}
use Rattle.judy_model.specs.Steps.{step}

-- A line says these tokens where it isn't too long and they stand in it between spaces.
abbrev pub Says : Line → List (List ℕ) → Type 0
Says line tokens = IsFalse (is_too_long line) × (tokens_of (text_of line) ≡ tokens)

-- A line that says a word and arguments is refused for their number, and the store is as it was.
abbrev pub RefusesItsArguments : List ℕ → List (List ℕ) → Type 0
RefusesItsArguments word arguments = (store : Store) (line : Line) → Says line (word ∷ arguments) → step store line ≡ (Err argument_count, store)

-- One that says a word and, where the name of an array stands, no name is refused for that.
abbrev pub RefusesABadName : List ℕ → List (List ℕ) → Type 0
RefusesABadName word arguments =
    (store : Store) (name : List ℕ) (line : Line) → IsFalse (is_name name) → Says line (word ∷ name ∷ arguments) → step store line ≡ (Err bad_name, store)

-- So is one with a name that no array of the store has.
abbrev pub RefusesAMissingArray : List ℕ → List (List ℕ) → Type 0
RefusesAMissingArray word arguments =
    (store : Store) (name : List ℕ) (line : Line) → IsTrue (is_name name) → array_named store name ≡ None → Says line (word ∷ name ∷ arguments) → step store line ≡ (Err no_such_array, store)

-- A line that says a command by its word, the name of an array of the store, and arguments.
module _ (word : List ℕ) (arguments : List (List ℕ)) (array : ArrayValue) where
  -- It has this answer, and another array stands in the place of the one that it names.
  abbrev pub Changes : Answer → ArrayValue → Type 0
  Changes answer after =
      (store : Store) (name : List ℕ) (line : Line) → IsTrue (is_name name) → array_named store name ≡ Some array → Says line (word ∷ name ∷ arguments) →
      step store line ≡ (Ok answer, with_array store name after)

  -- It has this answer, and the store is as it was.
  abbrev pub Answers : Answer → Type 0
  Answers answer =
      (store : Store) (name : List ℕ) (line : Line) → IsTrue (is_name name) → array_named store name ≡ Some array → Says line (word ∷ name ∷ arguments) → step store line ≡ (Ok answer, store)

  -- It is refused, and the store is as it was.
  abbrev pub IsRefused : Refusal → Type 0
  IsRefused refusal =
      (store : Store) (name : List ℕ) (line : Line) → IsTrue (is_name name) → array_named store name ≡ Some array → Says line (word ∷ name ∷ arguments) → step store line ≡ (Err refusal, store)

-- ---- a kind, and the key that a token says to it

module _ {K : Type 0} {order : K → K → Ordering} (kind : ArrayOf order → ArrayValue) (said : List ℕ → Option K) where
  -- `get` answers the value of a key that is there.
  abbrev pub GetAnswersTheValue : Type 0
  GetAnswersTheValue =
      (array : ArrayOf order) (token : List ℕ) (key : K) (value : ℕ) → said token ≡ Some key → get array.map key ≡ Some value → Answers (codes "get") (token ∷ []) (kind array) (number value)

  -- Of a key that isn't there it answers `none`.
  abbrev pub GetOfAbsentIsNone : Type 0
  GetOfAbsentIsNone =
      (array : ArrayOf order) (token : List ℕ) (key : K) → said token ≡ Some key → get array.map key ≡ None → Answers (codes "get") (token ∷ []) (kind array) nothing

  -- `put` answers the value that a key had, and leaves it the one given.
  abbrev pub PutWritesAPresentKey : Type 0
  PutWritesAPresentKey =
      (array : ArrayOf order) (first second : List ℕ) (key : K) (value before : ℕ) → said first ≡ Some key → word_of second ≡ Some value → get array.map key ≡ Some before →
      Changes (codes "put") (first ∷ second ∷ []) (kind array) (was before) (kind (with_map array (write array.map key value)))

  -- At a key that isn't there it answers `none` and changes nothing.
  abbrev pub PutLeavesAnAbsentKey : Type 0
  PutLeavesAnAbsentKey =
      (array : ArrayOf order) (first second : List ℕ) (key : K) (value : ℕ) → said first ≡ Some key → word_of second ≡ Some value → get array.map key ≡ None →
      Answers (codes "put") (first ∷ second ∷ []) (kind array) nothing

  -- `ins` at a key that is there answers the value that it had, and leaves it the one given, however full the array is.
  abbrev pub InsWritesAPresentKey : Type 0
  InsWritesAPresentKey =
      (array : ArrayOf order) (first second : List ℕ) (key : K) (value before : ℕ) → said first ≡ Some key → word_of second ≡ Some value → get array.map key ≡ Some before →
      Changes (codes "ins") (first ∷ second ∷ []) (kind array) (was before) (kind (with_map array (write array.map key value)))

  -- At a key that isn't there it answers 0, the value of a new key, and adds the key with the value given.
  abbrev pub InsAddsAnAbsentKey : Type 0
  InsAddsAnAbsentKey =
      (array : ArrayOf order) (first second : List ℕ) (key : K) (value : ℕ) → said first ≡ Some key → word_of second ≡ Some value → get array.map key ≡ None →
      len array.map < array.limit → Changes (codes "ins") (first ∷ second ∷ []) (kind array) (was 0) (kind (with_map array (write (ins array.map key) key value)))

  -- Such a key is refused where the array holds as many keys as its limit.
  abbrev pub InsIsRefusedAtTheLimit : Type 0
  InsIsRefusedAtTheLimit =
      (array : ArrayOf order) (first second : List ℕ) (key : K) (value : ℕ) → said first ≡ Some key → word_of second ≡ Some value → get array.map key ≡ None →
      len array.map ≡ array.limit → IsRefused (codes "ins") (first ∷ second ∷ []) (kind array) full

  -- A delete by its word, `del` or `unset`, answers 1 at a key that is there, and takes it out.
  abbrev pub TakesOutAPresentKey : List ℕ → Type 0
  TakesOutAPresentKey word =
      (array : ArrayOf order) (token : List ℕ) (key : K) (value : ℕ) → said token ≡ Some key → get array.map key ≡ Some value →
      Changes word (token ∷ []) (kind array) (flag true) (kind (with_map array (del array.map key)))

  -- At a key that isn't there it answers 0 and changes nothing.
  abbrev pub LeavesAnAbsentKey : List ℕ → Type 0
  LeavesAnAbsentKey word =
      (array : ArrayOf order) (token : List ℕ) (key : K) → said token ≡ Some key → get array.map key ≡ None → Answers word (token ∷ []) (kind array) (flag false)

  -- `count` answers how many keys lie from the first one said to the second.
  abbrev pub CountsFromTheFirstToTheSecond : Type 0
  CountsFromTheFirstToTheSecond =
      (array : ArrayOf order) (first second : List ℕ) (from to : K) → said first ≡ Some from → said second ≡ Some to →
      Answers (codes "count") (first ∷ second ∷ []) (kind array) (number (count array.map from to))

-- ---- searches: a kind, and what a token says to the search, a key or a number

module _ {K S : Type 0} {order : K → K → Ordering} (kind : ArrayOf order → ArrayValue) (said : List ℕ → Option S) where
  -- The number that is found is the answer.
  abbrev pub AnswersTheNumber : List ℕ → (FinMap order ℕ → S → Option ℕ) → Type 0
  AnswersTheNumber word search =
      (array : ArrayOf order) (token : List ℕ) (from : S) (found : ℕ) → said token ≡ Some from → search array.map from ≡ Some found → Answers word (token ∷ []) (kind array) (number found)

  -- The key that is found is the answer, with the value that it has.
  abbrev pub AnswersTheEntry : (K → ℕ → Answer) → List ℕ → (FinMap order ℕ → S → Option K) → Type 0
  AnswersTheEntry entry word search =
      (array : ArrayOf order) (token : List ℕ) (from : S) (found : K) (value : ℕ) → said token ≡ Some from → search array.map from ≡ Some found →
      get array.map found ≡ Some value → Answers word (token ∷ []) (kind array) (entry found value)

  -- Where nothing is found, `none` is.
  abbrev pub AnswersNone : {A : Type 0} → List ℕ → (FinMap order ℕ → S → Option A) → Type 0
  AnswersNone word search =
      (array : ArrayOf order) (token : List ℕ) (from : S) → said token ≡ Some from → search array.map from ≡ None → Answers word (token ∷ []) (kind array) nothing

  -- ---- bad arguments

  -- A token that says nothing is refused.
  abbrev pub RefusesABadKey : Refusal → List ℕ → Type 0
  RefusesABadKey refusal word = (array : ArrayOf order) (token : List ℕ) → said token ≡ None → IsRefused word (token ∷ []) (kind array) refusal

  -- Of two arguments the first is, whatever the second says.
  abbrev pub RefusesABadFirst : Refusal → List ℕ → Type 0
  RefusesABadFirst refusal word = (array : ArrayOf order) (first second : List ℕ) → said first ≡ None → IsRefused word (first ∷ second ∷ []) (kind array) refusal

  -- Behind a first that says something, a second is that says nothing as it is read, by its refusal.
  abbrev pub RefusesABadSecond : {A : Type 0} → (List ℕ → Option A) → Refusal → List ℕ → Type 0
  RefusesABadSecond read refusal word =
      (array : ArrayOf order) (first second : List ℕ) (key : S) → said first ≡ Some key → read second ≡ None → IsRefused word (first ∷ second ∷ []) (kind array) refusal

  -- ---- what a search answers

  -- The number that is found, or `none`.
  abbrev pub AnswersNumberOrNone : List ℕ → (FinMap order ℕ → S → Option ℕ) → Type 0
  AnswersNumberOrNone word search = AnswersTheNumber word search × AnswersNone word search

  -- The key that is found and its value, or `none`.
  abbrev pub AnswersEntryOrNone : (K → ℕ → Answer) → List ℕ → (FinMap order ℕ → S → Option K) → Type 0
  AnswersEntryOrNone entry word search = AnswersTheEntry entry word search × AnswersNone word search

-- ---- commands that a kind doesn't have

module _ {K : Type 0} {order : K → K → Ordering} (kind : ArrayOf order → ArrayValue) where
  -- A command of one argument is refused, whatever the argument says.
  abbrev pub HasNoCommandOfOne : List ℕ → Type 0
  HasNoCommandOfOne word = (array : ArrayOf order) (token : List ℕ) → IsRefused word (token ∷ []) (kind array) wrong_kind

  -- So is one of two.
  abbrev pub HasNoCommandOfTwo : List ℕ → Type 0
  HasNoCommandOfTwo word = (array : ArrayOf order) (first second : List ℕ) → IsRefused word (first ∷ second ∷ []) (kind array) wrong_kind
