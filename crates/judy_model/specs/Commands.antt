-- What each command does to a store, and what it answers. The checks of a command stand in the order of
-- the refusals: the first that fails is the refusal. (This project's own script over the manual's calls.)
use Rattle.std.specs.Prelude.{ℕ, Bool, true, false, not, ◌&&◌, nat_lt, nat_le, is_none, if◌then◌else◌, List, [], ◌∷◌, length, Option, Some, None, ok_or, unwrap_or, Result, Ok, Err}
use Rattle.std.specs.declared.cmp.Ordering.{Ordering}
use Rattle.std.specs.FinMap.{FinMap, contains_key, get}
use Rattle.judy_model.specs.Keys.{word_order, byte_order}
use Rattle.judy_model.specs.Arrays.{ArrayOf, ArrayValue, judy1, judyl, judysl, judyhs, with_map, ins, write, del, is_full, len_of, emptied}
use Rattle.judy_model.specs.Neighbours as neighbours
use Rattle.judy_model.specs.Empties as empties
use Rattle.judy_model.specs.Counts as counts
use Rattle.judy_model.specs.Kinds.{kind_named}
use Rattle.judy_model.specs.Tokens.{word_of, name_of}
use Rattle.judy_model.specs.KeyTokens.{string_key_of, bytes_key_of}
use Rattle.judy_model.specs.Stores.{Store, array_named, with_array, with_new_array, without_array}
use Rattle.judy_model.specs.Replies.{Answer, done, was, flag, number, entry, string_entry, freed, listed, nothing, Refusal, argument_count, bad_name, no_such_array, wrong_kind}
use Rattle.judy_model.specs.Replies.{bad_word, bad_key, bad_limit, exists, too_many_arrays, full}
use Rattle.judy_model.specs.CommandWords as command
use Rattle.judy_model.specs.CommandWords.{Neighbour, KeyCommand, PairCommand, Command}

-- What a line or a command that isn't refused does to the store, or to the one array that it names: its
-- answer, what stands afterwards, and whether it grows, that is adds a key or an array. Only what grows may
-- find no memory.
pub record Outcome (State : Type 0) : Type 0 where
  pub answer : Answer
  pub after : State
  pub grows : Bool

-- The rest of the checks, where this one gives a value.
infixl 10 ◌>>=◌
abbrev pub ◌>>=◌ : {A B : Type 0} → Result A Refusal → (A → Result B Refusal) → Result B Refusal
Ok value >>= rest = rest value
Err refusal >>= rest = Err refusal

-- A check without a value.
abbrev pub provided : Bool → Refusal → Result (Unit {0}) Refusal
provided holds refusal = if holds then Ok tt else Err refusal

-- The name that a token says, or the refusal of one that says none.
abbrev pub name_at : List ℕ → Result (List ℕ) Refusal
name_at token = ok_or (name_of token) bad_name

-- The word.
abbrev pub word_at : List ℕ → Result ℕ Refusal
word_at token = ok_or (word_of token) bad_word

-- The key of a judysl array.
abbrev pub string_key_at : List ℕ → Result (List ℕ) Refusal
string_key_at token = ok_or (string_key_of token) bad_key

-- The key of a judyhs array.
abbrev pub bytes_key_at : List ℕ → Result (List ℕ) Refusal
bytes_key_at token = ok_or (bytes_key_of token) bad_key

-- The array of a name, or the refusal where there is none.
abbrev pub array_at : Store → List ℕ → Result ArrayValue Refusal
array_at store name = ok_or (array_named store name) no_such_array

-- An outcome that leaves all as it was.
abbrev pub unchanged : {State : Type 0} → State → Answer → Outcome State
unchanged state answer = record { answer = answer; after = state; grows = false }

-- What happens to the array of a name, as what happens to the store.
abbrev pub within : Store → List ℕ → Outcome ArrayValue → Outcome Store
within store name outcome =
    record { answer = outcome.answer; after = with_array store name outcome.after; grows = outcome.grows }

-- ---- what the calls of an array answer, and what they leave

-- The value of a key, as its slot shows it, and 0 where there is no such key.
abbrev pub value_of : {K : Type 0} {order : K → K → Ordering} → FinMap order ℕ → K → ℕ
value_of map key = unwrap_or (get map key) 0

-- The number that was found, or `none`.
abbrev pub number_or_nothing : Option ℕ → Answer
number_or_nothing None = nothing
number_or_nothing (Some found) = number found

-- The key that was found, and its value, as an answer; or `none`.
abbrev pub entry_or_nothing : {K : Type 0} {order : K → K → Ordering} → (K → ℕ → Answer) → FinMap order ℕ → Option K → Answer
entry_or_nothing answer map None = nothing
entry_or_nothing answer map (Some key) = answer key (value_of map key)

-- A key is put into a set, and the answer is whether it was absent.
abbrev pub added : ArrayOf word_order → ℕ → Result (Outcome ArrayValue) Refusal
added set key =
    if is_full set key then Err full
    else Ok (record {
      answer = flag (not (contains_key set.map key));
      after = judy1 (with_map set (ins set.map key));
      grows = not (contains_key set.map key);
    })

-- The slot of the key shows its value, 0 where it is new; then the slot holds the value given.
abbrev pub inserted : {K : Type 0} {order : K → K → Ordering} → (ArrayOf order → ArrayValue) → ArrayOf order → K → ℕ → Result (Outcome ArrayValue) Refusal
inserted kind array key value =
    if is_full array key then Err full
    else Ok (record {
      answer = was (value_of (ins array.map key) key);
      after = kind (with_map array (write (ins array.map key) key value));
      grows = not (contains_key array.map key);
    })

-- Where the key is there, its slot holds the value given afterwards.
abbrev pub overwritten : {K : Type 0} {order : K → K → Ordering} → (ArrayOf order → ArrayValue) → ArrayOf order → K → ℕ → Option ℕ → Outcome ArrayValue
overwritten kind array key value None = unchanged (kind array) nothing
overwritten kind array key value (Some before) =
    record { answer = was before; after = kind (with_map array (write array.map key value)); grows = false }

-- A key is taken out, and the answer is whether it was present.
abbrev pub removed : {K : Type 0} {order : K → K → Ordering} → (ArrayOf order → ArrayValue) → ArrayOf order → K → Outcome ArrayValue
removed kind array key =
    record { answer = flag (contains_key array.map key); after = kind (with_map array (del array.map key)); grows = false }

-- The neighbour of a key on a side.
abbrev pub neighbour_of : {K : Type 0} {order : K → K → Ordering} → Neighbour → FinMap order ℕ → K → Option K
neighbour_of command.first = neighbours.first
neighbour_of command.next = neighbours.next
neighbour_of command.last = neighbours.last
neighbour_of command.prev = neighbours.prev

-- The neighbour of a word among the words that are no keys.
abbrev pub empty_neighbour_of : Neighbour → FinMap word_order ℕ → ℕ → Option ℕ
empty_neighbour_of command.first = empties.first_empty
empty_neighbour_of command.next = empties.next_empty
empty_neighbour_of command.last = empties.last_empty
empty_neighbour_of command.prev = empties.prev_empty

-- ---- the commands that each kind has, beside `free` and `drop`, which all have

-- A judy1 array is a set of words: what its commands of one word do.
abbrev pub set_on_key : KeyCommand → ArrayOf word_order → List ℕ → Result (Outcome ArrayValue) Refusal
set_on_key command.set set token = do
  key ← word_at token
  added set key
set_on_key command.unset set token = do
  key ← word_at token
  Ok (removed judy1 set key)
set_on_key command.test set token = do
  key ← word_at token
  Ok (unchanged (judy1 set) (flag (contains_key set.map key)))
set_on_key (command.neighbour side) set token = do
  key ← word_at token
  Ok (unchanged (judy1 set) (number_or_nothing (neighbour_of side set.map key)))
set_on_key (command.empty side) set token = do
  word ← word_at token
  Ok (unchanged (judy1 set) (number_or_nothing (empty_neighbour_of side set.map word)))
set_on_key command.by_count set token = do
  n ← word_at token
  Ok (unchanged (judy1 set) (number_or_nothing (counts.by_count set.map n)))
set_on_key other set token = Err wrong_kind

-- And of two words.
abbrev pub set_on_pair : PairCommand → ArrayOf word_order → List ℕ → List ℕ → Result (Outcome ArrayValue) Refusal
set_on_pair command.count set from to = do
  from ← word_at from
  to ← word_at to
  Ok (unchanged (judy1 set) (number (counts.count set.map from to)))
set_on_pair other set key value = Err wrong_kind

-- What all maps have: the value of a key is looked up, put in, overwritten and deleted. The key is what a
-- token says, or why it is refused.
module _ {K : Type 0} {order : K → K → Ordering} (kind : ArrayOf order → ArrayValue) where
  -- The commands of one key.
  abbrev pub map_on_key : KeyCommand → ArrayOf order → Result K Refusal → Result (Outcome ArrayValue) Refusal
  map_on_key command.get array said = do
    key ← said
    Ok (unchanged (kind array) (number_or_nothing (get array.map key)))
  map_on_key command.del array said = do
    key ← said
    Ok (removed kind array key)
  map_on_key other array said = Err wrong_kind

  -- The commands of a key and its value.
  abbrev pub map_on_pair : PairCommand → ArrayOf order → Result K Refusal → List ℕ → Result (Outcome ArrayValue) Refusal
  map_on_pair command.ins array said value = do
    key ← said
    value ← word_at value
    inserted kind array key value
  map_on_pair command.put array said value = do
    key ← said
    value ← word_at value
    Ok (overwritten kind array key value (get array.map key))
  map_on_pair other array said value = Err wrong_kind

-- A judyl array is a map from words to words, which has the order of the words beside: what its commands of one word do.
abbrev pub words_on_key : KeyCommand → ArrayOf word_order → List ℕ → Result (Outcome ArrayValue) Refusal
words_on_key (command.neighbour side) array token = do
  key ← word_at token
  Ok (unchanged (judyl array) (entry_or_nothing entry array.map (neighbour_of side array.map key)))
words_on_key (command.empty side) array token = do
  word ← word_at token
  Ok (unchanged (judyl array) (number_or_nothing (empty_neighbour_of side array.map word)))
words_on_key command.by_count array token = do
  n ← word_at token
  Ok (unchanged (judyl array) (entry_or_nothing entry array.map (counts.by_count array.map n)))
words_on_key other array token = map_on_key judyl other array (word_at token)

-- And of two words, or of a word and its value.
abbrev pub words_on_pair : PairCommand → ArrayOf word_order → List ℕ → List ℕ → Result (Outcome ArrayValue) Refusal
words_on_pair command.count array from to = do
  from ← word_at from
  to ← word_at to
  Ok (unchanged (judyl array) (number (counts.count array.map from to)))
words_on_pair other array key value = map_on_pair judyl other array (word_at key) value

-- A judysl array is a map from byte strings to words, which has their order beside: the neighbours of a key, and counts.
abbrev pub strings_on_key : KeyCommand → ArrayOf byte_order → List ℕ → Result (Outcome ArrayValue) Refusal
strings_on_key (command.neighbour side) array token = do
  key ← string_key_at token
  Ok (unchanged (judysl array) (entry_or_nothing string_entry array.map (neighbour_of side array.map key)))
strings_on_key command.by_count array token = do
  n ← word_at token
  Ok (unchanged (judysl array) (entry_or_nothing string_entry array.map (counts.by_count array.map n)))
strings_on_key other array token = map_on_key judysl other array (string_key_at token)

-- And of two keys, or of a key and its value.
abbrev pub strings_on_pair : PairCommand → ArrayOf byte_order → List ℕ → List ℕ → Result (Outcome ArrayValue) Refusal
strings_on_pair command.count array from to = do
  from ← string_key_at from
  to ← string_key_at to
  Ok (unchanged (judysl array) (number (counts.count array.map from to)))
strings_on_pair other array key value = map_on_pair judysl other array (string_key_at key) value

-- ---- the commands of one array

-- What a command of one key does, by the kind of the array. A judyhs array is a map from byte strings, and no more.
abbrev pub on_key : KeyCommand → List ℕ → ArrayValue → Result (Outcome ArrayValue) Refusal
on_key command key (judy1 set) = set_on_key command set key
on_key command key (judyl array) = words_on_key command array key
on_key command key (judysl array) = strings_on_key command array key
on_key command key (judyhs array) = map_on_key judyhs command array (bytes_key_at key)

-- And a command of two keys, or of a key and its value.
abbrev pub on_pair : PairCommand → List ℕ → List ℕ → ArrayValue → Result (Outcome ArrayValue) Refusal
on_pair command key value (judy1 set) = set_on_pair command set key value
on_pair command key value (judyl array) = words_on_pair command array key value
on_pair command key value (judysl array) = strings_on_pair command array key value
on_pair command key value (judyhs array) = map_on_pair judyhs command array (bytes_key_at key) value

-- The array is emptied and keeps its place and its limit.
abbrev pub freed_whole : ArrayValue → Result (Outcome ArrayValue) Refusal
freed_whole array = Ok (record { answer = freed (len_of array); after = emptied array; grows = false })

-- A command of the array that a token names.
abbrev pub at_name : Store → List ℕ → (ArrayValue → Result (Outcome ArrayValue) Refusal) → Result (Outcome Store) Refusal
at_name store name effect = do
  name ← name_at name
  array ← array_at store name
  outcome ← effect array
  Ok (within store name outcome)

-- ---- the commands of the store

-- The limit that the line gives, or else the greatest.
abbrev pub limit_at : Option (List ℕ) → Result ℕ Refusal
limit_at None = Ok 4294967295
limit_at (Some token) = word_at token

-- A new array comes last. A limit is 1 to 4,294,967,295; the name must be new, and a store has at most 64
-- arrays.
abbrev pub made : Store → List ℕ → List ℕ → Option (List ℕ) → Result (Outcome Store) Refusal
made store name kind limit = do
  name ← name_at name
  empty ← ok_or (kind_named kind) wrong_kind
  limit ← limit_at limit
  _ ← provided (nat_lt 0 limit && nat_le limit 4294967295) bad_limit
  _ ← provided (is_none (array_named store name)) exists
  _ ← provided (nat_lt (length store) 64) too_many_arrays
  Ok (record { answer = done; after = with_new_array store name (empty limit); grows = true })

-- The array is taken out of the store; the rest keep their order.
abbrev pub dropped : Store → List ℕ → Result (Outcome Store) Refusal
dropped store name = do
  name ← name_at name
  array ← array_at store name
  Ok (record { answer = freed (len_of array); after = without_array store name; grows = false })

-- ---- which arguments each command takes

-- What a command does with its arguments, or why it is refused; so where they aren't as many as it takes.
abbrev pub carried_out : Store → Command → List (List ℕ) → Result (Outcome Store) Refusal
carried_out store command.make (name ∷ kind ∷ []) = made store name kind None
carried_out store command.make (name ∷ kind ∷ limit ∷ []) = made store name kind (Some limit)
carried_out store command.list [] = Ok (unchanged store (listed store))
carried_out store command.drop (name ∷ []) = dropped store name
carried_out store command.free (name ∷ []) = at_name store name freed_whole
carried_out store (command.on_key command) (name ∷ key ∷ []) = at_name store name (on_key command key)
carried_out store (command.on_pair command) (name ∷ key ∷ value ∷ []) = at_name store name (on_pair command key value)
carried_out store command arguments = Err argument_count
