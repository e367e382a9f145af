-- How a line changes the number of arrays and keys.
use Rattle.std.proofs.Common.{◌≡◌, ℕ, ◌+◌, ◌-◌, ◌<◌, ◌≤◌, ◌↔◌, Bool, true, false, cond, not, List, [], ◌∷◌, length, Option, Some, None, Result, Ok, Err, inl, inr, refl, sym, ap}
use Rattle.std.proofs.Common.{◌∙◌, true≢false, arith, IsTrue, IfOk, IfSome, nat_lt, nat_le, nat_eq, ok_or, codes, is_none, is_some}
use Rattle.std.specs.Prelude.{bytes_eq, ⊤, ◌&&◌}
use Rattle.std.specs.List.{starts_with}
use Rattle.std.specs.declared.cmp.Ordering.{Ordering}
use Rattle.std.specs.Cmp.{IsTotalOrder, nat_cmp_total}
use Rattle.std.specs.FinMap.{IsAntisymmetric, empty, get, contains_key, insert, len, len-empty, len-insert, nat_cmp-IsAntisymmetric, slice_cmp-IsAntisymmetric}
use Rattle.std.proofs.lemmas.Cmp.{nat_list_cmp_total}
use Rattle.std.proofs.lemmas.Result.{IfOk-at_ok}
use Rattle.judy_model.specs.Keys.{word_order, byte_order}
use Rattle.judy_model.specs.Arrays.{ArrayOf, ArrayValue, judy1, judyl, judysl, judyhs, len_of, emptied, is_full}
use Rattle.judy_model.specs.Kinds.{kind_named}
use Rattle.judy_model.specs.Lines.{Line, is_too_long, text_of}
use Rattle.judy_model.specs.Tokens.{tokens_of}
use Rattle.judy_model.specs.Stores.{Store, array_named, with_array, with_new_array, without_array}
use Rattle.judy_model.specs.Sizes.{size_of}
use Rattle.judy_model.specs.Replies.{Refusal, no_memory, wrong_kind, bad_limit, exists, too_many_arrays, unknown_command}
use Rattle.judy_model.specs.CommandWords as command
use Rattle.judy_model.specs.CommandWords.{KeyCommand, PairCommand, Command, command_named}
use Rattle.judy_model.specs.Commands.{Outcome, ◌>>=◌, added, inserted, overwritten, removed, set_on_key, set_on_pair, map_on_key, map_on_pair, words_on_key, words_on_pair}
use Rattle.judy_model.specs.Commands.{strings_on_key, strings_on_pair, on_key, on_pair, freed_whole, at_name, name_at, word_at, string_key_at, bytes_key_at, limit_at, provided}
use Rattle.judy_model.specs.Commands.{made, carried_out}
use Rattle.judy_model.specs.Steps.{outcome_of_tokens, outcome_of, settled, step, outcome_grows, grows, Step}
use Rattle.judy_model.proofs.lemmas.maps.ChangesLemmas.{len-ins, len-del, write-ins}
use Rattle.judy_model.proofs.lemmas.commands.StepLemmas.{outcome_of-never_no_memory, NeverNoMemory}
use Rattle.judy_model.proofs.lemmas.commands.Outcomes.{chosen, found, followed, anything, by_word, by_name}

-- one more where something grows, and else no more
abbrev pub Adds : ℕ → ℕ → Bool → Type 0
Adds before after true = after ≡ before + 1
Adds before after false = after ≤ before

Adds-same : (n : ℕ) → Adds n n false
Adds-same n = omega arith

-- a key that is put in
Adds-put : (held : Bool) (before after : ℕ) → after ≡ cond held before (before + 1) → Adds before after (not held)
Adds-put true before after is = omega arith
Adds-put false before after is = is

-- a key that is taken out
Adds-taken : (held : Bool) (before after : ℕ) → after ≡ cond held (before - 1) before → Adds before after false
Adds-taken true before after is = omega arith
Adds-taken false before after is = omega arith

-- what one part of a sum tells, the sum tells
Adds-part : (grown : Bool) (before after all_before all_after : ℕ) → all_after + before ≡ all_before + after → Adds before after grown → Adds all_before all_after grown
Adds-part true before after all_before all_after is adds = omega arith
Adds-part false before after all_before all_after is adds = omega arith

pub Adds-more : (grown : Bool) (before after : ℕ) → Adds before after grown → IsTrue grown ↔ (before < after)
Adds-more true before after adds = (λ _. omega arith, λ _. refl)
Adds-more false before after adds = (λ never. absurd (true≢false (sym never)), λ more. absurd (omega arith))

pub Adds-one : (grown : Bool) (before after : ℕ) → Adds before after grown → IsTrue grown → after ≡ before + 1
Adds-one true before after adds _ = adds
Adds-one false before after adds never = absurd (true≢false (sym never))

-- ---- the commands of one array

-- what a command of one array does to the number of its keys
abbrev Counted : ArrayValue → Outcome ArrayValue → Type 0
Counted array outcome = Adds (len_of array) (len_of outcome.after) outcome.grows

-- of a kind of arrays with keys in an order
module _ {K : Type 0} {order : K → K → Ordering} (total : IsTotalOrder order) (kind : ArrayOf order → ArrayValue) (sized : (array : ArrayOf order) → len_of (kind array) ≡ len array.map)
    (array : ArrayOf order) (key : K) where
  inserted_counted : IsAntisymmetric order → (value : ℕ) → IfOk (inserted kind array key value) (Counted (kind array))
  inserted_counted same value = chosen (Counted (kind array)) (is_full array key) _ _ (λ _. tt) (λ _.
      Adds-put (contains_key array.map key) _ _ (sized _ ∙ ap len (write-ins total array.map key same value) ∙ len-insert total array.map key value ∙
      ap (λ n. cond (contains_key array.map key) n (n + 1)) (sym (sized array))))

  overwritten_counted : (value : ℕ) → Counted (kind array) (overwritten kind array key value (get array.map key))
  overwritten_counted value =
      elim (get array.map key) as (λ before. get array.map key ≡ before → Counted (kind array) (overwritten kind array key value before)) [
        | None ↦ λ _. Adds-same (len_of (kind array))
        | Some before ↦ λ here.
            let same : len_of (kind (record array { map = insert array.map key value })) ≡ len_of (kind array) =
            sized _ ∙ len-insert total array.map key value ∙ ap (λ (found : Option ℕ). cond (is_some found) (len array.map) (len array.map + 1)) here ∙ sym (sized array) in omega arith
      ] refl

  removed_counted : Counted (kind array) (removed kind array key)
  removed_counted =
      Adds-taken (contains_key array.map key) _ _ (sized _ ∙ len-del total array.map key ∙ ap (λ n. cond (contains_key array.map key) (n - 1) n) (sym (sized array)))

module _ (set : ArrayOf word_order) where
  added_counted : (key : ℕ) → IfOk (added set key) (Counted (judy1 set))
  added_counted key = chosen (Counted (judy1 set)) (is_full set key) _ _ (λ _. tt) (λ _.
      Adds-put (contains_key set.map key) _ _ (len-ins nat_cmp_total set.map key))

  set_key_counted : (command : KeyCommand) (token : List ℕ) → IfOk (set_on_key command set token) (Counted (judy1 set))
  set_key_counted command.set token = by_word _ token _ (λ key _. added_counted key)
  set_key_counted command.unset token = by_word _ token _ (λ key _. removed_counted nat_cmp_total judy1 (λ _. refl) set key)
  set_key_counted command.test token = by_word _ token _ (λ key _. Adds-same (len set.map))
  set_key_counted command.get token = tt
  set_key_counted command.del token = tt
  set_key_counted (command.neighbour side) token = by_word _ token _ (λ key _. Adds-same (len set.map))
  set_key_counted (command.empty side) token = by_word _ token _ (λ key _. Adds-same (len set.map))
  set_key_counted command.by_count token = by_word _ token _ (λ key _. Adds-same (len set.map))

  set_pair_counted : (command : PairCommand) (key value : List ℕ) → IfOk (set_on_pair command set key value) (Counted (judy1 set))
  set_pair_counted command.ins key value = tt
  set_pair_counted command.put key value = tt
  set_pair_counted command.count key value = by_word _ key _ (λ from _. by_word _ value _ (λ to _. Adds-same (len set.map)))

-- what all maps have, by the key that is said
module _ {K : Type 0} {order : K → K → Ordering} (total : IsTotalOrder order) (same : IsAntisymmetric order) (kind : ArrayOf order → ArrayValue)
    (sized : (array : ArrayOf order) → len_of (kind array) ≡ len array.map) (array : ArrayOf order) (said : Result K Refusal) where
  by_key : (rest : K → Result (Outcome ArrayValue) Refusal) → ((key : K) → IfOk (rest key) (Counted (kind array))) → IfOk (said >>= rest) (Counted (kind array))
  by_key rest each = followed (λ _. ⊤) (Counted (kind array)) said rest (anything said) (λ key _. each key)

  map_key_counted : (command : KeyCommand) → IfOk (map_on_key kind command array said) (Counted (kind array))
  map_key_counted command.set = tt
  map_key_counted command.unset = tt
  map_key_counted command.test = tt
  map_key_counted command.get = by_key _ (λ key. Adds-same (len_of (kind array)))
  map_key_counted command.del = by_key _ (λ key. removed_counted total kind sized array key)
  map_key_counted (command.neighbour side) = tt
  map_key_counted (command.empty side) = tt
  map_key_counted command.by_count = tt

  map_pair_counted : (command : PairCommand) (value : List ℕ) → IfOk (map_on_pair kind command array said value) (Counted (kind array))
  map_pair_counted command.ins value = by_key _ (λ k. by_word _ value _ (λ v _. inserted_counted total kind sized array k same v))
  map_pair_counted command.put value = by_key _ (λ k. by_word _ value _ (λ v _. overwritten_counted total kind sized array k v))
  map_pair_counted command.count value = tt

module _ (array : ArrayOf word_order) where
  words_key_counted : (command : KeyCommand) (token : List ℕ) → IfOk (words_on_key command array token) (Counted (judyl array))
  words_key_counted command.set token = tt
  words_key_counted command.unset token = tt
  words_key_counted command.test token = tt
  words_key_counted command.get token = map_key_counted nat_cmp_total nat_cmp-IsAntisymmetric judyl (λ _. refl) array (word_at token) command.get
  words_key_counted command.del token = map_key_counted nat_cmp_total nat_cmp-IsAntisymmetric judyl (λ _. refl) array (word_at token) command.del
  words_key_counted (command.neighbour side) token = by_word _ token _ (λ key _. Adds-same (len array.map))
  words_key_counted (command.empty side) token = by_word _ token _ (λ key _. Adds-same (len array.map))
  words_key_counted command.by_count token = by_word _ token _ (λ key _. Adds-same (len array.map))

  words_pair_counted : (command : PairCommand) (key value : List ℕ) → IfOk (words_on_pair command array key value) (Counted (judyl array))
  words_pair_counted command.ins key value = map_pair_counted nat_cmp_total nat_cmp-IsAntisymmetric judyl (λ _. refl) array (word_at key) command.ins value
  words_pair_counted command.put key value = map_pair_counted nat_cmp_total nat_cmp-IsAntisymmetric judyl (λ _. refl) array (word_at key) command.put value
  words_pair_counted command.count key value = by_word _ key _ (λ from _. by_word _ value _ (λ to _. Adds-same (len array.map)))

module _ (array : ArrayOf byte_order) where
  strings_key_counted : (command : KeyCommand) (token : List ℕ) → IfOk (strings_on_key command array token) (Counted (judysl array))
  strings_key_counted command.set token = tt
  strings_key_counted command.unset token = tt
  strings_key_counted command.test token = tt
  strings_key_counted command.get token = map_key_counted nat_list_cmp_total (slice_cmp-IsAntisymmetric nat_cmp-IsAntisymmetric) judysl (λ _. refl) array (string_key_at token) command.get
  strings_key_counted command.del token = map_key_counted nat_list_cmp_total (slice_cmp-IsAntisymmetric nat_cmp-IsAntisymmetric) judysl (λ _. refl) array (string_key_at token) command.del
  strings_key_counted (command.neighbour side) token =
      by_key nat_list_cmp_total (slice_cmp-IsAntisymmetric nat_cmp-IsAntisymmetric) judysl (λ _. refl) array (string_key_at token) _ (λ key. Adds-same (len array.map))
  strings_key_counted (command.empty side) token = tt
  strings_key_counted command.by_count token = by_word _ token _ (λ key _. Adds-same (len array.map))

  strings_pair_counted : (command : PairCommand) (key value : List ℕ) → IfOk (strings_on_pair command array key value) (Counted (judysl array))
  strings_pair_counted command.ins key value = map_pair_counted nat_list_cmp_total (slice_cmp-IsAntisymmetric nat_cmp-IsAntisymmetric) judysl (λ _. refl) array (string_key_at key) command.ins value
  strings_pair_counted command.put key value = map_pair_counted nat_list_cmp_total (slice_cmp-IsAntisymmetric nat_cmp-IsAntisymmetric) judysl (λ _. refl) array (string_key_at key) command.put value
  strings_pair_counted command.count key value =
      followed (λ _. ⊤) _ (string_key_at key) _ (anything (string_key_at key)) (λ from _.
      followed (λ _. ⊤) _ (string_key_at value) _ (anything (string_key_at value)) (λ to _. Adds-same (len array.map)))

key_counted : (command : KeyCommand) (key : List ℕ) (array : ArrayValue) → IfOk (on_key command key array) (Counted array)
key_counted command key (judy1 set) = set_key_counted set command key
key_counted command key (judyl array) = words_key_counted array command key
key_counted command key (judysl array) = strings_key_counted array command key
key_counted command key (judyhs array) = map_key_counted nat_list_cmp_total (slice_cmp-IsAntisymmetric nat_cmp-IsAntisymmetric) judyhs (λ _. refl) array (bytes_key_at key) command

pair_counted : (command : PairCommand) (key value : List ℕ) (array : ArrayValue) → IfOk (on_pair command key value array) (Counted array)
pair_counted command key value (judy1 set) = set_pair_counted set command key value
pair_counted command key value (judyl array) = words_pair_counted array command key value
pair_counted command key value (judysl array) = strings_pair_counted array command key value
pair_counted command key value (judyhs array) = map_pair_counted nat_list_cmp_total (slice_cmp-IsAntisymmetric nat_cmp-IsAntisymmetric) judyhs (λ _. refl) array (bytes_key_at key) command value

none_left : {K : Type 0} (order : K → K → Ordering) (n : ℕ) → len (empty {X = ℕ} {R = order}) ≤ n
none_left order n = let none = len-empty order ℕ in omega arith

emptied_counted : (array : ArrayValue) → len_of (emptied array) ≤ len_of array
emptied_counted (judy1 set) = none_left _ (len set.map)
emptied_counted (judyl array) = none_left _ (len array.map)
emptied_counted (judysl array) = none_left _ (len array.map)
emptied_counted (judyhs array) = none_left _ (len array.map)

-- ---- the changes of a store

size_of-with_array : (store : Store) (name : List ℕ) (array after : ArrayValue) → array_named store name ≡ Some array →
    size_of (with_array store name after) + len_of array ≡ size_of store + len_of after
size_of-with_array [] name array after here = absurd (cc)
size_of-with_array (entry ∷ store) name array after here =
    elim (bytes_eq name entry.0) as (λ b. cond b (Some entry.1) (array_named store name) ≡ Some array →
    size_of (cond b ((entry.0, after) ∷ store) (entry ∷ with_array store name after)) + len_of array ≡ size_of (entry ∷ store) + len_of after) [
      | true ↦ λ is. let same : len_of entry.1 ≡ len_of array = ap len_of (let one : entry.1 ≡ array = cc in one) in omega arith
      | false ↦ λ later. let rest = size_of-with_array store name array after later in omega arith
    ] here

size_of-with_new_array : (store : Store) (name : List ℕ) (array : ArrayValue) → size_of (with_new_array store name array) ≡ size_of store + len_of array + 1
size_of-with_new_array [] name array = omega arith
size_of-with_new_array (entry ∷ store) name array = let rest = size_of-with_new_array store name array in omega arith

size_of-without_array : (store : Store) (name : List ℕ) → size_of (without_array store name) ≤ size_of store
size_of-without_array [] name = omega arith
size_of-without_array (entry ∷ store) name =
    let rest = size_of-without_array store name in
    elim (bytes_eq name entry.0) as (λ b. size_of (cond b store (entry ∷ without_array store name)) ≤ size_of (entry ∷ store)) [
      | true ↦ omega arith
      | false ↦ omega arith
    ]

-- ---- the commands of a store

-- the array that a kind word names has no key
abbrev IsNewKind : (ℕ → ArrayValue) → Type 0
IsNewKind empty = (limit : ℕ) → len_of (empty limit) ≡ 0

either_kind : (named : Bool) (kind : ℕ → ArrayValue) (others : Option (ℕ → ArrayValue)) → IsNewKind kind → IfSome others IsNewKind → IfSome (cond named (Some kind) others) IsNewKind
either_kind true kind others here there = here
either_kind false kind others here there = there

kind_named-IsNewKind : (word : List ℕ) → IfSome (kind_named word) IsNewKind
kind_named-IsNewKind word =
    either_kind (bytes_eq word (codes "judy1")) _ _ (λ limit. len-empty word_order ℕ)
    (either_kind (bytes_eq word (codes "judyl")) _ _ (λ limit. len-empty word_order ℕ)
    (either_kind (bytes_eq word (codes "judysl")) _ _ (λ limit. len-empty byte_order ℕ)
    (either_kind (bytes_eq word (codes "judyhs")) _ _ (λ limit. len-empty byte_order ℕ) tt)))

module _ (store : Store) where
  -- what a command does to the size of the store
  abbrev Grown : Outcome Store → Type 0
  Grown outcome = Adds (size_of store) (size_of outcome.after) outcome.grows

  past : {A B : Type 0} (Q : B → Type 0) (first : Result A Refusal) (rest : A → Result B Refusal) → ((value : A) → IfOk (rest value) Q) → IfOk (first >>= rest) Q
  past Q first rest each = followed (λ _. ⊤) Q first rest (anything first) (λ value _. each value)

  named_grown : (token : List ℕ) (effect : ArrayValue → Result (Outcome ArrayValue) Refusal) → ((array : ArrayValue) → IfOk (effect array) (Counted array)) → IfOk (at_name store token effect) Grown
  named_grown token effect counted =
      by_name Grown store token _ (λ name array here.
      followed (Counted array) Grown (effect array) _ (counted array) (λ outcome adds.
      Adds-part outcome.grows (len_of array) (len_of outcome.after) _ _ (size_of-with_array store name array outcome.after here) adds))

  made_grown : (name kind : List ℕ) (limit : Option (List ℕ)) → IfOk (made store name kind limit) Grown
  made_grown name kind limit =
      past Grown (name_at name) _ (λ name.
      followed IsNewKind Grown (ok_or (kind_named kind) wrong_kind) _ (found IsNewKind (kind_named kind) wrong_kind (kind_named-IsNewKind kind)) (λ empty new.
      past Grown (limit_at limit) _ (λ limit.
      past Grown (provided (nat_lt 0 limit && nat_le limit 4294967295) bad_limit) _ (λ _.
      past Grown (provided (is_none (array_named store name)) exists) _ (λ _.
      past Grown (provided (nat_lt (length store) 64) too_many_arrays) _ (λ _.
      let sized = size_of-with_new_array store name (empty limit) in let none = new limit in omega arith))))))

  carried_out_grown : (which : Command) (arguments : List (List ℕ)) → IfOk (carried_out store which arguments) Grown
  carried_out_grown command.make [] = tt
  carried_out_grown command.make (name ∷ []) = tt
  carried_out_grown command.make (name ∷ kind ∷ []) = made_grown name kind None
  carried_out_grown command.make (name ∷ kind ∷ limit ∷ []) = made_grown name kind (Some limit)
  carried_out_grown command.make (name ∷ kind ∷ limit ∷ more ∷ rest) = tt
  carried_out_grown command.list [] = Adds-same (size_of store)
  carried_out_grown command.list (name ∷ rest) = tt
  carried_out_grown command.drop [] = tt
  carried_out_grown command.drop (name ∷ []) = by_name Grown store name _ (λ name array here. size_of-without_array store name)
  carried_out_grown command.drop (name ∷ more ∷ rest) = tt
  carried_out_grown command.free [] = tt
  carried_out_grown command.free (name ∷ []) = named_grown name freed_whole emptied_counted
  carried_out_grown command.free (name ∷ more ∷ rest) = tt
  carried_out_grown (command.on_key which) [] = tt
  carried_out_grown (command.on_key which) (name ∷ []) = tt
  carried_out_grown (command.on_key which) (name ∷ key ∷ []) = named_grown name (on_key which key) (key_counted which key)
  carried_out_grown (command.on_key which) (name ∷ key ∷ more ∷ rest) = tt
  carried_out_grown (command.on_pair which) [] = tt
  carried_out_grown (command.on_pair which) (name ∷ []) = tt
  carried_out_grown (command.on_pair which) (name ∷ key ∷ []) = tt
  carried_out_grown (command.on_pair which) (name ∷ key ∷ value ∷ []) = named_grown name (on_pair which key value) (pair_counted which key value)
  carried_out_grown (command.on_pair which) (name ∷ key ∷ value ∷ more ∷ rest) = tt

  pub outcome-Adds : (which : Command) (arguments : List (List ℕ)) (outcome : Outcome Store) → carried_out store which arguments ≡ Ok outcome →
      Adds (size_of store) (size_of outcome.after) outcome.grows
  outcome-Adds which arguments outcome is = IfOk-at_ok Grown is (carried_out_grown which arguments)

  of_tokens_grown : (tokens : List (List ℕ)) → IfOk (outcome_of_tokens store tokens) Grown
  of_tokens_grown [] = Adds-same (size_of store)
  of_tokens_grown (word ∷ arguments) =
      chosen Grown (starts_with nat_eq word (59 ∷ [])) _ _ (λ _. Adds-same (size_of store)) (λ _.
      past Grown (ok_or (command_named word) unknown_command) _ (λ which. carried_out_grown which arguments))

  settled_grown : (outcome : Result (Outcome Store) Refusal) → IfOk outcome Grown → Adds (size_of store) (size_of (settled store outcome).1) (outcome_grows outcome)
  settled_grown (Ok outcome) adds = adds
  settled_grown (Err refusal) _ = Adds-same (size_of store)

  pub step-Adds : (line : Line) → Adds (size_of store) (size_of (step store line).1) (grows store line)
  step-Adds line = settled_grown (outcome_of store line) (chosen Grown (is_too_long line) _ _ (λ _. tt) (λ _. of_tokens_grown (tokens_of (text_of line))))

-- a line that is answered want of memory would have added one
pub Step-no_memory_adds : (before after : Store) (line : Line) → Step before line (Err no_memory) after → (size_of (step before line).1 ≡ size_of before + 1) × (after ≡ before)
Step-no_memory_adds before after line (inl is) = absurd (never (outcome_of before line) (outcome_of-never_no_memory before line) is)
  where
    never : (outcome : Result (Outcome Store) Refusal) → NeverNoMemory outcome → (Err no_memory, after) ≡ settled before outcome → ⊥
    never (Ok outcome) other same = cc (ap (λ p. p.0) same)
    never (Err refusal) other same =
        let one : refusal ≡ no_memory = cc (ap (λ p. p.0) same) in absurd (other (ap Err one))
Step-no_memory_adds before after line (inr (grown, is, same)) = (Adds-one (grows before line) _ _ (step-Adds before line) grown, same)
