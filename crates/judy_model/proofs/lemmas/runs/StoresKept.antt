-- What every store keeps, and that its limits are those of scripts, through the changes of a store, a line
-- and a run.
use Rattle.std.proofs.Common.{◌≡◌, ℕ, ◌≤◌, ◌<◌, Bool, true, false, cond, ◌&&◌, inl, inr, List, [], ◌∷◌, ◌++◌, map, length, Option, Some, None, Result, Ok, Err, is_some, is_none}
use Rattle.std.proofs.Common.{refl, sym, ap, subst, ◌∙◌, arith, All, IsTrue, IfOk, IfSome, nat_lt, nat_le, nat_eq, codes, ok_or}
use Rattle.std.specs.Prelude.{bytes_eq, ⊤}
use Rattle.std.specs.List.{IsDistinct, AllByRecursion, starts_with}
use Rattle.std.specs.Map.{keys_of, values_of, remove_entry}
use Rattle.std.proofs.lemmas.Bool.{and_parts, ltb-true, leb-true}
use Rattle.std.proofs.lemmas.Cmp.{nat_list_eq_equiv}
use Rattle.std.proofs.lemmas.List.{length_push, map-append}
use Rattle.std.proofs.lemmas.List.Elements.{All-nil, All-push}
use Rattle.std.proofs.lemmas.Map.{keys-set_value, length-set_value}
use Rattle.std.proofs.lemmas.Map.Keys.{IsDistinct-head, IsDistinct-tail, IsDistinct-cons, IsDistinct-push}
use Rattle.std.proofs.lemmas.Map.Made.{is_some-lookup}
use Rattle.std.proofs.lemmas.Map.Views.{All-map-remove_entry, All-values-set_value, IfSome-lookup_from_All}
use Rattle.judy_model.specs.Keys.{IsWord, IsStringKey, IsBytesKey}
use Rattle.judy_model.specs.Arrays.{ArrayValue, judy1, judyl, judysl, judyhs, IsArray, limit_of, empty_array}
use Rattle.judy_model.specs.Kinds.{kind_named}
use Rattle.judy_model.specs.Tokens.{is_name, name_of, tokens_of}
use Rattle.judy_model.specs.Lines.{Line, lines_of, is_too_long, text_of}
use Rattle.judy_model.specs.Stores.{Store, IsStore, IsRegular, array_named, with_array, with_new_array, without_array}
use Rattle.judy_model.specs.Replies.{Reply, Refusal, bad_name, wrong_kind, bad_limit, exists, too_many_arrays, unknown_command}
use Rattle.judy_model.specs.CommandWords as command
use Rattle.judy_model.specs.CommandWords.{Command, command_named}
use Rattle.judy_model.specs.Commands.{Outcome, provided, name_at, limit_at, made, at_name, on_key, on_pair, freed_whole, carried_out}
use Rattle.judy_model.specs.Steps.{outcome_of_tokens, outcome_of, settled, Step}
use Rattle.judy_model.specs.Runs.{Steps, Run, CutOff}
use Rattle.judy_model.proofs.lemmas.commands.Outcomes.{by_name, chosen, found, followed, checked, anything}
use Rattle.judy_model.proofs.lemmas.runs.ArraysKept.{Keeps, empty-IsArrayOf, on_key-Keeps, on_pair-Keeps, freed_whole-Keeps}
use Rattle.judy_model.proofs.lemmas.maps.ValuesLemmas.{All-values-empty}

-- ---- the changes of a store

module _ {K X : Type 0} (test : K → Bool) where
  length-remove_entry : (pairs : List (K × X)) → length (remove_entry test pairs) ≤ length pairs
  length-remove_entry [] = omega arith
  length-remove_entry (pair ∷ pairs) =
      let rest = length-remove_entry pairs in
      elim (test pair.0) as (λ b. length (cond b pairs (pair ∷ remove_entry test pairs)) ≤ length (pair ∷ pairs)) [
        | true ↦ omega arith
        | false ↦ omega arith
      ]

  -- what holds of each key holds of those that are left
  left_keys : (P : K → Type 0) (pairs : List (K × X)) → AllByRecursion P (keys_of pairs) → AllByRecursion P (keys_of (remove_entry test pairs))
  left_keys P [] all = tt
  left_keys P (pair ∷ pairs) all =
      elim (test pair.0) as (λ b. AllByRecursion P (keys_of (cond b pairs (pair ∷ remove_entry test pairs)))) [
        | true ↦ all.1
        | false ↦ (all.0, left_keys P pairs all.1)
      ]

  IsDistinct-remove_entry : (same : K → K → Bool) (pairs : List (K × X)) → IsDistinct same (keys_of pairs) → IsDistinct same (keys_of (remove_entry test pairs))
  IsDistinct-remove_entry same [] differ = differ
  IsDistinct-remove_entry same (pair ∷ pairs) differ =
      let later = IsDistinct-tail same pair.0 (keys_of pairs) differ in
      let apart = IsDistinct-head same pair.0 (keys_of pairs) differ in
      elim (test pair.0) as (λ b. IsDistinct same (keys_of (cond b pairs (pair ∷ remove_entry test pairs)))) [
        | true ↦ later
        | false ↦ IsDistinct-cons same pair.0 (keys_of (remove_entry test pairs)) (left_keys (λ key. same pair.0 key ≡ false) pairs apart) (IsDistinct-remove_entry same pairs later)
      ]

-- what is read of each pair, where one more pair comes last
All-map-push : {A Y : Type 0} (read : A → Y) (P : Y → Type 0) (pairs : List A) (pair : A) → All P (map read pairs) → P (read pair) → All P (map read (pairs ++ pair ∷ []))
All-map-push read P pairs pair all here = subst (All P) (sym (map-append read pairs (pair ∷ []))) (All-push P (map read pairs) (read pair) all here)

absent : {A : Type 0} (o : Option A) → is_none o ≡ true → is_some o ≡ false
absent None none = refl
absent (Some value) none = sym none

module _ (store : Store) (name : List ℕ) where
  -- the array of a name is one of the store's
  of_store : (P : ArrayValue → Type 0) (array : ArrayValue) → array_named store name ≡ Some array → All P (values_of store) → P array
  of_store P array here all = subst (λ o. IfSome o P) here (IfSome-lookup_from_All P (bytes_eq name) store all)

  -- another array in its place
  IsStore-with_array : (array after : ArrayValue) → array_named store name ≡ Some array → (limit_of after ≡ limit_of array) × (IsArray array → IsArray after) →
      IsStore store → IsStore (with_array store name after)
  IsStore-with_array array after here keeps is = record {
    within_limit = subst (λ n. n ≤ 64) (sym (length-set_value (bytes_eq name) store after)) is.within_limit;
    names_are = subst (All (λ name. IsTrue (is_name name))) (sym (keys-set_value (bytes_eq name) store after)) is.names_are;
    names_differ = subst (IsDistinct bytes_eq) (sym (keys-set_value (bytes_eq name) store after)) is.names_differ;
    arrays_are = All-values-set_value (bytes_eq name) IsArray store after is.arrays_are (keeps.1 (of_store IsArray array here is.arrays_are));
  }

  IsRegular-with_array : (array after : ArrayValue) → array_named store name ≡ Some array → (limit_of after ≡ limit_of array) × (IsArray array → IsArray after) →
      IsRegular store → IsRegular (with_array store name after)
  IsRegular-with_array array after here keeps all =
      let small = of_store (λ array. limit_of array ≤ 4294967295) array here all in
      All-values-set_value (bytes_eq name) (λ array. limit_of array ≤ 4294967295) store after all (subst (λ limit. limit ≤ 4294967295) (sym keeps.0) small)

  -- one more array
  IsStore-with_new_array : (array : ArrayValue) → IsTrue (is_name name) → IsTrue (is_none (array_named store name)) → length store < 64 → IsArray array →
      limit_of array ≤ 4294967295 → IsStore store → IsStore (with_new_array store name array)
  IsStore-with_new_array array named new room made small is =
      let long = length_push store (name, array) in
      let differs = sym (is_some-lookup (bytes_eq name) store) ∙ absent (array_named store name) new in
      record {
        within_limit = omega arith;
        names_are = All-map-push (λ pair. pair.0) (λ name. IsTrue (is_name name)) store (name, array) is.names_are named;
        names_differ =
            subst (IsDistinct bytes_eq) (sym (map-append (λ (pair : List ℕ × ArrayValue). pair.0) store ((name, array) ∷ [])))
            (IsDistinct-push nat_list_eq_equiv (keys_of store) name is.names_differ differs);
        arrays_are = All-map-push (λ pair. pair.1) IsArray store (name, array) is.arrays_are made;
      }

  IsRegular-with_new_array : (array : ArrayValue) → IsTrue (is_name name) → IsTrue (is_none (array_named store name)) → length store < 64 → IsArray array →
      limit_of array ≤ 4294967295 → IsRegular store → IsRegular (with_new_array store name array)
  IsRegular-with_new_array array named new room made small all =
      All-map-push (λ pair. pair.1) (λ array. limit_of array ≤ 4294967295) store (name, array) all small

  -- one array less
  IsStore-without_array : IsStore store → IsStore (without_array store name)
  IsStore-without_array is = record {
    within_limit = let fewer = length-remove_entry (bytes_eq name) store in let limit = is.within_limit in omega arith;
    names_are = All-map-remove_entry (bytes_eq name) (λ pair. pair.0) (λ name. IsTrue (is_name name)) store is.names_are;
    names_differ = IsDistinct-remove_entry (bytes_eq name) bytes_eq store is.names_differ;
    arrays_are = All-map-remove_entry (bytes_eq name) (λ pair. pair.1) IsArray store is.arrays_are;
  }

  IsRegular-without_array : IsRegular store → IsRegular (without_array store name)
  IsRegular-without_array all = All-map-remove_entry (bytes_eq name) (λ pair. pair.1) (λ array. limit_of array ≤ 4294967295) store all

-- no arrays at all
pub IsStore-none : IsStore []
unfolding IsDistinct
IsStore-none = record { within_limit = omega arith; names_are = All-nil (λ name. IsTrue (is_name name)); names_differ = tt; arrays_are = All-nil IsArray }

pub IsRegular-none : IsRegular []
IsRegular-none = All-nil (λ array. limit_of array ≤ 4294967295)

-- ---- what lines and runs keep

-- what a kind word names makes arrays
Makes : (ℕ → ArrayValue) → Type 0
Makes empty = (limit : ℕ) → 1 ≤ limit → limit ≤ 4294967295 → IsArray (empty limit) × (limit_of (empty limit) ≤ 4294967295)

kinds_make : (one two three four : Bool) → IfSome (cond one (Some (λ limit. judy1 (empty_array limit))) (cond two (Some (λ limit. judyl (empty_array limit)))
    (cond three (Some (λ limit. judysl (empty_array limit))) (cond four (Some (λ limit. judyhs (empty_array limit))) None)))) Makes
unfolding Makes
kinds_make true two three four = λ limit some small. ((empty-IsArrayOf IsWord limit some (omega arith), All-values-empty (λ value. value ≡ 0)), small)
kinds_make false true three four = λ limit some small. (empty-IsArrayOf IsWord limit some (omega arith), small)
kinds_make false false true four = λ limit some small. (empty-IsArrayOf IsStringKey limit some (omega arith), small)
kinds_make false false false true = λ limit some small. (empty-IsArrayOf IsBytesKey limit some (omega arith), small)
kinds_make false false false false = tt

name_of-is_name : (token : List ℕ) → IfSome (name_of token) (λ name. IsTrue (is_name name))
name_of-is_name token = elim (is_name token) as (λ b. is_name token ≡ b → IfSome (cond b (Some token) None) (λ name. IsTrue (is_name name))) [
  | true ↦ λ named. named
  | false ↦ λ _. tt
] refl

-- what each change of a store keeps
pub record IsLasting (P : Store → Type 0) : Type 0 where
  pub with_array : (store : Store) (name : List ℕ) (array after : ArrayValue) → array_named store name ≡ Some array → (limit_of after ≡ limit_of array) × (IsArray array → IsArray after) →
      P store → P (with_array store name after)
  pub with_new_array : (store : Store) (name : List ℕ) (array : ArrayValue) → IsTrue (is_name name) → IsTrue (is_none (array_named store name)) → length store < 64 →
      IsArray array → limit_of array ≤ 4294967295 → P store → P (with_new_array store name array)
  pub without_array : (store : Store) (name : List ℕ) → P store → P (without_array store name)

pub IsStore-lasts : IsLasting IsStore
IsStore-lasts = record { with_array = IsStore-with_array; with_new_array = IsStore-with_new_array; without_array = IsStore-without_array }

pub IsRegular-lasts : IsLasting IsRegular
IsRegular-lasts = record { with_array = IsRegular-with_array; with_new_array = IsRegular-with_new_array; without_array = IsRegular-without_array }

module _ (P : Store → Type 0) (lasts : IsLasting P) where
  abbrev Q : Outcome Store → Type 0
  Q outcome = P outcome.after

  module _ (store : Store) (is : P store) where
    made_lasts : (name kind : List ℕ) (limit : Option (List ℕ)) → IfOk (made store name kind limit) Q
    unfolding Makes
    made_lasts token kind limit =
        followed (λ name. IsTrue (is_name name)) Q (name_at token) _ (found (λ name. IsTrue (is_name name)) (name_of token) bad_name (name_of-is_name token)) (λ name named.
        followed Makes Q (ok_or (kind_named kind) wrong_kind) _ (found Makes (kind_named kind) wrong_kind
        (kinds_make (bytes_eq kind (codes "judy1")) (bytes_eq kind (codes "judyl")) (bytes_eq kind (codes "judysl")) (bytes_eq kind (codes "judyhs")))) (λ empty makes.
        followed (λ _. ⊤) Q (limit_at limit) _ (anything (limit_at limit)) (λ limit _.
        followed _ Q (provided (nat_lt 0 limit && nat_le limit 4294967295) bad_limit) _ (checked (nat_lt 0 limit && nat_le limit 4294967295) bad_limit) (λ _ bounds.
        followed _ Q (provided (is_none (array_named store name)) exists) _ (checked (is_none (array_named store name)) exists) (λ _ new.
        followed _ Q (provided (nat_lt (length store) 64) too_many_arrays) _ (checked (nat_lt (length store) 64) too_many_arrays) (λ _ room.
        let both = and_parts (nat_lt 0 limit) (nat_le limit 4294967295) bounds in
        let some = ltb-true 0 limit both.0 in
        let array = makes limit (omega arith) (leb-true limit 4294967295 both.1) in
        lasts.with_new_array store name (empty limit) named new (ltb-true (length store) 64 room) array.0 array.1 is))))))

    at_name_lasts : (token : List ℕ) (effect : ArrayValue → Result (Outcome ArrayValue) Refusal) → ((array : ArrayValue) → IfOk (effect array) (Keeps array)) → IfOk (at_name store token effect) Q
    at_name_lasts token effect keeps =
        by_name Q store token _ (λ name array here. followed (Keeps array) Q (effect array) _ (keeps array) (λ outcome kept. lasts.with_array store name array outcome.after here kept is))

    carried_out_lasts : (command : Command) (arguments : List (List ℕ)) → IfOk (carried_out store command arguments) Q
    carried_out_lasts command.make [] = tt
    carried_out_lasts command.make (name ∷ []) = tt
    carried_out_lasts command.make (name ∷ kind ∷ []) = made_lasts name kind None
    carried_out_lasts command.make (name ∷ kind ∷ limit ∷ []) = made_lasts name kind (Some limit)
    carried_out_lasts command.make (name ∷ kind ∷ limit ∷ more ∷ rest) = tt
    carried_out_lasts command.list [] = is
    carried_out_lasts command.list (name ∷ rest) = tt
    carried_out_lasts command.drop [] = tt
    carried_out_lasts command.drop (name ∷ []) = by_name Q store name _ (λ name array here. lasts.without_array store name is)
    carried_out_lasts command.drop (name ∷ more ∷ rest) = tt
    carried_out_lasts command.free [] = tt
    carried_out_lasts command.free (name ∷ []) = at_name_lasts name freed_whole freed_whole-Keeps
    carried_out_lasts command.free (name ∷ more ∷ rest) = tt
    carried_out_lasts (command.on_key command) [] = tt
    carried_out_lasts (command.on_key command) (name ∷ []) = tt
    carried_out_lasts (command.on_key command) (name ∷ key ∷ []) = at_name_lasts name (on_key command key) (on_key-Keeps command key)
    carried_out_lasts (command.on_key command) (name ∷ key ∷ more ∷ rest) = tt
    carried_out_lasts (command.on_pair command) [] = tt
    carried_out_lasts (command.on_pair command) (name ∷ []) = tt
    carried_out_lasts (command.on_pair command) (name ∷ key ∷ []) = tt
    carried_out_lasts (command.on_pair command) (name ∷ key ∷ value ∷ []) = at_name_lasts name (on_pair command key value) (on_pair-Keeps command key value)
    carried_out_lasts (command.on_pair command) (name ∷ key ∷ value ∷ more ∷ rest) = tt

    of_tokens_lasts : (tokens : List (List ℕ)) → IfOk (outcome_of_tokens store tokens) Q
    of_tokens_lasts [] = is
    of_tokens_lasts (word ∷ arguments) =
        chosen Q (starts_with nat_eq word (59 ∷ [])) _ _ (λ _. is) (λ _.
        followed (λ _. ⊤) Q (ok_or (command_named word) unknown_command) _ (anything (ok_or (command_named word) unknown_command)) (λ command _. carried_out_lasts command arguments))

    settled_lasts : (outcome : Result (Outcome Store) Refusal) → IfOk outcome Q → P (settled store outcome).1
    settled_lasts (Ok outcome) h = h
    settled_lasts (Err refusal) h = is

    pub Step-lasts : (line : Line) (reply : Reply) (after : Store) → Step store line reply after → P after
    Step-lasts line reply after (inl step) =
        subst P (sym (ap (λ pair. pair.1) step)) (settled_lasts (outcome_of store line) (chosen Q (is_too_long line) _ _ (λ _. tt) (λ _. of_tokens_lasts (tokens_of (text_of line)))))
    Step-lasts line reply after (inr (grown, short, same)) = subst P (sym same) is

  Steps-lasts : (before : Store) (lines : List Line) (replies : List Reply) (after : Store) → P before → Steps before lines replies after → P after
  Steps-lasts before [] [] after is steps = subst P (sym steps) is
  Steps-lasts before [] (reply ∷ replies) after is steps = absurd steps
  Steps-lasts before (line ∷ lines) [] after is steps = absurd steps
  Steps-lasts before (line ∷ lines) (reply ∷ replies) after is steps =
      Steps-lasts steps.0 lines replies after (Step-lasts before is line reply steps.0 steps.1) steps.2

  pub Run-lasts : (before after : Store) (script output : List ℕ) → P before → Run before script output after → P after
  Run-lasts before after script output is run = Steps-lasts before (lines_of script) run.0 after is run.1

  pub CutOff-lasts : (before after : Store) (script output : List ℕ) → P before → CutOff before script output after → P after
  CutOff-lasts before after script output is cut =
      Step-lasts cut.between (Steps-lasts before cut.earlier cut.replies cut.between is cut.steps) cut.line cut.reply after cut.step
