-- What an array that is one holds, and a store that is one.
use Rattle.std.proofs.Common.{◌≡◌, ◌↔◌, ℕ, ◌≤◌, Bool, true, false, cond, ◌&&◌, List, [], ◌∷◌, ◌++◌, map, Option, Some, None, Result, Ok, refl, sym, ap, subst, ◌∙◌, arith, IsTrue}
use Rattle.std.proofs.Common.{All, get_or, nat_lt, nat_le, codes, decimal, ok_or}
use Rattle.std.specs.Prelude.{bytes_eq}
use Rattle.std.specs.declared.cmp.Ordering.{Ordering}
use Rattle.std.specs.Ordering.{eq_by_cmp}
use Rattle.std.specs.List.{AllByRecursion, IsDistinct}
use Rattle.std.specs.Map.{keys_of, values_of}
use Rattle.std.specs.Cmp.Lexicographic.{bytes_decides}
use Rattle.std.specs.Cmp.{IsTotalOrder, tied_itself}
use Rattle.std.specs.FinMap.{IsAntisymmetric, entries, entries_sorted, find, get, get-entries, len, nat_cmp-IsAntisymmetric, slice_cmp-IsAntisymmetric}
use Rattle.std.proofs.lemmas.Bool.{and_parts, leb-true, le-leb, lt-ltb}
use Rattle.std.proofs.lemmas.List.Elements.{All-nil, All-cons, All-head, All-map, recursion_from_All}
use Rattle.std.proofs.lemmas.Map.Keys.{IsDistinct-head, IsDistinct-tail}
use Rattle.std.proofs.lemmas.Option.{none-some}
use Rattle.judy_model.specs.Keys.{IsWord, IsStringKey, IsBytesKey, word_order, byte_order}
use Rattle.judy_model.specs.Arrays.{ArrayOf, IsArrayOf, ArrayValue, judy1, judyl, judysl, judyhs, IsArray, limit_of, len_of}
use Rattle.judy_model.specs.Tokens.{is_name}
use Rattle.judy_model.specs.Stores.{Store, IsStore, IsRegular, array_named}
use Rattle.judy_model.specs.Replies.{Refusal, bad_limit, bad_word, done}
use Rattle.judy_model.specs.CommandWords.{make}
use Rattle.judy_model.specs.Commands.{Outcome, ◌>>=◌, provided, carried_out}
use Rattle.judy_model.specs.Examples.{one_array}
use Rattle.judy_model.proofs.lemmas.orders.Orders.{same_from_tie}
use Rattle.judy_model.proofs.lemmas.maps.Pairs.{find-at}
use Rattle.judy_model.proofs.lemmas.maps.ValuesLemmas.{value_from_All}
use Rattle.judy_model.proofs.lemmas.commands.WordLemmas.{word_of-decimal}
use Rattle.judy_model.proofs.lemmas.maps.Tests.{both_true}

-- ---- arrays

pub limits : (array : ArrayValue) → IsArray array → (1 ≤ limit_of array) × IsWord (limit_of array) × (len_of array ≤ limit_of array)
limits (judy1 set) is = (is.0.holds_some, is.0.limit_is_word, is.0.within_limit)
limits (judyl array) is = (is.holds_some, is.limit_is_word, is.within_limit)
limits (judysl array) is = (is.holds_some, is.limit_is_word, is.within_limit)
limits (judyhs array) is = (is.holds_some, is.limit_is_word, is.within_limit)

module _ {K : Type 0} {order : K → K → Ordering} (same : IsAntisymmetric order) (IsKey : K → Type 0) where
  found_entry : (key : K) (value : ℕ) (pairs : List (K × ℕ)) → AllByRecursion IsKey (map (λ e. e.0) pairs) → AllByRecursion IsWord (map (λ e. e.1) pairs) →
      find order key pairs ≡ Some value → IsKey key × IsWord value
  found_entry key value [] keys values is = absurd (none-some value is)
  found_entry key value (pair ∷ pairs) keys values is =
      elim (eq_by_cmp order key pair.0) as (λ b. eq_by_cmp order key pair.0 ≡ b → cond b (Some pair.1) (find order key pairs) ≡ Some value → IsKey key × IsWord value) [
        | true ↦ λ tied here.
            let one : pair.1 ≡ value = cc in
            (subst IsKey (sym (same_from_tie same key pair.0 tied)) keys.0, subst IsWord one values.0)
        | false ↦ λ apart later. found_entry key value pairs keys.1 values.1 later
      ] refl is

  pub held_entry : (array : ArrayOf order) → IsArrayOf IsKey array → (key : K) (value : ℕ) → get array.map key ≡ Some value → IsKey key × IsWord value
  held_entry array is key value held =
      found_entry key value (entries array.map) (recursion_from_All IsKey _ is.keys_are) (recursion_from_All IsWord _ is.values_are) (sym (get-entries array.map key) ∙ held)

pub set_holds : (set : ArrayOf word_order) (key value : ℕ) → IsArray (judy1 set) → get set.map key ≡ Some value → IsWord key × (value ≡ 0)
set_holds set key value is held =
    ((held_entry nat_cmp-IsAntisymmetric IsWord set is.0 key value held).0, value_from_All (λ value. value ≡ 0) set.map key value is.1 held)

pub words_hold : (array : ArrayOf word_order) (key value : ℕ) → IsArray (judyl array) → get array.map key ≡ Some value → IsWord key × IsWord value
words_hold array key value is held = held_entry nat_cmp-IsAntisymmetric IsWord array is key value held

pub strings_hold : (array : ArrayOf byte_order) (key : List ℕ) (value : ℕ) → IsArray (judysl array) → get array.map key ≡ Some value → IsStringKey key × IsWord value
strings_hold array key value is held = held_entry (slice_cmp-IsAntisymmetric nat_cmp-IsAntisymmetric) IsStringKey array is key value held

pub bytes_hold : (array : ArrayOf byte_order) (key : List ℕ) (value : ℕ) → IsArray (judyhs array) → get array.map key ≡ Some value → IsBytesKey key × IsWord value
bytes_hold array key value is held = held_entry (slice_cmp-IsAntisymmetric nat_cmp-IsAntisymmetric) IsBytesKey array is key value held

module _ {K : Type 0} {order : K → K → Ordering} (total : IsTotalOrder order) (array : ArrayOf order) where
  entries_each : (P : K × ℕ → Type 0) → ((key : K) (value : ℕ) → get array.map key ≡ Some value → P (key, value)) → All P (entries array.map)
  entries_each P each = λ k d within.
      let pair = get_or (entries array.map) k d in
      each pair.0 pair.1 (get-entries array.map pair.0 ∙ find-at order total (entries array.map) pair.0 k d (entries_sorted array.map) within (tied_itself total pair.0))

  -- an array that holds words under keys, as many as its limit at most, is one
  pub holds-IsArrayOf : (IsKey : K → Type 0) → 1 ≤ array.limit → IsWord array.limit → len array.map ≤ array.limit →
      ((key : K) (value : ℕ) → get array.map key ≡ Some value → IsKey key × IsWord value) → IsArrayOf IsKey array
  holds-IsArrayOf IsKey some small within held = record {
    holds_some = some;
    limit_is_word = small;
    within_limit = within;
    keys_are = All-map IsKey (λ pair. pair.0) (entries array.map) (entries_each (λ pair. IsKey pair.0) (λ key value is. (held key value is).0));
    values_are = All-map IsWord (λ pair. pair.1) (entries array.map) (entries_each (λ pair. IsWord pair.1) (λ key value is. (held key value is).1));
  }

-- ---- stores

named_entry : (store : Store) (name : List ℕ) (array : ArrayValue) → AllByRecursion (λ name. IsTrue (is_name name)) (keys_of store) → AllByRecursion IsArray (values_of store) →
    array_named store name ≡ Some array → IsTrue (is_name name) × IsArray array
named_entry [] name array names arrays is = absurd (cc)
named_entry (entry ∷ store) name array names arrays is =
    elim (bytes_eq name entry.0) as (λ b. bytes_eq name entry.0 ≡ b → cond b (Some entry.1) (array_named store name) ≡ Some array → IsTrue (is_name name) × IsArray array) [
      | true ↦ λ tied here.
          let one : entry.1 ≡ array = cc in
          (subst (λ name. IsTrue (is_name name)) (sym ((bytes_decides name entry.0).0 tied)) names.0, subst IsArray one arrays.0)
      | false ↦ λ apart later. named_entry store name array names.1 arrays.1 later
    ] refl is

pub store_named : (store : Store) (name : List ℕ) (array : ArrayValue) → IsStore store → array_named store name ≡ Some array → IsTrue (is_name name) × IsArray array
store_named store name array is held =
    named_entry store name array (recursion_from_All (λ name. IsTrue (is_name name)) _ is.names_are) (recursion_from_All IsArray _ is.arrays_are) held

-- a name that differs from each of a store's names
none_named : (store : Store) (name : List ℕ) → AllByRecursion (λ other. bytes_eq name other ≡ false) (keys_of store) → array_named store name ≡ None
none_named [] name apart = refl
none_named (entry ∷ store) name apart =
    ap (λ b. cond b (Some entry.1) (array_named store name)) apart.0 ∙ none_named store name apart.1

later_differ : (front later : Store) (name : List ℕ) (array : ArrayValue) → IsDistinct bytes_eq (keys_of (front ++ (name, array) ∷ later)) →
    AllByRecursion (λ other. bytes_eq name other ≡ false) (keys_of later)
later_differ [] later name array differ = IsDistinct-head bytes_eq name (keys_of later) differ
later_differ (entry ∷ front) later name array differ = later_differ front later name array (IsDistinct-tail bytes_eq entry.0 _ differ)

pub store_once : (front later : Store) (name : List ℕ) (array : ArrayValue) → IsStore (front ++ (name, array) ∷ later) → array_named later name ≡ None
store_once front later name array is = none_named later name (later_differ front later name array is.names_differ)

-- ---- limits

-- what `make` does, by whether the limit is one that a script gives
made_if : ℕ → Bool → Result (Outcome Store) Refusal
made_if limit holds = provided holds bad_limit >>= (λ _. Ok (record { answer = done; after = one_array limit; grows = true }))

made_by_limit : (limit : ℕ) → IsWord limit → carried_out [] make (codes "a" ∷ codes "judyl" ∷ decimal limit ∷ []) ≡ made_if limit (nat_lt 0 limit && nat_le limit 4294967295)
unfolding made_if
made_by_limit limit small =
    ap (λ (said : Option ℕ). ok_or said bad_word >>= (λ limit. made_if limit (nat_lt 0 limit && nat_le limit 4294967295))) (word_of-decimal limit small)

made_if-holds : (limit : ℕ) (holds : Bool) → made_if limit holds ≡ Ok (record { answer = done; after = one_array limit; grows = true }) → holds ≡ true
unfolding made_if
made_if-holds limit true made = refl
made_if-holds limit false made = absurd (cc)

made_if-true : (limit : ℕ) → made_if limit true ≡ Ok (record { answer = done; after = one_array limit; grows = true })
unfolding made_if
made_if-true limit = refl

pub regular_limit : (limit : ℕ) → 1 ≤ limit → IsWord limit → IsRegular (one_array limit) ↔ (carried_out [] make (codes "a" ∷ codes "judyl" ∷ decimal limit ∷ []) ≡
    Ok (record { answer = done; after = one_array limit; grows = true }))
regular_limit limit some small = (
  λ regular.
      let most = All-head (λ array. limit_of array ≤ 4294967295) (judyl (record { limit = limit; map = _ })) [] regular in
      let holds : (nat_lt 0 limit && nat_le limit 4294967295) ≡ true = both_true _ _ (lt-ltb 0 limit (omega arith)) (le-leb limit 4294967295 most) in
      made_by_limit limit small ∙ ap (made_if limit) holds ∙ made_if-true limit,
  λ made.
      let holds = made_if-holds limit (nat_lt 0 limit && nat_le limit 4294967295) (sym (made_by_limit limit small) ∙ made) in
      let most = leb-true limit 4294967295 (and_parts (nat_lt 0 limit) (nat_le limit 4294967295) holds).1 in
      All-cons (λ array. limit_of array ≤ 4294967295) _ [] most (All-nil (λ array. limit_of array ≤ 4294967295)),
)
