-- What every array keeps, and its limit, through the changes of a map and the commands of one array.
use Rattle.std.proofs.Common.{◌≡◌, ℕ, ◌+◌, ◌-◌, ◌≤◌, Bool, true, false, cond, not, ◌&&◌, ◌==◌, List, [], ◌∷◌, map, length, Some, None, Result, Less, Equal, Greater, refl, sym, ap}
use Rattle.std.proofs.Common.{subst, ◌∙◌, ⊎_elim, arith, All, IfOk}
use Rattle.std.specs.declared.cmp.Ordering.{Ordering}
use Rattle.std.specs.Ordering.{eq_by_cmp, is_eq}
use Rattle.std.specs.Cmp.{IsTotalOrder, nat_cmp_total, alike_right, eq_by_cmp_equiv}
use Rattle.std.specs.FinMap.{FinMap, IsAntisymmetric, empty, entries, entries_sorted, entries-insert, from_sorted, entries-from_sorted, get-entries, get-from_sorted, get-remove}
use Rattle.std.specs.FinMap.{same_map, len-entries, find, contains_key, get, insert, remove, len, len-empty, len-insert, len-remove, put, nat_cmp-IsAntisymmetric}
use Rattle.std.specs.FinMap.{slice_cmp-IsAntisymmetric}
use Rattle.std.specs.FinMap.Entries.{where_key, by_order, is_sorted-where_key, find-where_key}
use Rattle.std.proofs.lemmas.Bool.{cases_lt, eqb-false}
use Rattle.std.proofs.lemmas.Cmp.{nat_list_cmp_total}
use Rattle.std.proofs.lemmas.List.Elements.{All-nil, All-cons, All-head, All-tail}
use Rattle.judy_model.specs.Keys.{IsWord, IsStringKey, IsBytesKey, word_order, byte_order}
use Rattle.judy_model.specs.Arrays.{ArrayOf, IsArrayOf, ArrayValue, judy1, judyl, judysl, judyhs, IsArray, limit_of, empty_array, with_map, ins, is_full}
use Rattle.judy_model.specs.CommandWords as command
use Rattle.judy_model.specs.CommandWords.{KeyCommand, PairCommand}
use Rattle.judy_model.specs.Commands.{Outcome, word_at, string_key_at, bytes_key_at, added, inserted, overwritten, set_on_key, set_on_pair, map_on_key, map_on_pair, words_on_key}
use Rattle.judy_model.specs.Commands.{words_on_pair, strings_on_key, strings_on_pair, on_key, on_pair, freed_whole}
use Rattle.judy_model.specs.Replies.{Refusal}
use Rattle.judy_model.proofs.lemmas.maps.ChangesLemmas.{write-ins}
use Rattle.judy_model.proofs.lemmas.maps.Inserts.{is_full_present}
use Rattle.judy_model.proofs.lemmas.maps.ValuesLemmas.{All-values-empty, All-values-ins, All-values-del}
use Rattle.judy_model.proofs.lemmas.commands.Outcomes.{chosen, followed, by_word, word_at-IsWord, string_key_at-IsStringKey, bytes_key_at-IsBytesKey}

-- ---- the changes of a map

no_pairs : {A : Type 0} (pairs : List A) → length pairs ≡ 0 → pairs ≡ []
no_pairs [] none = refl
no_pairs (pair ∷ pairs) none = absurd (omega arith)

turned : {A : Type 0} (b : Bool) (x y : A) → cond b x y ≡ cond (not b) y x
turned true x y = refl
turned false x y = refl

module _ {K : Type 0} (order : K → K → Ordering) where
  entries-empty : entries (empty {X = ℕ} {R = order}) ≡ []
  entries-empty = no_pairs _ (sym (len-entries empty) ∙ len-empty order ℕ)

  -- what is left where a key is taken out
  entries-remove : IsTotalOrder order → IsAntisymmetric order → (m : FinMap order ℕ) (key : K) → entries (remove m key) ≡ where_key order (λ x. not (eq_by_cmp order key x)) (entries m)
  entries-remove total same m key =
      let test : K → Bool = λ x. not (eq_by_cmp order key x) in
      let left = where_key order test (entries m) in
      let sorted = is_sorted-where_key order test (entries m) (entries_sorted m) in
      let is : remove m key ≡ from_sorted left = same_map total same _ _ (λ q.
      get-remove total m key q
      ∙ ap (cond (eq_by_cmp order q key) None) (get-entries m q)
      ∙ ap (λ b. cond b None (find order q (entries m))) ((eq_by_cmp_equiv total).symm q key)
      ∙ turned (eq_by_cmp order key q) None (find order q (entries m))
      ∙ sym (find-where_key order test q (λ x tied. ap (λ r. not (is_eq r)) (sym (alike_right total q x key tied))) (entries m))
      ∙ sym (get-from_sorted order left q sorted)) in
      ap entries is ∙ entries-from_sorted order left sorted

  -- what is read of each entry, its key or its value
  module _ {Y : Type 0} (read : K × ℕ → Y) (P : Y → Type 0) where
    All-put : (key : K) (value : ℕ) → P (read (key, value)) → ((pair : K × ℕ) → P (read pair) → P (read (pair.0, value))) → (pairs : List (K × ℕ)) →
        All P (map read pairs) → All P (map read (put order key value pairs))
    All-put key value here there [] all = All-cons P (read (key, value)) [] here (All-nil P)
    All-put key value here there (pair ∷ pairs) all =
        let first = All-head P (read pair) (map read pairs) all in
        let rest = All-tail P (read pair) (map read pairs) all in
        elim (order key pair.0) as (λ r. All P (map read (by_order r ((key, value) ∷ pair ∷ pairs) ((pair.0, value) ∷ pairs) (pair ∷ put order key value pairs)))) [
          | Less ↦ All-cons P (read (key, value)) (map read (pair ∷ pairs)) here all
          | Equal ↦ All-cons P (read (pair.0, value)) (map read pairs) (there pair first) rest
          | Greater ↦ All-cons P (read pair) (map read (put order key value pairs)) first (All-put key value here there pairs rest)
        ]

    All-where_key : (test : K → Bool) (pairs : List (K × ℕ)) → All P (map read pairs) → All P (map read (where_key order test pairs))
    All-where_key test [] all = all
    All-where_key test (pair ∷ pairs) all =
        let rest = All-where_key test pairs (All-tail P (read pair) (map read pairs) all) in
        elim (test pair.0) as (λ b. All P (map read (cond b (pair ∷ where_key order test pairs) (where_key order test pairs)))) [
          | true ↦ All-cons P (read pair) (map read (where_key order test pairs)) (All-head P (read pair) (map read pairs) all) rest
          | false ↦ rest
        ]

    All-empty : All P (map read (entries (empty {X = ℕ} {R = order})))
    All-empty = subst (λ pairs. All P (map read pairs)) (sym entries-empty) (All-nil P)

    All-insert : IsTotalOrder order → (m : FinMap order ℕ) (key : K) (value : ℕ) → P (read (key, value)) → ((pair : K × ℕ) → P (read pair) → P (read (pair.0, value))) →
        All P (map read (entries m)) → All P (map read (entries (insert m key value)))
    All-insert total m key value here there all =
        subst (λ pairs. All P (map read pairs)) (sym (entries-insert total m key value)) (All-put key value here there (entries m) all)

    All-remove : IsTotalOrder order → IsAntisymmetric order → (m : FinMap order ℕ) (key : K) → All P (map read (entries m)) → All P (map read (entries (remove m key)))
    All-remove total same m key all =
        subst (λ pairs. All P (map read pairs)) (sym (entries-remove total same m key)) (All-where_key (λ x. not (eq_by_cmp order key x)) (entries m) all)

-- ---- the changes of an array

-- a count that a removal leaves
lessened : (b : Bool) (n limit : ℕ) → n ≤ limit → cond b (n - 1) n ≤ limit
lessened true n limit h = omega arith
lessened false n limit h = h

module _ {K : Type 0} {order : K → K → Ordering} (IsKey : K → Type 0) where
  -- an array without keys
  pub empty-IsArrayOf : (limit : ℕ) → 1 ≤ limit → IsWord limit → IsArrayOf IsKey (empty_array {order = order} limit)
  empty-IsArrayOf limit some small = record {
    holds_some = some;
    limit_is_word = small;
    within_limit = subst (λ n. n ≤ limit) (sym (len-empty order ℕ)) (omega arith);
    keys_are = All-empty order (λ e. e.0) IsKey;
    values_are = All-empty order (λ e. e.1) IsWord;
  }

module _ {K : Type 0} {order : K → K → Ordering} (total : IsTotalOrder order) (same : IsAntisymmetric order) (IsKey : K → Type 0) where
  module _ (array : ArrayOf order) (key : K) (is : IsArrayOf IsKey array) where
    -- where the array isn't full for a key, there is room for it
    room : (value : ℕ) → is_full array key ≡ false → len (insert array.map key value) ≤ array.limit
    room value free = subst (λ n. n ≤ array.limit) (sym (len-insert total array.map key value))
        (elim (contains_key array.map key) as (λ b. (not b && (len array.map == array.limit)) ≡ false → cond b (len array.map) (len array.map + 1) ≤ array.limit) [
          | true ↦ λ _. is.within_limit
          | false ↦ λ apart. let within = is.within_limit in ⊎_elim
              (λ below. omega arith)
              (λ above. absurd (eqb-false (len array.map) array.limit apart (omega arith)))
              (cases_lt (len array.map) array.limit)
        ] free)

    -- a key and its value put in
    pub insert-IsArrayOf : (value : ℕ) → IsKey key → IsWord value → is_full array key ≡ false → IsArrayOf IsKey (with_map array (insert array.map key value))
    insert-IsArrayOf value good small free = record {
      holds_some = is.holds_some;
      limit_is_word = is.limit_is_word;
      within_limit = room value free;
      keys_are = All-insert order (λ e. e.0) IsKey total array.map key value good (λ pair h. h) is.keys_are;
      values_are = All-insert order (λ e. e.1) IsWord total array.map key value small (λ pair h. small) is.values_are;
    }

    -- a key taken out
    pub del-IsArrayOf : IsArrayOf IsKey (with_map array (remove array.map key))
    del-IsArrayOf = record {
      holds_some = is.holds_some;
      limit_is_word = is.limit_is_word;
      within_limit = subst (λ n. n ≤ array.limit) (sym (len-remove total array.map key)) (lessened (contains_key array.map key) (len array.map) array.limit is.within_limit);
      keys_are = All-remove order (λ e. e.0) IsKey total same array.map key is.keys_are;
      values_are = All-remove order (λ e. e.1) IsWord total same array.map key is.values_are;
    }

    -- a key put in that keeps the value it has
    pub ins-IsArrayOf : IsKey key → is_full array key ≡ false → IsArrayOf IsKey (with_map array (ins array.map key))
    ins-IsArrayOf good free =
        elim (contains_key array.map key) as (λ b. IsArrayOf IsKey (with_map array (cond b array.map (insert array.map key 0)))) [
          | true ↦ is
          | false ↦ insert-IsArrayOf 0 good (omega arith) free
        ]

-- ---- the commands of one array

-- a command of one array keeps its limit, and what every array keeps
abbrev pub Keeps : ArrayValue → Outcome ArrayValue → Type 0
Keeps array outcome = (limit_of outcome.after ≡ limit_of array) × (IsArray array → IsArray outcome.after)

module _ (set : ArrayOf word_order) where
  abbrev Q : Outcome ArrayValue → Type 0
  Q = Keeps (judy1 set)

  added_kept : (key : ℕ) → IsWord key → IfOk (added set key) (Keeps (judy1 set))
  added_kept key small = chosen (Keeps (judy1 set)) (is_full set key) _ _ (λ _. tt) (λ free.
      (refl, λ is. (ins-IsArrayOf nat_cmp_total nat_cmp-IsAntisymmetric IsWord set key is.0 small free, All-values-ins (λ value. value ≡ 0) set.map key refl is.1)))

  set_key_kept : (command : KeyCommand) (token : List ℕ) → IfOk (set_on_key command set token) (Keeps (judy1 set))
  set_key_kept command.set token = by_word Q token _ added_kept
  set_key_kept command.unset token = by_word Q token _ (λ key small.
      (refl, λ is. (del-IsArrayOf nat_cmp_total nat_cmp-IsAntisymmetric IsWord set key is.0, All-values-del (λ value. value ≡ 0) set.map key is.1)))
  set_key_kept command.test token = by_word Q token _ (λ key small. (refl, λ is. is))
  set_key_kept command.get token = tt
  set_key_kept command.del token = tt
  set_key_kept (command.neighbour side) token = by_word Q token _ (λ key small. (refl, λ is. is))
  set_key_kept (command.empty side) token = by_word Q token _ (λ key small. (refl, λ is. is))
  set_key_kept command.by_count token = by_word Q token _ (λ key small. (refl, λ is. is))

  set_pair_kept : (command : PairCommand) (key value : List ℕ) → IfOk (set_on_pair command set key value) (Keeps (judy1 set))
  set_pair_kept command.ins key value = tt
  set_pair_kept command.put key value = tt
  set_pair_kept command.count key value = by_word Q key _ (λ from _. by_word Q value _ (λ to _. (refl, λ is. is)))

-- a kind of maps: what the kind keeps is what its arrays keep, over keys that its tokens say
module _ {K : Type 0} {order : K → K → Ordering} (total : IsTotalOrder order) (same : IsAntisymmetric order) (IsKey : K → Type 0) (kind : ArrayOf order → ArrayValue)
    (limited : (array : ArrayOf order) → limit_of (kind array) ≡ array.limit)
    (opened : (array : ArrayOf order) → IsArray (kind array) → IsArrayOf IsKey array)
    (closed : (array : ArrayOf order) → IsArrayOf IsKey array → IsArray (kind array)) where
  -- what is left of an array that keeps its limit
  kept : (array : ArrayOf order) (map : FinMap order ℕ) → (IsArrayOf IsKey array → IsArrayOf IsKey (with_map array map))
      → (limit_of (kind (with_map array map)) ≡ limit_of (kind array)) × (IsArray (kind array) → IsArray (kind (with_map array map)))
  kept array map keeps = (limited (with_map array map) ∙ sym (limited array), λ is. closed (with_map array map) (keeps (opened array is)))

  module _ (array : ArrayOf order) where
    abbrev M : Outcome ArrayValue → Type 0
    M = Keeps (kind array)

    inserted_kept : (key : K) (value : ℕ) → IsKey key → IsWord value → IfOk (inserted kind array key value) M
    inserted_kept key value good small = chosen M (is_full array key) _ _ (λ _. tt) (λ free.
        kept array _ (λ is. subst (λ m. IsArrayOf IsKey (with_map array m)) (sym (write-ins total array.map key same value)) (insert-IsArrayOf total same IsKey array key is value good small free)))

    overwritten_kept : (key : K) (value : ℕ) → IsKey key → IsWord value → M (overwritten kind array key value (get array.map key))
    overwritten_kept key value good small =
        elim (get array.map key) as (λ before. get array.map key ≡ before → M (overwritten kind array key value before)) [
          | None ↦ λ _. (refl, λ is. is)
          | Some before ↦ λ held. kept array _ (λ is. insert-IsArrayOf total same IsKey array key is value good small (is_full_present array key before held))
        ] refl

    -- the key that is said is one of the kind's
    module _ (said : Result K Refusal) (is_key : IfOk said IsKey) where
      map_key_kept : (command : KeyCommand) → IfOk (map_on_key kind command array said) M
      map_key_kept command.set = tt
      map_key_kept command.unset = tt
      map_key_kept command.test = tt
      map_key_kept command.get = followed IsKey M said _ is_key (λ key good. (refl, λ is. is))
      map_key_kept command.del = followed IsKey M said _ is_key (λ key good. kept array _ (λ is. del-IsArrayOf total same IsKey array key is))
      map_key_kept (command.neighbour side) = tt
      map_key_kept (command.empty side) = tt
      map_key_kept command.by_count = tt

      map_pair_kept : (command : PairCommand) (value : List ℕ) → IfOk (map_on_pair kind command array said value) M
      map_pair_kept command.ins value = followed IsKey M said _ is_key (λ k good. by_word M value _ (λ v small. inserted_kept k v good small))
      map_pair_kept command.put value = followed IsKey M said _ is_key (λ k good. by_word M value _ (λ v small. overwritten_kept k v good small))
      map_pair_kept command.count value = tt

module _ (array : ArrayOf word_order) where
  words_map_key : (command : KeyCommand) (token : List ℕ) → IfOk (map_on_key judyl command array (word_at token)) (Keeps (judyl array))
  words_map_key command token = map_key_kept nat_cmp_total nat_cmp-IsAntisymmetric IsWord judyl (λ _. refl) (λ _ is. is) (λ _ is. is) array (word_at token) (word_at-IsWord token) command

  words_map_pair : (command : PairCommand) (key value : List ℕ) → IfOk (map_on_pair judyl command array (word_at key) value) (Keeps (judyl array))
  words_map_pair command key value = map_pair_kept nat_cmp_total nat_cmp-IsAntisymmetric IsWord judyl (λ _. refl) (λ _ is. is) (λ _ is. is) array (word_at key) (word_at-IsWord key) command value

  words_key_kept : (command : KeyCommand) (token : List ℕ) → IfOk (words_on_key command array token) (Keeps (judyl array))
  words_key_kept command.set token = tt
  words_key_kept command.unset token = tt
  words_key_kept command.test token = tt
  words_key_kept command.get token = words_map_key command.get token
  words_key_kept command.del token = words_map_key command.del token
  words_key_kept (command.neighbour side) token = by_word _ token _ (λ key small. (refl, λ is. is))
  words_key_kept (command.empty side) token = by_word _ token _ (λ key small. (refl, λ is. is))
  words_key_kept command.by_count token = by_word _ token _ (λ key small. (refl, λ is. is))

  words_pair_kept : (command : PairCommand) (key value : List ℕ) → IfOk (words_on_pair command array key value) (Keeps (judyl array))
  words_pair_kept command.ins key value = words_map_pair command.ins key value
  words_pair_kept command.put key value = words_map_pair command.put key value
  words_pair_kept command.count key value = by_word _ key _ (λ from _. by_word _ value _ (λ to _. (refl, λ is. is)))

module _ (array : ArrayOf byte_order) where
  strings_map_key : (command : KeyCommand) (token : List ℕ) → IfOk (map_on_key judysl command array (string_key_at token)) (Keeps (judysl array))
  strings_map_key command token =
      map_key_kept nat_list_cmp_total (slice_cmp-IsAntisymmetric nat_cmp-IsAntisymmetric) IsStringKey judysl (λ _. refl) (λ _ is. is) (λ _ is. is) array
      (string_key_at token) (string_key_at-IsStringKey token) command

  strings_key_kept : (command : KeyCommand) (token : List ℕ) → IfOk (strings_on_key command array token) (Keeps (judysl array))
  strings_key_kept command.set token = tt
  strings_key_kept command.unset token = tt
  strings_key_kept command.test token = tt
  strings_key_kept command.get token = strings_map_key command.get token
  strings_key_kept command.del token = strings_map_key command.del token
  strings_key_kept (command.neighbour side) token = followed IsStringKey _ (string_key_at token) _ (string_key_at-IsStringKey token) (λ key good. (refl, λ is. is))
  strings_key_kept (command.empty side) token = tt
  strings_key_kept command.by_count token = by_word _ token _ (λ key small. (refl, λ is. is))

  strings_map_pair : (command : PairCommand) (key value : List ℕ) → IfOk (map_on_pair judysl command array (string_key_at key) value) (Keeps (judysl array))
  strings_map_pair command key value =
      map_pair_kept nat_list_cmp_total (slice_cmp-IsAntisymmetric nat_cmp-IsAntisymmetric) IsStringKey judysl (λ _. refl) (λ _ is. is) (λ _ is. is) array
      (string_key_at key) (string_key_at-IsStringKey key) command value

  strings_pair_kept : (command : PairCommand) (key value : List ℕ) → IfOk (strings_on_pair command array key value) (Keeps (judysl array))
  strings_pair_kept command.ins key value = strings_map_pair command.ins key value
  strings_pair_kept command.put key value = strings_map_pair command.put key value
  strings_pair_kept command.count key value =
      followed IsStringKey _ (string_key_at key) _ (string_key_at-IsStringKey key) (λ from _.
      followed IsStringKey _ (string_key_at value) _ (string_key_at-IsStringKey value) (λ to _. (refl, λ is. is)))

  bytes_key_kept : (command : KeyCommand) (token : List ℕ) → IfOk (map_on_key judyhs command array (bytes_key_at token)) (Keeps (judyhs array))
  bytes_key_kept command token =
      map_key_kept nat_list_cmp_total (slice_cmp-IsAntisymmetric nat_cmp-IsAntisymmetric) IsBytesKey judyhs (λ _. refl) (λ _ is. is) (λ _ is. is) array
      (bytes_key_at token) (bytes_key_at-IsBytesKey token) command

  bytes_pair_kept : (command : PairCommand) (key value : List ℕ) → IfOk (map_on_pair judyhs command array (bytes_key_at key) value) (Keeps (judyhs array))
  bytes_pair_kept command key value =
      map_pair_kept nat_list_cmp_total (slice_cmp-IsAntisymmetric nat_cmp-IsAntisymmetric) IsBytesKey judyhs (λ _. refl) (λ _ is. is) (λ _ is. is) array
      (bytes_key_at key) (bytes_key_at-IsBytesKey key) command value

pub on_key-Keeps : (command : KeyCommand) (key : List ℕ) (array : ArrayValue) → IfOk (on_key command key array) (Keeps array)
on_key-Keeps command key (judy1 set) = set_key_kept set command key
on_key-Keeps command key (judyl array) = words_key_kept array command key
on_key-Keeps command key (judysl array) = strings_key_kept array command key
on_key-Keeps command key (judyhs array) = bytes_key_kept array command key

pub on_pair-Keeps : (command : PairCommand) (key value : List ℕ) (array : ArrayValue) → IfOk (on_pair command key value array) (Keeps array)
on_pair-Keeps command key value (judy1 set) = set_pair_kept set command key value
on_pair-Keeps command key value (judyl array) = words_pair_kept array command key value
on_pair-Keeps command key value (judysl array) = strings_pair_kept array command key value
on_pair-Keeps command key value (judyhs array) = bytes_pair_kept array command key value

pub freed_whole-Keeps : (array : ArrayValue) → IfOk (freed_whole array) (Keeps array)
freed_whole-Keeps (judy1 set) = (refl, λ is. (empty-IsArrayOf IsWord set.limit is.0.holds_some is.0.limit_is_word, All-values-empty (λ value. value ≡ 0)))
freed_whole-Keeps (judyl array) = (refl, λ is. empty-IsArrayOf IsWord array.limit is.holds_some is.limit_is_word)
freed_whole-Keeps (judysl array) = (refl, λ is. empty-IsArrayOf IsStringKey array.limit is.holds_some is.limit_is_word)
freed_whole-Keeps (judyhs array) = (refl, λ is. empty-IsArrayOf IsBytesKey array.limit is.holds_some is.limit_is_word)
