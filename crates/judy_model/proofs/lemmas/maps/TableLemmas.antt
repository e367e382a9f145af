-- Tables: which keys the lists of all keys hold, and what the table of a function answers, so that two
-- functions that differ at one key have tables that differ by one insert or one removal.
use Rattle.std.proofs.Common.{◌≡◌, ◌≢◌, ℕ, zero, suc, ◌<◌, ◌≤◌, Bool, true, false, cond, ◌||◌, nat_lt, inl, inr, ⊎_elim, ◌⊎◌, List, [], ◌∷◌, ◌++◌, map, length, filter, All, Option}
use Rattle.std.proofs.Common.{Some, None, sym, refl, ap, ◌∙◌, subst, arith, ltb-true, lt-ltb, true≢false}
use Rattle.std.specs.List.{AllByRecursion, list_any, cons_option, flat_map}
use Rattle.std.specs.Option.{option_map}
use Rattle.std.specs.Ordering.{eq_by_cmp, is_eq}
use Rattle.std.specs.Cmp.{IsTotalOrder, tied_itself}
use Rattle.std.specs.Cmp.Lexicographic.{nat_list_cmp_total}
use Rattle.std.specs.FinMap.{IsAntisymmetric, nat_cmp-IsAntisymmetric, slice_cmp-IsAntisymmetric, find, get, get-empty, get-insert, get-remove, get-from_entries, empty, insert, remove, same_map}
use Rattle.std.proofs.lemmas.List.Elements.{recursion_from_All, All-from_recursion}
use Rattle.std.proofs.lemmas.Bool.{false_from_ne_true}
use Rattle.std.proofs.lemmas.Option.{none-some}
use Rattle.judy_model.specs.Keys.{IsStringKey, byte_order}
use Rattle.judy_model.specs.KeyLengths.{IsBytesKeyTo, IsStringKeyTo}
use Rattle.judy_model.specs.Empties.{numbers_below}
use Rattle.judy_model.specs.Tables.{strings_to, bytes_keys, string_keys, string_keys_to, tabled, table}
use Rattle.judy_model.specs.declared.keys.TheConstants.{LONGEST_KEY}
use Rattle.judy_model.proofs.lemmas.orders.Orders.{same_from_tie}
use Rattle.judy_model.proofs.lemmas.maps.Ascending.{Among, Among-filter, among_from_filter, Among-list_any, list_any-from_among, all_from_among, all_among}
use Rattle.judy_model.proofs.lemmas.queries.EmptiesLemmas.{below_from_among, Among-numbers_below}

-- ---- members of lists that are made of others

module _ {K : Type 0} where
  Among-append_front : (xs ys : List K) (key : K) → Among xs key → Among (xs ++ ys) key
  Among-append_front [] ys key here = absurd here
  Among-append_front (x ∷ xs) ys key here = ⊎_elim (λ e. inl e) (λ later. inr (Among-append_front xs ys key later)) here

  Among-append_back : (xs ys : List K) (key : K) → Among ys key → Among (xs ++ ys) key
  Among-append_back [] ys key here = here
  Among-append_back (x ∷ xs) ys key here = inr (Among-append_back xs ys key here)

  among_from_append : (xs ys : List K) (key : K) → Among (xs ++ ys) key → Among xs key ⊎ Among ys key
  among_from_append [] ys key here = inr here
  among_from_append (x ∷ xs) ys key here = ⊎_elim (λ e. inl (inl e)) (λ later. ⊎_elim (λ front. inl (inr front)) (λ back. inr back) (among_from_append xs ys key later)) here

module _ {K L : Type 0} where
  Among-map : (f : K → L) (xs : List K) (x : K) → Among xs x → Among (map f xs) (f x)
  Among-map f [] x here = absurd here
  Among-map f (y ∷ ys) x here = ⊎_elim (λ e. inl (ap f e)) (λ later. inr (Among-map f ys x later)) here

  among_from_map : (f : K → L) (xs : List K) (key : L) → Among (map f xs) key → (x : K) × Among xs x × (key ≡ f x)
  among_from_map f [] key here = absurd here
  among_from_map f (y ∷ ys) key here = ⊎_elim (λ e. (y, inl refl, e)) (λ later. let rest = among_from_map f ys key later in (rest.0, inr rest.1, rest.2)) here

  Among-flat_map : (f : K → List L) (xs : List K) (x : K) (key : L) → Among xs x → Among (f x) key → Among (flat_map f xs) key
  Among-flat_map f [] x key here inside = absurd here
  Among-flat_map f (y ∷ ys) x key here inside = ⊎_elim
      (λ e. Among-append_front (f y) (flat_map f ys) key (subst (λ z. Among (f z) key) e inside))
      (λ later. Among-append_back (f y) (flat_map f ys) key (Among-flat_map f ys x key later inside))
      here

  among_from_flat_map : (f : K → List L) (xs : List K) (key : L) → Among (flat_map f xs) key → (x : K) × Among xs x × Among (f x) key
  among_from_flat_map f [] key here = absurd here
  among_from_flat_map f (y ∷ ys) key here = ⊎_elim
      (λ front. (y, inl refl, front))
      (λ back. let rest = among_from_flat_map f ys key back in (rest.0, inr rest.1, rest.2))
      (among_from_append (f y) (flat_map f ys) key here)

-- ---- the lists of all keys

-- A list holds all keys of a sort and nothing else.
pub record ListsAll (keys : List (List ℕ)) (IsKey : List ℕ → Type 0) : Type 0 where
  pub there : (key : List ℕ) → IsKey key → Among keys key
  pub only : (key : List ℕ) → Among keys key → IsKey key

module _ (alphabet : List ℕ) where
  Among-strings_to : (most : ℕ) (key : List ℕ) → AllByRecursion (Among alphabet) key → length key ≤ most → Among (strings_to alphabet most) key
  unfolding strings_to
  Among-strings_to zero [] all within = inl refl
  Among-strings_to zero (byte ∷ rest) all within = let never : ⊥ = omega arith in absurd never
  Among-strings_to (suc most) [] all within = inl refl
  Among-strings_to (suc most) (byte ∷ rest) all within =
      inr (Among-flat_map _ alphabet byte (byte ∷ rest) all.0 (Among-map (λ others. byte ∷ others) (strings_to alphabet most) rest (Among-strings_to most rest all.1 (omega arith))))

  among_from_strings_to : (most : ℕ) (key : List ℕ) → Among (strings_to alphabet most) key → AllByRecursion (Among alphabet) key × (length key ≤ most)
  unfolding strings_to
  among_from_strings_to zero key here = ⊎_elim (λ e. subst (λ k. AllByRecursion (Among alphabet) k × (length k ≤ 0)) (sym e) (tt, omega arith)) (λ none. absurd none) here
  among_from_strings_to (suc most) key here = ⊎_elim
      (λ e. subst (λ k. AllByRecursion (Among alphabet) k × (length k ≤ suc most)) (sym e) (tt, omega arith))
      (λ later.
      let first = among_from_flat_map (λ byte. map (λ rest. byte ∷ rest) (strings_to alphabet most)) alphabet key later in
      let more = among_from_map (λ rest. first.0 ∷ rest) (strings_to alphabet most) key first.2 in
      let rest = among_from_strings_to most more.0 more.1 in
      let short : length more.0 ≤ most = rest.1 in
      subst (λ k. AllByRecursion (Among alphabet) k × (length k ≤ suc most)) (sym more.2) ((first.1, rest.0), omega arith))
      here

  -- Where the alphabet is the bytes that pass, the strings are those of bytes that pass.
  strings_to-all : (P : ℕ → Type 0) → ((byte : ℕ) → P byte → Among alphabet byte) → ((byte : ℕ) → Among alphabet byte → P byte) → (most : ℕ) (key : List ℕ) →
      All P key → length key ≤ most → Among (strings_to alphabet most) key
  strings_to-all P there only most key all within =
      Among-strings_to most key (all_from_among (Among alphabet) key (λ byte here. there byte (all_among P key byte (recursion_from_All P key all) here))) within

  strings_to-only : (P : ℕ → Type 0) → ((byte : ℕ) → Among alphabet byte → P byte) → (most : ℕ) (key : List ℕ) → Among (strings_to alphabet most) key → All P key × (length key ≤ most)
  strings_to-only P only most key here =
      let are = among_from_strings_to most key here in
      (All-from_recursion P key (all_from_among P key (λ byte inside. only byte (all_among (Among alphabet) key byte are.0 inside))), are.1)

-- `bytes_keys` lists the keys of arrays over byte strings.
pub bytes_keys-all : (longest : ℕ) → ListsAll (bytes_keys longest) (IsBytesKeyTo longest)
unfolding bytes_keys
bytes_keys-all longest = record {
  there =
      λ key is. strings_to-all (numbers_below 256) (λ byte. byte < 256) (λ byte below. Among-numbers_below 256 byte below)
      (λ byte here. below_from_among 256 byte here) longest key is.is_byte_string is.within_limit;
  only = λ key here. let are = strings_to-only (numbers_below 256) (λ byte. byte < 256) (λ byte inside. below_from_among 256 byte inside) longest key here in
      record { is_byte_string = are.0; within_limit = are.1 };
}

-- The bytes from 1 to 255.
byte_without_zero : (byte : ℕ) → (byte < 256) × (byte ≢ 0) → Among (filter (λ b. nat_lt 0 b) (numbers_below 256)) byte
byte_without_zero byte is =
    let some : 0 < byte = omega (arith, is.1) in
    Among-filter (λ b. nat_lt 0 b) (numbers_below 256) byte (Among-numbers_below 256 byte is.0) (lt-ltb 0 byte some)

without_zero : (byte : ℕ) → Among (filter (λ b. nat_lt 0 b) (numbers_below 256)) byte → (byte < 256) × (byte ≢ 0)
without_zero byte here =
    let are = among_from_filter (λ b. nat_lt 0 b) (numbers_below 256) byte here in
    let some : 0 < byte = ltb-true 0 byte are.1 in
    (below_from_among 256 byte are.0, λ e. omega arith)

-- `string_keys_to` lists the keys of arrays over strings.
pub string_keys_to-all : (longest : ℕ) → ListsAll (string_keys_to longest) (IsStringKeyTo longest)
unfolding string_keys_to
string_keys_to-all longest = record {
  there = λ key is. strings_to-all
      (filter (λ b. nat_lt 0 b) (numbers_below 256))
      (λ byte. (byte < 256) × (byte ≢ 0))
      byte_without_zero
      without_zero
      longest
      key
      (λ k d within. (is.is_bytes_key.is_byte_string k d within, is.without_zero k d within))
      is.is_bytes_key.within_limit;
  only = λ key here.
      let are = strings_to-only (filter (λ b. nat_lt 0 b) (numbers_below 256)) (λ byte. (byte < 256) × (byte ≢ 0)) without_zero longest key here in
      record { is_bytes_key = record { is_byte_string = λ k d within. (are.0 k d within).0; within_limit = are.1 }; without_zero = λ k d within. (are.0 k d within).1 };
}

-- A key of a judysl array is a string of at most 1,024 bytes.
pub string_key_to : (key : List ℕ) → IsStringKey key → IsStringKeyTo LONGEST_KEY key
string_key_to key is =
    record { is_bytes_key = record { is_byte_string = is.is_bytes_key.is_byte_string; within_limit = is.is_bytes_key.within_limit }; without_zero = is.without_zero }

pub string_key_of : (key : List ℕ) → IsStringKeyTo LONGEST_KEY key → IsStringKey key
string_key_of key is =
    record { is_bytes_key = record { is_byte_string = is.is_bytes_key.is_byte_string; within_limit = is.is_bytes_key.within_limit }; without_zero = is.without_zero }

-- `string_keys` lists the keys of judysl arrays.
pub string_keys-all : ListsAll string_keys IsStringKey
unfolding string_keys string_keys_to
string_keys-all = record {
  there = λ key is. (string_keys_to-all LONGEST_KEY).there key (string_key_to key is);
  only = λ key here. string_key_of key ((string_keys_to-all LONGEST_KEY).only key here);
}

-- ---- what a table answers

-- The order of byte strings is total.
pub byte_order_total : IsTotalOrder byte_order
byte_order_total = nat_list_cmp_total

-- And only equal strings tie in it.
pub byte_order_same : IsAntisymmetric byte_order
byte_order_same = slice_cmp-IsAntisymmetric nat_cmp-IsAntisymmetric

either_none : (b : Bool) (found : Option ℕ) → found ≡ None → cond b found None ≡ None
either_none true found none = none
either_none false found none = refl

find-here : (key other : List ℕ) (found : Option ℕ) (pairs : List (List ℕ × ℕ)) → eq_by_cmp byte_order key other ≡ true → (found ≡ None → find byte_order key pairs ≡ None) →
    find byte_order key (cons_option (option_map (λ value. (other, value)) found) pairs) ≡ found
find-here key other None pairs tied later = later refl
find-here key other (Some value) pairs tied later = ap (λ b. cond b (Some value) (find byte_order key pairs)) tied

find-later : (key other : List ℕ) (found : Option ℕ) (pairs : List (List ℕ × ℕ)) → eq_by_cmp byte_order key other ≡ false →
    find byte_order key (cons_option (option_map (λ value. (other, value)) found) pairs) ≡ find byte_order key pairs
find-later key other None pairs apart = refl
find-later key other (Some value) pairs apart = ap (λ b. cond b (Some value) (find byte_order key pairs)) apart

find-tabled : (answer : List ℕ → Option ℕ) (keys : List (List ℕ)) (key : List ℕ) → find byte_order key (tabled answer keys) ≡ cond (list_any (eq_by_cmp byte_order key) keys) (answer key) None
find-tabled answer [] key = refl
find-tabled answer (other ∷ others) key =
    let rest = find-tabled answer others key in
    let seen = list_any (eq_by_cmp byte_order key) others in
    elim (eq_by_cmp byte_order key other) as (λ b. eq_by_cmp byte_order key other ≡ b → find byte_order key (tabled answer (other ∷ others)) ≡ cond (b || seen) (answer key) None) [
      | true ↦ λ tied. let one = ap answer (same_from_tie byte_order_same key other tied) in
          find-here key other (answer other) (tabled answer others) tied (λ none. rest ∙ either_none seen (answer key) (one ∙ none)) ∙ sym one
      | false ↦ λ apart. find-later key other (answer other) (tabled answer others) apart ∙ rest
    ] refl

module _ {keys : List (List ℕ)} {IsKey : List ℕ → Type 0} (all : ListsAll keys IsKey) (answer : List ℕ → Option ℕ) where
  get-tabled : (key : List ℕ) → get (table keys answer) key ≡ cond (list_any (eq_by_cmp byte_order key) keys) (answer key) None
  unfolding table
  get-tabled key = get-from_entries byte_order_total (tabled answer keys) key ∙ find-tabled answer keys key

  -- At a key a table answers as its function does.
  pub get-table : (key : List ℕ) → IsKey key → get (table keys answer) key ≡ answer key
  get-table key is = get-tabled key ∙ ap (λ b. cond b (answer key) None) (list_any-from_among byte_order_total byte_order_same keys key (all.there key is))

  -- At what is no key it answers none.
  pub get-table_bad : (key : List ℕ) → ¬ (IsKey key) → get (table keys answer) key ≡ None
  get-table_bad key bad =
      get-tabled key ∙ ap (λ b. cond b (answer key) None) (false_from_ne_true (list_any (eq_by_cmp byte_order key) keys)
      (λ found. bad (all.only key (Among-list_any byte_order_total byte_order_same keys key found))))

  -- It answers a value just at the keys for which its function does, and the same.
  pub table_some : (key : List ℕ) (value : ℕ) → get (table keys answer) key ≡ Some value → IsKey key × (answer key ≡ Some value)
  table_some key value is =
      elim (list_any (eq_by_cmp byte_order key) keys) as (λ b. list_any (eq_by_cmp byte_order key) keys ≡ b → cond b (answer key) None ≡ Some value → IsKey key × (answer key ≡ Some value)) [
        | true ↦ λ found same. (all.only key (Among-list_any byte_order_total byte_order_same keys key found), same)
        | false ↦ λ missing same. absurd (none-some value same)
      ] refl (sym (get-tabled key) ∙ is)

apart_from : (key other : List ℕ) → eq_by_cmp byte_order other key ≡ false → other ≢ key
apart_from key other apart e = true≢false (sym (ap (λ k. eq_by_cmp byte_order k key) e ∙ ap is_eq (tied_itself byte_order_total key)) ∙ apart)

module _ {keys : List (List ℕ)} {IsKey : List ℕ → Type 0} (all : ListsAll keys IsKey) where
  -- Where a key would have no answer, the table has none.
  pub none_at : (answer : List ℕ → Option ℕ) (key : List ℕ) → (IsKey key → answer key ≡ None) → get (table keys answer) key ≡ None
  none_at answer key none =
      elim (list_any (eq_by_cmp byte_order key) keys) as (λ b. list_any (eq_by_cmp byte_order key) keys ≡ b → get (table keys answer) key ≡ None) [
        | true ↦ λ found. let is = all.only key (Among-list_any byte_order_total byte_order_same keys key found) in get-table all answer key is ∙ none is
        | false ↦ λ missing. get-tabled all answer key ∙ ap (λ b. cond b (answer key) None) missing
      ] refl

  get_alike : (one other : List ℕ → Option ℕ) (key : List ℕ) → (IsKey key → one key ≡ other key) → get (table keys one) key ≡ get (table keys other) key
  get_alike one other key alike =
      elim (list_any (eq_by_cmp byte_order key) keys) as (λ b. list_any (eq_by_cmp byte_order key) keys ≡ b → get (table keys one) key ≡ get (table keys other) key) [
        | true ↦ λ found. let is = all.only key (Among-list_any byte_order_total byte_order_same keys key found) in get-table all one key is ∙ alike is ∙ sym (get-table all other key is)
        | false ↦ λ missing. get-tabled all one key ∙ ap (λ b. cond b (one key) None) missing ∙ sym (get-tabled all other key ∙ ap (λ b. cond b (other key) None) missing)
      ] refl

  -- A function that has no answer for any key has the empty table.
  pub table_none : (answer : List ℕ → Option ℕ) → ((key : List ℕ) → IsKey key → answer key ≡ None) → table keys answer ≡ empty
  table_none answer none = same_map byte_order_total byte_order_same (table keys answer) empty (λ key. none_at answer key (none key) ∙ sym (get-empty byte_order key))

  -- A function that has another answer at one key has the table with that answer inserted.
  pub table_insert : (before after : List ℕ → Option ℕ) (key : List ℕ) (value : ℕ) → IsKey key → after key ≡ Some value →
      ((other : List ℕ) → IsKey other → other ≢ key → after other ≡ before other) → table keys after ≡ insert (table keys before) key value
  table_insert before after key value is here elsewhere = same_map byte_order_total byte_order_same (table keys after) (insert (table keys before) key value) (λ other.
      elim (eq_by_cmp byte_order other key) as (λ b. eq_by_cmp byte_order other key ≡ b → get (table keys after) other ≡ cond b (Some value) (get (table keys before) other)) [
        | true ↦ λ tied. ap (get (table keys after)) (same_from_tie byte_order_same other key tied) ∙ get-table all after key is ∙ here
        | false ↦ λ apart. get_alike after before other (λ good. elsewhere other good (apart_from key other apart))
      ] refl
      ∙ sym (get-insert byte_order_total (table keys before) key value other))

  -- A function that has no answer at one key any more has the table with that key removed.
  pub table_remove : (before after : List ℕ → Option ℕ) (key : List ℕ) → (IsKey key → after key ≡ None) → ((other : List ℕ) → IsKey other → other ≢ key → after other ≡ before other) →
      table keys after ≡ remove (table keys before) key
  table_remove before after key here elsewhere = same_map byte_order_total byte_order_same (table keys after) (remove (table keys before) key) (λ other.
      elim (eq_by_cmp byte_order other key) as (λ b. eq_by_cmp byte_order other key ≡ b → get (table keys after) other ≡ cond b None (get (table keys before) other)) [
        | true ↦ λ tied. ap (get (table keys after)) (same_from_tie byte_order_same other key tied) ∙ none_at after key here
        | false ↦ λ apart. get_alike after before other (λ good. elsewhere other good (apart_from key other apart))
      ] refl
      ∙ sym (get-remove byte_order_total (table keys before) key other))
