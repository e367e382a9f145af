-- Sorted entries: what a sort of the last ones of a list leaves, and that what it makes of keys that differ is the list of
-- a map.
use Rattle.std.proofs.Common.{◌≡◌, ℕ, ◌+◌, ◌-◌, ◌≤◌, false, cond, T, List, [], ◌∷◌, ◌++◌, map, length, get_or, take, drop, Option, Some, None, Less, Equal, Greater, bytes_eq, refl}
use Rattle.std.proofs.Common.{sym, ap, subst, ◌∙◌, inl, inr, arith, true≢false}
use Rattle.std.specs.declared.cmp.Ordering.{Ordering}
use Rattle.std.specs.Ordering.{is_lt, is_eq, eq_by_cmp}
use Rattle.std.specs.List.{AllByRecursion, IsDistinct}
use Rattle.std.specs.List.Sorted.{IsPermutation, IsSortedBy, IsStrictlySortedBy}
use Rattle.std.specs.Cmp.{tied_itself}
use Rattle.std.specs.FinMap.{find, is_sorted, entries, get, from_entries, get-from_entries, same_map}
use Rattle.std.specs.FinMap.Entries.{below_all}
use Rattle.std.proofs.lemmas.Bool.{false_from_ne_true}
use Rattle.std.proofs.lemmas.List.{length-take, drop_at, drop_all, drop-map, take_at, take_all, take-map, take-append-drop, append-nil, map-append, length-drop, length-map, get_or-map}
use Rattle.std.proofs.lemmas.List.Sorted.{IsPermutation-sym, IsPermutation-trans, IsPermutation-map, Contains-permutation}
use Rattle.std.proofs.lemmas.Map.Keys.{IsDistinct-IsPermutation, apart_from_distinct, sorted_from_all_adjacent}
use Rattle.std.proofs.lemmas.Option.{none-some}
use Rattle.judy_model.specs.Keys.{byte_order}
use Rattle.judy_model.proofs.lemmas.maps.Ascending.{Among, Contains-from_among, among_from_Contains}
use Rattle.judy_model.proofs.lemmas.maps.MadeMaps.{entries-made}
use Rattle.judy_model.proofs.lemmas.orders.Orders.{same_from_tie}
use Rattle.judy_model.proofs.lemmas.maps.Pairs.{turned_Greater}
use Rattle.judy_model.proofs.lemmas.maps.TableLemmas.{byte_order_total, byte_order_same}
use Rattle.judy_model.proofs.lemmas.maps.Tests.{both}
use Rattle.judy_hs.specs.Chains.{Pairs, value_in, AreApart}
use Rattle.judy_hs.specs.Listed.{key_bytes, entries_in, is_before}
use Rattle.judy_hs.specs.declared.entry.HsEntry.{HsEntry}
use Rattle.judy_hs.proofs.ChainLemmas.{bytes_cases, bytes_apart, bytes_itself, value_in-here, value_in-later}
use borrow.Rule.Slice.PartMut.{put_mid, post_of}

-- ---- tests and options

some_is : (left right : ℕ) → ◌≡◌ {A = Option ℕ} (Some left) (Some right) → left ≡ right
some_is left right e = cc

pub same_by_some : (one other : Option ℕ) → ((value : ℕ) → one ≡ Some value → other ≡ Some value) → ((value : ℕ) → other ≡ Some value → one ≡ Some value) → one ≡ other
same_by_some (Some value) other to from = sym (to value refl)
same_by_some None (Some value) to from = from value refl
same_by_some None None to from = refl

flips : (one other : List ℕ) → bytes_eq one other ≡ bytes_eq other one
flips one other = elim (bytes_cases one other) [
  | inl same ↦ λ t. bytes_eq (same t) (sym same t)
  | inr differ ↦ bytes_apart one other differ ∙ sym (bytes_apart other one (λ e. differ (sym e)))
]

-- What stands from the place on is what was written there.
pub drop-put_mid_rest : {X : Type 0} (start : ℕ) (xs ys : List X) → start ≤ length xs → drop start (put_mid start (length xs - start) xs ys) ≡ ys
drop-put_mid_rest start xs ys within =
    let rest : length (drop start xs) ≤ length xs - start = omega (arith, length-drop start xs) in
    drop_at (take start xs) (ys ++ post_of start (length xs - start) xs) start (omega (arith, length-take start xs)) ∙
    ap (λ more. ys ++ more) (drop_all (length xs - start) (drop start xs) rest) ∙ append-nil ys

-- ---- pairs with keys that differ

absent_apart : (key : List ℕ) (pairs : Pairs) → value_in pairs key ≡ None → AllByRecursion (λ other. bytes_eq key other ≡ false) (map (λ pair. pair.0) pairs)
absent_apart key [] absent = tt
absent_apart key (pair ∷ rest) absent = elim (bytes_cases pair.0 key) [
  | inl same ↦ absurd (none-some pair.1 (sym absent ∙ value_in-here pair rest key same))
  | inr differ ↦ (bytes_apart key pair.0 (λ e. differ (sym e)), absent_apart key rest (sym (value_in-later pair rest key differ) ∙ absent))
]

apart_absent : (key : List ℕ) (pairs : Pairs) → AllByRecursion (λ other. bytes_eq key other ≡ false) (map (λ pair. pair.0) pairs) → value_in pairs key ≡ None
apart_absent key [] apart = refl
apart_absent key (pair ∷ rest) apart =
    value_in-later pair rest key (λ same. true≢false (sym (bytes_itself key) ∙ ap (bytes_eq key) (sym same) ∙ apart.0)) ∙ apart_absent key rest apart.1

-- The two ways to say that no two pairs have one key.
distinct_keys : (pairs : Pairs) → AreApart pairs → IsDistinct bytes_eq (map (λ pair. pair.0) pairs)
unfolding IsDistinct
distinct_keys [] apart = tt
distinct_keys (pair ∷ rest) apart = (absent_apart pair.0 rest apart.0, distinct_keys rest apart.1)

apart_keys : (pairs : Pairs) → IsDistinct bytes_eq (map (λ pair. pair.0) pairs) → AreApart pairs
unfolding IsDistinct
apart_keys [] distinct = tt
apart_keys (pair ∷ rest) distinct = (apart_absent pair.0 rest distinct.0, apart_keys rest distinct.1)

-- A key that is found stands among the pairs with its value, and where keys differ the other way round.
value_among : (pairs : Pairs) (key : List ℕ) (value : ℕ) → value_in pairs key ≡ Some value → Among pairs (key, value)
value_among [] key value is = absurd (none-some value is)
value_among (pair ∷ rest) key value is = elim (bytes_cases pair.0 key) [
  | inl same ↦ let one : pair.1 ≡ value = some_is pair.1 value (sym (value_in-here pair rest key same) ∙ is) in inl (λ t. (sym same t, sym one t))
  | inr differ ↦ inr (value_among rest key value (sym (value_in-later pair rest key differ) ∙ is))
]

among_value : (pairs : Pairs) → AreApart pairs → (key : List ℕ) (value : ℕ) → Among pairs (key, value) → value_in pairs key ≡ Some value
among_value [] apart key value there = absurd there
among_value (pair ∷ rest) apart key value there = elim there [
  | inl same ↦ value_in-here pair rest key (ap (λ (p : List ℕ × ℕ). p.0) (sym same)) ∙ ap (λ (p : List ℕ × ℕ). Some p.1) (sym same)
  | inr later ↦ let is = among_value rest apart.1 key value later in value_in-later pair rest key (λ same. none-some value (sym apart.0 ∙ ap (value_in rest) same ∙ is)) ∙ is
]

-- Pairs in another order answer alike.
moved_value : (before after : Pairs) → AreApart before → AreApart after → IsPermutation before after → (key : List ℕ) → value_in after key ≡ value_in before key
moved_value before after one other moved key = same_by_some (value_in after key) (value_in before key)
    (λ value is. among_value before one key value (among_from_Contains before (key, value) (Contains-permutation after before (key, value) (IsPermutation-sym before after moved)
    (Contains-from_among after (key, value) (value_among after key value is)))))
    (λ value is. among_value after other key value (among_from_Contains after (key, value) (Contains-permutation before after (key, value) moved
    (Contains-from_among before (key, value) (value_among before key value is)))))

-- ---- a map answers as the pairs do that it is made of

tests_alike : (key other : List ℕ) → eq_by_cmp byte_order key other ≡ bytes_eq other key
tests_alike key other = elim (bytes_cases other key) [
  | inl same ↦ ap (λ (k : List ℕ). eq_by_cmp byte_order key k) same ∙ ap is_eq (tied_itself byte_order_total key) ∙ sym (ap (λ (k : List ℕ). bytes_eq k key) same ∙ bytes_itself key)
  | inr differ ↦ false_from_ne_true (eq_by_cmp byte_order key other) (λ tied. differ (sym (same_from_tie byte_order_same key other tied))) ∙ sym (bytes_apart other key differ)
]

pub find_value : (key : List ℕ) (pairs : Pairs) → find byte_order key pairs ≡ value_in pairs key
find_value key [] = refl
find_value key (pair ∷ rest) = λ t. cond (tests_alike key pair.0 t) (Some pair.1) (find_value key rest t)

pub get-made : (pairs : Pairs) (key : List ℕ) → get (from_entries {R = byte_order} pairs) key ≡ value_in pairs key
get-made pairs key = get-from_entries byte_order_total pairs key ∙ find_value key pairs

-- ---- sorted

-- Of keys that differ the one that isn't above the other is below it.
below_by : (one other : List ℕ) → is_lt (byte_order other one) ≡ false → bytes_eq one other ≡ false → (r : Ordering) → byte_order one other ≡ r → byte_order one other ≡ Less
below_by one other not_above differ Less e = e
below_by one other not_above differ Equal e = absurd (true≢false (sym (bytes_itself one) ∙ ap (bytes_eq one) (byte_order_same one other e) ∙ differ))
below_by one other not_above differ Greater e = absurd (true≢false (sym (ap is_lt (turned_Greater byte_order byte_order_total one other e)) ∙ not_above))

module _ {X : Type 0} (key : X → List ℕ) where
  strictly : (xs : List X) → IsDistinct bytes_eq (map key xs) → IsSortedBy (λ one other. is_lt (byte_order (key one) (key other))) xs → IsStrictlySortedBy byte_order (map key xs)
  strictly [] distinct sorted = sorted_from_all_adjacent byte_order_total [] [] (λ k within. absurd (omega arith))
  strictly (x ∷ xs) distinct sorted = sorted_from_all_adjacent byte_order_total (map key (x ∷ xs)) (key x) (λ k within.
      let long = length-map (x ∷ xs) key in
      let here = get_or-map key (x ∷ xs) k x (key x) (omega arith) in
      let next = get_or-map key (x ∷ xs) (k + 1) x (key x) (omega arith) in
      let one = key (get_or (x ∷ xs) k x) in
      let other = key (get_or (x ∷ xs) (k + 1) x) in
      let differ : bytes_eq one other ≡ false = (λ t. bytes_eq (sym here t) (sym next t)) ∙ apart_from_distinct bytes_eq (map key (x ∷ xs)) k (k + 1) (key x) distinct (omega arith) within in
      (λ t. byte_order (here t) (next t)) ∙ below_by one other (sorted k x (omega arith) (omega arith)) differ (byte_order one other) refl)

-- From keys that strictly ascend to entries in order.
below_from : (key : List ℕ) (pairs : Pairs) → AllByRecursion (λ other. byte_order key other ≡ Less) (map (λ pair. pair.0) pairs) → T (below_all byte_order key pairs)
below_from key [] below = tt
below_from key (pair ∷ rest) below = both (is_lt (byte_order key pair.0)) (below_all byte_order key rest) (subst (λ r. T (is_lt r)) (sym below.0) tt) (below_from key rest below.1)

in_order : (pairs : Pairs) → IsStrictlySortedBy byte_order (map (λ pair. pair.0) pairs) → T (is_sorted byte_order pairs)
unfolding IsStrictlySortedBy
in_order [] sorted = tt
in_order (pair ∷ rest) sorted = both (below_all byte_order pair.0 rest) (is_sorted byte_order rest) (below_from pair.0 rest sorted.0) (in_order rest sorted.1)

keys_still_differ : (before after : Pairs) → AreApart before → IsPermutation before after → IsDistinct bytes_eq (map (λ pair. pair.0) after)
keys_still_differ before after apart moved =
    IsDistinct-IsPermutation bytes_eq flips (map (λ pair. pair.0) before) (map (λ pair. pair.0) after) (IsPermutation-map (λ pair. pair.0) before after moved) (distinct_keys before apart)

-- What a sort by the bytes of keys makes of pairs whose keys differ is the list of the map that they make.
pub sorted_list : (before after : Pairs) → AreApart before → IsPermutation before after → IsStrictlySortedBy byte_order (map (λ pair. pair.0) after) →
    after ≡ entries (from_entries {R = byte_order} before)
sorted_list before after apart moved ascending =
    let keys_apart = keys_still_differ before after apart moved in
    let one : from_entries {R = byte_order} after ≡ from_entries before = same_map byte_order_total byte_order_same _ _
    (λ key. get-made after key ∙ moved_value before after apart (apart_keys after keys_apart) moved key ∙ sym (get-made before key)) in
    sym (entries-made byte_order_total byte_order_same after (in_order after ascending)) ∙ ap entries one

-- What a write through the whole list leaves is what was written.
pub whole_back : {X : Type 0} (len : ℕ) (xs new : List X) → len ≡ length xs → length new ≡ length xs → take len (new ++ drop (length new) xs) ≡ new
whole_back len xs new long same =
    ap (λ more. take len (new ++ more)) (drop_all (length new) xs (omega arith)) ∙ ap (take len) (append-nil new) ∙ take_all len new (omega arith)

keys_listed : (xs : List HsEntry) → map (λ (p : List ℕ × ℕ). p.0) (entries_in xs) ≡ map (λ (entry : HsEntry). key_bytes entry.key) xs
keys_listed [] = refl
keys_listed (x ∷ xs) = ap (λ (more : List (List ℕ)). key_bytes x.key ∷ more) (keys_listed xs)

-- Pairs were put behind those of a list in any order, and then the entries from there on were sorted.
module _ (before all added : Pairs) (middle new : List HsEntry) (start : ℕ) (long : start ≡ length before) (put : entries_in middle ≡ before ++ added) where
  front_kept : take start new ≡ take start middle → entries_in (take start new) ≡ before
  front_kept same = ap entries_in same ∙ sym (take-map (λ (entry : HsEntry). (key_bytes entry.key, entry.value)) start middle) ∙ ap (take start) put ∙ take_at before added start (sym long)

  rest_added : entries_in (drop start middle) ≡ added
  rest_added = sym (drop-map (λ (entry : HsEntry). (key_bytes entry.key, entry.value)) start middle) ∙ ap (drop start) put ∙ drop_at before added start (sym long)

  pub sorted_behind : AreApart all → IsPermutation all added → take start new ≡ take start middle → IsPermutation (drop start middle) (drop start new) →
      IsSortedBy is_before (drop start new) → entries_in new ≡ before ++ entries (from_entries {R = byte_order} all)
  sorted_behind apart any same moved sorted =
      let pair : HsEntry → List ℕ × ℕ = λ entry. (key_bytes entry.key, entry.value) in
      let pairs_moved : IsPermutation all (entries_in (drop start new)) = IsPermutation-trans all added (entries_in (drop start new)) any
      (subst (λ xs. IsPermutation xs (entries_in (drop start new))) rest_added (IsPermutation-map pair (drop start middle) (drop start new) moved)) in
      let one : map (λ (p : List ℕ × ℕ). p.0) (entries_in (drop start new)) ≡ map (λ (entry : HsEntry). key_bytes entry.key) (drop start new) = keys_listed (drop start new) in
      let differ = keys_still_differ all (entries_in (drop start new)) apart pairs_moved in
      let ascending = strictly (λ (entry : HsEntry). key_bytes entry.key) (drop start new) (subst (IsDistinct bytes_eq) one differ) sorted in
      ap entries_in (sym (take-append-drop start new)) ∙ map-append pair (take start new) (drop start new)
      ∙ (λ t. front_kept same t ++ sorted_list all (entries_in (drop start new)) apart pairs_moved (subst (IsStrictlySortedBy byte_order) (sym one) ascending) t)
