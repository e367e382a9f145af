-- What one array has of another's keys.
use Rattle.std.proofs.Common.{◌≡◌, ℕ, ◌+◌, ◌<◌, Bool, true, false, cond, not, [], ◌∷◌, ◌++◌, length, take, drop, get_or, Option, Some, None, is_some, nat_lt, IsTrue, ◌↔◌, ◌≢◌, ◌⊎◌, inl, inr}
use Rattle.std.proofs.Common.{refl, sym, ap, ◌∙◌, arith, ltb-false, drop_of_length-le}
use Rattle.std.specs.Option.{option_or, option_map}
use Rattle.std.specs.FinMap.{find, get, entries, empty, contains_key, len, get-entries, get-empty, len-empty, empty_of_len}
use Rattle.std.specs.FinMap.Entries.{where_key}
use Rattle.std.proofs.lemmas.List.{take_more}
use Rattle.judy_model.specs.Keys.{word_order}
use Rattle.judy_model.specs.Arrays.{ArrayOf, with_map}
use Rattle.judy_model.specs.TwoMaps.{intersection, difference, IsSubset, IsDisjoint, HaveSameKeys}
use Rattle.judy_word.specs.Held.{with_new}
use Rattle.judy_combine.specs.declared.keep.Keep.{Keep}
use Rattle.judy_combine.specs.Merges.{Pairs, taken, pick}
use Rattle.judy_sets.specs.Pages.{Ahead, rest}
use Rattle.judy_sets.specs.Fills.{worth, IsFilled}
use Rattle.judy_sets.specs.LookUps.{is_wanted, common, IsCommonPut}
use Rattle.judy_combine.proofs.Finds.{same_or, find-same, find-apart, find-join}
use Rattle.judy_sets.proofs.FillFacts.{get-with_new, map-or, then_added, added_alike}
use Rattle.judy_sets.proofs.Lengths.{len-part, len-difference, len-rest}
use Rattle.judy_sets.proofs.MapLaws.{Words, same_words, get-intersection, get-difference}

-- ---- how many are found

-- A page whose pairs were all passed.
pub behind : (ahead after : Ahead) (page : Pairs) (count : ℕ) → page ≡ ahead.0 → count ≡ length page → rest after ≡ drop count ahead.0 ++ ahead.1 → rest after ≡ ahead.1
behind ahead after page count is all left =
    let nothing : drop count ahead.0 ≡ [] = drop_of_length-le ahead.0 (let long = ap length is in omega (arith, all, long)) in
    left ∙ ap (λ (ps : Pairs). ps ++ ahead.1) nothing

pub common_is : (one other : Words) → length (where_key word_order (is_wanted true other) (entries one)) ≡ len (intersection one other)
unfolding intersection
common_is one other = sym (len-part one (contains_key other))

pub lacking_is : (one other : Words) → length (where_key word_order (is_wanted false other) (entries one)) ≡ len (difference one other)
unfolding difference
lacking_is one other = sym (len-part one (λ key. not (contains_key other key)))

pub common-turned : (one other : Words) → len (intersection other one) ≡ len (intersection one other)
common-turned one other =
    let parts = len-difference other one in
    let same = len-rest one other in
    omega (arith, parts, same)

-- ---- whether one is

lacks : (ours theirs : Option ℕ) → (is_some ours ≡ true → is_some theirs ≡ true) → cond (not (is_some theirs)) ours None ≡ None
lacks None None all = refl
lacks None (Some w) all = refl
lacks (Some v) None all = absurd (let never = all refl in cc)
lacks (Some v) (Some w) all = refl

has_it : (ours theirs : Option ℕ) → cond (not (is_some theirs)) ours None ≡ None → is_some ours ≡ true → is_some theirs ≡ true
has_it ours (Some w) none held = refl
has_it ours None none held = absurd (let never = sym held ∙ ap is_some none in cc)

apart : (ours theirs : Option ℕ) → (is_some ours ≡ true → is_some theirs ≡ false) → cond (is_some theirs) ours None ≡ None
apart None None all = refl
apart None (Some w) all = refl
apart (Some v) None all = refl
apart (Some v) (Some w) all = absurd (let never = all refl in cc)

has_not : (ours theirs : Option ℕ) → cond (is_some theirs) ours None ≡ None → is_some ours ≡ true → is_some theirs ≡ false
has_not ours None none held = refl
has_not ours (Some w) none held = absurd (let never = sym held ∙ ap is_some none in cc)

no_keys : (map : Words) (key : ℕ) → len map ≡ 0 → get map key ≡ None
no_keys map key none = ap (λ (m : Words). get m key) (empty_of_len map none) ∙ get-empty word_order key

pub subset_lacks : (one other : Words) → IsSubset one other → len (difference one other) ≡ 0
subset_lacks one other all =
    ap len (same_words (difference one other) empty (λ key. get-difference one other key ∙ lacks (get one key) (get other key) (all key) ∙ sym (get-empty word_order key))) ∙ len-empty word_order ℕ

pub lacks_subset : (one other : Words) → len (difference one other) ≡ 0 → IsSubset one other
lacks_subset one other none key held = has_it (get one key) (get other key) (sym (get-difference one other key) ∙ no_keys (difference one other) key none) held

disjoint_common : (one other : Words) → IsDisjoint one other → len (intersection one other) ≡ 0
disjoint_common one other all =
    ap len (same_words (intersection one other) empty (λ key. get-intersection one other key ∙ apart (get one key) (get other key) (all key) ∙ sym (get-empty word_order key))) ∙ len-empty word_order ℕ

common_disjoint : (one other : Words) → len (intersection one other) ≡ 0 → IsDisjoint one other
common_disjoint one other none key held = has_not (get one key) (get other key) (sym (get-intersection one other key) ∙ no_keys (intersection one other) key none) held

zero_if : (n : ℕ) → IsTrue (not (nat_lt 0 n)) → n ≡ 0
zero_if n none = by (nat_lt 0 n) refl none
  where
    by : (b : Bool) → nat_lt 0 n ≡ b → IsTrue (not b) → n ≡ 0
    by true is none = absurd cc
    by false is none = let few = ltb-false 0 n is in omega (arith, few)

if_zero : (n : ℕ) → n ≡ 0 → IsTrue (not (nat_lt 0 n))
if_zero n zero = ap (λ (m : ℕ). not (nat_lt 0 m)) zero

pub subset_by : (one other : Words) (some : Bool) → some ≡ nat_lt 0 (length (where_key word_order (is_wanted false other) (entries one))) → IsTrue (not some) ↔ IsSubset one other
subset_by one other some is = (
  λ none. lacks_subset one other (sym (lacking_is one other) ∙ zero_if _ (sym (ap not is) ∙ none)),
  λ all. ap not is ∙ if_zero _ (lacking_is one other ∙ subset_lacks one other all),
)

pub disjoint_by : (one other : Words) (some : Bool) → some ≡ nat_lt 0 (length (where_key word_order (is_wanted true other) (entries one))) → IsTrue (not some) ↔ IsDisjoint one other
disjoint_by one other some is = (
  λ none. common_disjoint one other (sym (common_is one other) ∙ zero_if _ (sym (ap not is) ∙ none)),
  λ all. ap not is ∙ if_zero _ (common_is one other ∙ disjoint_common one other all),
)

pub disjoint_turned : (one other : Words) (some : Bool) → some ≡ nat_lt 0 (length (where_key word_order (is_wanted true one) (entries other))) → IsTrue (not some) ↔ IsDisjoint one other
disjoint_turned one other some is = (
  λ none. common_disjoint one other (sym (common-turned one other) ∙ sym (common_is other one) ∙ zero_if _ (sym (ap not is) ∙ none)),
  λ all. ap not is ∙ if_zero _ (common_is other one ∙ common-turned one other ∙ disjoint_common one other all),
)

-- More keys than another has are no part of it.
pub more_keys : (one other : Words) → len other < len one → IsTrue false ↔ IsSubset one other
more_keys one other more = (
  λ never. absurd cc,
  λ all. absurd
      (let none = subset_lacks one other all in
      let parts = len-difference one other in
      let rest = len-rest one other in
      omega (arith, none, parts, rest, more)),
)

-- Those that have the same keys have as many.
same_subset : (one other : Words) → HaveSameKeys one other → IsSubset one other
same_subset one other all key = (all key).0

turned_subset : (one other : Words) → HaveSameKeys one other → IsSubset other one
turned_subset one other all key = (all key).1

pub same_long : (one other : Words) → HaveSameKeys one other → len one ≡ len other
same_long one other all =
    let none = subset_lacks one other (same_subset one other all) in
    let none_turned = subset_lacks other one (turned_subset one other all) in
    let parts = len-difference one other in
    let rest = len-rest one other in
    omega (arith, none, none_turned, parts, rest)

-- Those that have as many have the same where none is lacking.
pub same_by : (one other : Words) (some : Bool) → len one ≡ len other → some ≡ nat_lt 0 (length (where_key word_order (is_wanted false other) (entries one)))
    → IsTrue (not some) ↔ HaveSameKeys one other
same_by one other some long is =
    let by = subset_by one other some is in (
      λ none key.
          let within = by.0 none in
          let nothing = subset_lacks one other within in
          let parts = len-difference one other in
          let rest = len-rest one other in
          (within key, lacks_subset other one (omega (arith, long, nothing, parts, rest)) key),
      λ all. by.1 (same_subset one other all),
    )

-- ---- pairs put in

common-or : (theirs : Bool) (a b other : Option ℕ) → common theirs (option_or a b) other ≡ option_or (common theirs a other) (common theirs b other)
common-or theirs None b other = refl
common-or theirs (Some v) b (Some w) = refl
common-or theirs (Some v) None None = refl
common-or theirs (Some v) (Some w) None = refl

nothing : (theirs : Bool) (other : Option ℕ) → common theirs None other ≡ None
nothing theirs None = refl
nothing theirs (Some w) = refl

or_none : (o : Option ℕ) → option_or o None ≡ o
or_none None = refl
or_none (Some v) = refl

module _ (words : ℕ) (theirs : Bool) (map : Words) where
  abbrev value : Pairs → ℕ → Option ℕ
  value pairs key = option_map (worth words) (common theirs (find word_order key pairs) (get map key))

  pub common_none : (before : ArrayOf word_order) (pairs : Pairs) → pairs ≡ [] → IsCommonPut words theirs before before pairs map
  common_none before pairs none = record {
    limit = refl;
    map = λ key. sym (ap (option_or (get before.map key)) (ap (λ (ps : Pairs). value ps key) none ∙ ap (option_map (worth words)) (nothing theirs (get map key))) ∙ or_none (get before.map key));
  }

  pub common_join : (before old new : ArrayOf word_order) (one other all : Pairs) → all ≡ one ++ other → IsCommonPut words theirs before old one map → IsCommonPut words theirs old new other map
      → IsCommonPut words theirs before new all map
  common_join before old new one other all is first more = added_alike words before new _ _ (λ key.
      sym (ap (λ (ps : Pairs). value ps key) is
      ∙ ap (λ (o : Option ℕ). option_map (worth words) (common theirs o (get map key))) (find-join key one other)
      ∙ ap (option_map (worth words)) (common-or theirs (find word_order key one) (find word_order key other) (get map key))
      ∙ map-or (worth words) (common theirs (find word_order key one) (get map key)) (common theirs (find word_order key other) (get map key))))
      (then_added words before old new _ _ first more)

  -- A pair whose key the map has.
  pub one_found : (before after : ArrayOf word_order) (pair : ℕ × ℕ) (held kept : ℕ) → Some held ≡ get map pair.0 → kept ≡ cond theirs held pair.1
      → after ≡ with_map before (with_new before.map pair.0 (worth words kept)) → IsCommonPut words theirs before after (pair ∷ []) map
  one_found before after pair held kept has which is = record {
    limit = ap (λ (a : ArrayOf word_order). a.limit) is;
    map = λ key. ap (λ (a : ArrayOf word_order). get a.map key) is ∙ get-with_new before.map pair.0 (worth words kept) key ∙ ap (option_or (get before.map key)) (at key (same_or key pair.0));
  }
    where
      at : (key : ℕ) → (key ≡ pair.0) ⊎ (key ≢ pair.0) → find word_order key ((pair.0, worth words kept) ∷ []) ≡ value (pair ∷ []) key
      at key (inl same) =
          find-same key (pair.0, worth words kept) [] same
          ∙ ap (λ (n : ℕ). Some (worth words n)) which
          ∙ sym (ap (λ (o : Option ℕ). option_map (worth words) (common theirs o (get map key))) (find-same key pair [] same)
          ∙ ap (λ (o : Option ℕ). option_map (worth words) (common theirs (Some pair.1) o)) (ap (get map) same ∙ sym has))
      at key (inr other) =
          find-apart key (pair.0, worth words kept) [] other
          ∙ sym (ap (λ (o : Option ℕ). option_map (worth words) (common theirs o (get map key))) (find-apart key pair [] other) ∙ ap (option_map (worth words)) (nothing theirs (get map key)))

  -- One more pair of a slice, and a page with those behind it.
  pub common_more : (before old new : ArrayOf word_order) (pairs : Pairs) (at : ℕ) → at < length pairs → IsCommonPut words theirs before old (take at pairs) map
      → IsCommonPut words theirs old new (get_or pairs at (0, 0) ∷ []) map → IsCommonPut words theirs before new (take (at + 1) pairs) map
  common_more before old new pairs at within first more = common_join before old new (take at pairs) (get_or pairs at (0, 0) ∷ []) (take (at + 1) pairs) (take_more pairs at (0, 0) within) first more

  pub common_page : (before old new : ArrayOf word_order) (ahead after : Ahead) (page : Pairs) (count : ℕ) → page ≡ ahead.0 → count ≡ length page → rest after ≡ drop count ahead.0 ++ ahead.1
      → IsCommonPut words theirs before old page map → IsCommonPut words theirs old new (rest after) map → IsCommonPut words theirs before new (rest ahead) map
  common_page before old new ahead after page count is all left first more =
      common_join before old new page (rest after) (rest ahead) (sym (λ t. is t ++ behind ahead after page count is all left t)) first more

-- ---- what is kept where both have a key alone

pick_common : (keep : Keep) (ours theirs : Option ℕ) → keep.left ≡ false → keep.both ≡ true → keep.right ≡ false → common false ours theirs ≡ pick keep ours theirs
pick_common keep ours theirs left both right = by ours theirs ∙ sym (λ t. taken (left t) (both t) (right t) ours theirs)
  where
    by : (ours theirs : Option ℕ) → common false ours theirs ≡ taken false true false ours theirs
    by None None = refl
    by None (Some w) = refl
    by (Some v) None = refl
    by (Some v) (Some w) = refl

turned_common : (keep : Keep) (ours theirs : Option ℕ) → keep.left ≡ false → keep.both ≡ true → keep.right ≡ false → common true theirs ours ≡ pick keep ours theirs
turned_common keep ours theirs left both right = by ours theirs ∙ sym (λ t. taken (left t) (both t) (right t) ours theirs)
  where
    by : (ours theirs : Option ℕ) → common true theirs ours ≡ taken false true false ours theirs
    by None None = refl
    by None (Some w) = refl
    by (Some v) None = refl
    by (Some v) (Some w) = refl

pub common_filled : (words : ℕ) (keep : Keep) (before after : ArrayOf word_order) (one other : Words) → keep.left ≡ false → keep.both ≡ true → keep.right ≡ false
    → IsCommonPut words false before after (entries one) other → IsFilled words keep before after (entries one) (entries other)
common_filled words keep before after one other left both right put = added_alike words before after _ _ (λ key. ap (option_map (worth words))
    (ap (common false (find word_order key (entries one))) (get-entries other key) ∙ pick_common keep (find word_order key (entries one)) (find word_order key (entries other)) left both right)) put

pub turned_filled : (words : ℕ) (keep : Keep) (before after : ArrayOf word_order) (one other : Words) → keep.left ≡ false → keep.both ≡ true → keep.right ≡ false
    → IsCommonPut words true before after (entries other) one → IsFilled words keep before after (entries one) (entries other)
turned_filled words keep before after one other left both right put = added_alike words before after _ _ (λ key. ap (option_map (worth words))
    (ap (common true (find word_order key (entries other))) (get-entries one key) ∙ turned_common keep (find word_order key (entries one)) (find word_order key (entries other)) left both right)) put
