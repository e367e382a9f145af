-- Lists of entries of byte strings, one after another.
use Rattle.std.proofs.Common.{◌≡◌, ℕ, zero, suc, ◌+◌, ◌<◌, ◌≤◌, ◌&&◌, Bool, true, false, cond, List, [], ◌∷◌, length, take, get_or, slice_get, option_map, Some, None, refl, sym, ap}
use Rattle.std.proofs.Common.{subst, ◌∙◌, arith}
use Rattle.std.specs.List.{list_all}
use Rattle.std.specs.FinMap.{FinMap, len, entries, from_entries, contains_key, len-entries, len-empty, len-insert}
use Rattle.std.proofs.lemmas.List.{length-map}
use Rattle.judy_model.specs.Keys.{byte_order}
use Rattle.judy_model.specs.DumpText.{length_order, entries_by}
use Rattle.judy_model.proofs.lemmas.dumps.KindLemmas.{length_order-total}
use Rattle.std.proofs.lemmas.Option.{slice_get-map, slice_get-get_or, slice_get_past}
use Rattle.judy_hs.specs.declared.entry.HsEntry.{HsEntry}
use Rattle.judy_hs.specs.Listed.{key_bytes, entries_in}

abbrev pair : HsEntry → List ℕ × ℕ
pair entry = (key_bytes entry.key, entry.value)

-- The key and the value of an entry stand at its place, and none behind all of them.
pub pair_at : (items : List HsEntry) (place : ℕ) → place < length items → (entry : HsEntry) → entry ≡ get_or items place entry →
    slice_get (entries_in items) place ≡ Some (key_bytes entry.key, entry.value)
pair_at items place within entry at =
    slice_get-map pair items place ∙ ap (option_map pair) (slice_get-get_or items place entry within) ∙ ap (λ (e : HsEntry). Some (pair e)) (sym at)

pub no_pair_at : (items : List HsEntry) (place : ℕ) → length items ≤ place → slice_get (entries_in items) place ≡ None
no_pair_at items place past = slice_get-map pair items place ∙ ap (option_map pair) (slice_get_past items place past)

-- ---- tests of each item

both_first : (one other : Bool) → (one && other) ≡ true → one ≡ true
both_first true other is = refl
both_first false other is = absurd cc

both_second : (one other : Bool) → (one && other) ≡ true → other ≡ true
both_second true other is = is
both_second false other is = absurd cc

none_second : (one : Bool) → (one && false) ≡ false
none_second true = refl
none_second false = refl

module _ {X : Type 0} (test : X → Bool) where
  pub all_at : (items : List X) (place : ℕ) (item : X) → list_all test items ≡ true → slice_get items place ≡ Some item → test item ≡ true
  all_at [] place item all at = absurd cc
  all_at (x ∷ items) zero item all at = let same : x ≡ item = cc in ap test (sym same) ∙ both_first (test x) (list_all test items) all
  all_at (x ∷ items) (suc place) item all at = all_at items place item (both_second (test x) (list_all test items) all) at

  pub one_fails : (items : List X) (place : ℕ) (item : X) → slice_get items place ≡ Some item → test item ≡ false → list_all test items ≡ false
  one_fails [] place item at fails = absurd cc
  one_fails (x ∷ items) zero item at fails = let same : x ≡ item = cc in ap (λ b. b && list_all test items) (ap test same ∙ fails)
  one_fails (x ∷ items) (suc place) item at fails = ap (λ b. test x && b) (one_fails items place item at fails) ∙ none_second (test x)

  pub all_more : (items : List X) (place : ℕ) (item : X) → slice_get items place ≡ Some item → list_all test (take place items) ≡ true → test item ≡ true →
      list_all test (take (suc place) items) ≡ true
  all_more [] place item at all passes = refl
  all_more (x ∷ items) zero item at all passes = let same : x ≡ item = cc in ap (λ b. b && true) (ap test same ∙ passes)
  all_more (x ∷ items) (suc place) item at all passes =
      ap (λ b. b && list_all test (take (suc place) items)) (both_first (test x) (list_all test (take place items)) all)
      ∙ all_more items place item at (both_second (test x) (list_all test (take place items)) all) passes

-- ---- no more are listed than there are

at_most_more : (there : Bool) (count most : ℕ) → count ≤ most → cond there count (count + 1) ≤ suc most
at_most_more true count most within = omega arith
at_most_more false count most within = omega arith

made_within : (items : List (List ℕ × ℕ)) → len (from_entries {R = length_order} items) ≤ length items
made_within [] = let none = len-empty length_order ℕ in omega (arith, none)
made_within (item ∷ items) =
    subst (λ n. n ≤ suc (length items)) (sym (len-insert length_order-total (from_entries items) item.0 item.1))
    (at_most_more (contains_key (from_entries items) item.0) (len (from_entries items)) (length items) (made_within items))

pub listed_within : (m : FinMap byte_order ℕ) (items : List HsEntry) → entries_in items ≡ entries_by length_order m → length items ≤ len m
listed_within m items is =
    let made = from_entries {R = length_order} (entries m) in
    let same = sym (length-map items pair) ∙ ap length is ∙ sym (len-entries made) in
    let most = made_within (entries m) in
    let all = len-entries m in
    omega (arith, same, most, all)
