-- Whether a key of a map from strings is longer than a dump can say, as its entries tell, as its keys do, and as they are asked one by one.
use Rattle.std.proofs.Common.{◌≡◌, ℕ, ◌+◌, ◌<◌, ◌≤◌, Bool, true, false, cond, List, [], ◌∷◌, length, take, get_or, slice_get, Option, Some, option_map, IfSome, nat_le, refl, sym, ap}
use Rattle.std.proofs.Common.{subst, ◌∙◌, Less, Equal, Greater, arith}
use Rattle.std.proofs.Math.Numerals.{add-one}
use Rattle.std.proofs.lemmas.Bool.{le-leb, leb-true}
use Rattle.std.proofs.lemmas.List.{take_all}
use Rattle.std.proofs.lemmas.Option.{slice_get-map, slice_get-get_or}
use Rattle.std.specs.Cmp.Lexicographic.{nat_list_cmp_total}
use Rattle.std.specs.FinMap.{FinMap, entries, find, get-entries, len, len-entries}
use Rattle.std.specs.Ordering.{eq_by_cmp, is_eq}
use Rattle.std.specs.declared.cmp.Ordering.{Ordering}
use Rattle.judy_model.specs.Counts.{by_count}
use Rattle.judy_model.specs.Keys.{byte_order}
use Rattle.judy_model.specs.declared.keys.TheConstants.{LONGEST_KEY}
use Rattle.judy_model.proofs.lemmas.maps.TableLemmas.{byte_order_same}
use Rattle.judy_model.proofs.lemmas.maps.Tests.{both_true, first_true, second_true}
use Rattle.judy_model.proofs.lemmas.queries.RankLemmas.{by_count-suc}
use Rattle.judy_shelf.proofs.WalkLemmas.{entry_there}
use Rattle.judy_sl.specs.Arenas.{AreWithin}
use Rattle.judy_saved.specs.Dumps.{is_short}
use Rattle.judy_saved.proofs.EntryLemmas.{one_fails, all_more}

abbrev fits : List ℕ × ℕ → Bool
fits entry = nat_le (length entry.0) LONGEST_KEY

-- ---- a key that is found has an entry

tied : (answer : Ordering) → is_eq answer ≡ true → answer ≡ Equal
tied Less is = absurd cc
tied Equal is = refl
tied Greater is = absurd cc

by_test : (pair : List ℕ × ℕ) (key : List ℕ) (value : ℕ) (later : Option ℕ) → length pair.0 ≤ LONGEST_KEY → (later ≡ Some value → length key ≤ LONGEST_KEY) →
    (is : Bool) → eq_by_cmp byte_order key pair.0 ≡ is → cond is (Some pair.1) later ≡ Some value → length key ≤ LONGEST_KEY
by_test pair key value later short rest true is found = subst (λ (k : List ℕ). length k ≤ LONGEST_KEY) (sym (byte_order_same key pair.0 (tied (byte_order key pair.0) is))) short
by_test pair key value later short rest false is found = rest found

found_fits : (pairs : List (List ℕ × ℕ)) (key : List ℕ) (value : ℕ) → is_short pairs ≡ true → find byte_order key pairs ≡ Some value → length key ≤ LONGEST_KEY
found_fits [] key value short found = absurd cc
found_fits (pair ∷ pairs) key value short found =
    by_test pair key value (find byte_order key pairs) (leb-true (length pair.0) LONGEST_KEY (first_true (fits pair) (is_short pairs) short))
    (λ later. found_fits pairs key value (second_true (fits pair) (is_short pairs) short) later)
    (eq_by_cmp byte_order key pair.0) refl found

-- ---- a test of each of them

all_pass : (pairs : List (List ℕ × ℕ)) → ((place : ℕ) (pair : List ℕ × ℕ) → slice_get pairs place ≡ Some pair → length pair.0 ≤ LONGEST_KEY) → is_short pairs ≡ true
all_pass [] each = refl
all_pass (pair ∷ pairs) each =
    let rest = all_pass pairs (λ place other at. each (place + 1) other (ap (λ n. slice_get (pair ∷ pairs) n) (add-one place) ∙ at)) in
    let here = le-leb (length pair.0) LONGEST_KEY (each 0 pair refl) in
    both_true (fits pair) (is_short pairs) here rest

module _ (m : FinMap byte_order ℕ) where
  -- What the entries say, the keys say,
  pub keys_fit : is_short (entries m) ≡ true → AreWithin LONGEST_KEY m
  keys_fit short key value held = found_fits (entries m) key value short (sym (get-entries m key) ∙ held)

  -- and the other way round.
  pub entries_fit : AreWithin LONGEST_KEY m → is_short (entries m) ≡ true
  entries_fit within = all_pass (entries m) (λ place pair at.
      let there = entry_there nat_list_cmp_total m place pair.0 (slice_get-map (λ e. e.0) (entries m) place ∙ ap (option_map (λ e. e.0)) at) in
      within pair.0 there.0 there.1)

  module _ (place : ℕ) (within : place < len m) (answer : Bool) (told : IfSome (by_count m (place + 1)) (λ key. answer ≡ nat_le (length key) LONGEST_KEY)) where
    -- The key that is asked for is that of the entry at the place before.
    there : (pair : List ℕ × ℕ) × (slice_get (entries m) place ≡ Some pair) × (answer ≡ fits pair)
    there =
        let all = len-entries m in
        let pair = get_or (entries m) place ([], 0) in
        let at = slice_get-get_or (entries m) place ([], 0) (omega (arith, within, all)) in
        let asked : by_count m (place + 1) ≡ Some pair.0 =
        ap (by_count m) (add-one place) ∙ by_count-suc nat_list_cmp_total m place ∙ slice_get-map (λ e. e.0) (entries m) place ∙ ap (option_map (λ e. e.0)) at in
        (pair, at, subst (λ (found : Option (List ℕ)). IfSome found (λ key. answer ≡ nat_le (length key) LONGEST_KEY)) asked told)

    -- One that is too long is found,
    pub long_found : answer ≡ false → is_short (entries m) ≡ false
    long_found long = let one = there in one_fails fits (entries m) place one.0 one.1 (sym one.2 ∙ long)

    -- and one that isn't is passed.
    pub short_passed : answer ≡ true → is_short (take place (entries m)) ≡ true → is_short (take (place + 1) (entries m)) ≡ true
    short_passed short before =
        let one = there in
        subst (λ n. is_short (take n (entries m)) ≡ true) (sym (add-one place)) (all_more fits (entries m) place one.0 one.1 before (sym one.2 ∙ short))

  -- Where all were asked, none is too long.
  pub all_passed : (place : ℕ) → len m ≤ place → is_short (take place (entries m)) ≡ true → is_short (entries m) ≡ true
  all_passed place past before =
      let all = len-entries m in
      subst (λ pairs. is_short pairs ≡ true) (take_all place (entries m) (omega (arith, past, all))) before
