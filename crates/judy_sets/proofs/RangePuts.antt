-- What an array has at a key as the pairs of a range are put in.
use Rattle.std.proofs.Common.{◌≡◌, ℕ, suc, ◌+◌, ◌-◌, is_some, IsTrue, All, ◌<◌, ◌≤◌, ◌⊎◌, inl, inr, ⊎_elim, ◌&&◌, Bool, true}
use Rattle.std.proofs.Common.{false, cond, [], ◌∷◌, ◌++◌, length, take, drop, get_or, Option, Some, None, refl, sym, ap, ◌∙◌, subst, arith}
use Rattle.std.proofs.Math.Seq.{drop-cons}
use Rattle.std.proofs.lemmas.Bool.{leb-true, leb-false, lt-leb, le-ltb}
use Rattle.std.proofs.Math.Dec.{leb}
use Rattle.std.proofs.lemmas.List.{take_more, take-append-drop}
use Rattle.std.specs.Option.{option_or, option_map}
use Rattle.std.specs.Ordering.{is_lt, is_le}
use Rattle.std.specs.FinMap.{FinMap, find, get, empty, values, get-empty}
use Rattle.judy_model.specs.Keys.{word_order}
use Rattle.judy_model.specs.Arrays.{ArrayOf}
use Rattle.judy_model.specs.Ranges.{within}
use Rattle.judy_model.proofs.lemmas.orders.WordOrder.{is_lt_word, is_le_word, lt_word, le_word}
use Rattle.judy_model.proofs.lemmas.maps.ValuesLemmas.{value_from_All}
use Rattle.judy_combine.specs.Merges.{Pairs, Ascends, UpTo}
use Rattle.judy_sets.specs.Fills.{worth, IsAdded, IsPut, IsFrontPut, IsRangePut, IsBelowPut, IsAbovePut}
use Rattle.judy_sets.specs.Pages.{AreWords, IsFrom}
use Rattle.judy_combine.proofs.Finds.{find-apart, find-below, find-join, ascends-drop}
use Rattle.judy_sets.proofs.FillFacts.{same_worth, map-or, then_added, added_alike}
use Rattle.judy_sets.proofs.MapLaws.{same_words}
use Rattle.judy_sets.proofs.RangeFacts.{get-within}

pub two_ways : (a b : ℕ) → (a ≤ b) ⊎ (b < a)
two_ways a b = elim (leb a b) as (λ t. leb a b ≡ t → (a ≤ b) ⊎ (b < a)) [ true ↦ λ e. inl (leb-true a b e) | false ↦ λ e. inr (leb-false a b e) ] refl

pub above : (key to : ℕ) → to < key → is_le (word_order key to) ≡ false
above key to high = is_le_word key to ∙ lt-leb key to high

-- One more pair up to a word.
up_to_more : (to : ℕ) (pairs : Pairs) (pair : ℕ × ℕ) → UpTo to pairs → pair.0 ≤ to → UpTo to (pairs ++ pair ∷ [])
up_to_more to [] pair up last = (last, tt)
up_to_more to (first ∷ pairs) pair up last = (up.0, up_to_more to pairs pair up.1 last)

pub front_step : (to : ℕ) (pairs : Pairs) (count : ℕ) → count < length pairs → (get_or pairs count (0, 0)).0 ≤ to → UpTo to (take count pairs) → UpTo to (take (count + 1) pairs)
front_step to pairs count less last up = subst (UpTo to) (sym (take_more pairs count (0, 0) less)) (up_to_more to (take count pairs) (get_or pairs count (0, 0)) up last)

find_past : (to key : ℕ) (pairs : Pairs) → UpTo to pairs → to < key → find word_order key pairs ≡ None
find_past to key [] up high = refl
find_past to key (pair ∷ pairs) up high =
    let low = up.0 in find-apart key pair pairs (λ e. omega (arith, e, low, high)) ∙ find_past to key pairs up.1 high

-- Behind a front nothing is up to the word.
pub past_front : (to key count : ℕ) (page behind : Pairs) → count < length page → to < (get_or page count (0, 0)).0 → Ascends 0 (page ++ behind) → key ≤ to
    → find word_order key (drop count page ++ behind) ≡ None
past_front to key count page behind less next up low =
    let pair = get_or page count (0, 0) in
    let is : drop count page ++ behind ≡ pair ∷ (drop (suc count) page ++ behind) = ap (λ (ps : Pairs). ps ++ behind) (drop-cons page count (0, 0) less) in
    let ups = subst (Ascends 0) is (ascends-drop 0 count page behind up) in
    ap (find word_order key) is ∙ find-below key pair.0 (pair ∷ (drop (suc count) page ++ behind)) (omega (arith, next, low)) (omega arith, ups.1)

module _ (words to : ℕ) where
  -- Nothing more.
  pub front_none : (before : ArrayOf word_order) (pairs : Pairs) → ((key : ℕ) → key ≤ to → find word_order key pairs ≡ None) → IsFrontPut words to before before pairs
  front_none before pairs none = record {
    limit = refl;
    map = λ key. sym (or_none (get before.map key)) ∙ ap (option_or (get before.map key)) (sym (at key));
  }
    where
      or_none : (o : Option ℕ) → option_or o None ≡ o
      or_none None = refl
      or_none (Some v) = refl

      at : (key : ℕ) → cond (is_le (word_order key to)) (option_map (worth words) (find word_order key pairs)) None ≡ None
      at key = ⊎_elim
          (λ (low : key ≤ to). ap (λ b. cond b (option_map (worth words) (find word_order key pairs)) None) (le_word key to low) ∙ ap (option_map (worth words)) (none key low))
          (λ (high : to < key). ap (λ b. cond b (option_map (worth words) (find word_order key pairs)) None) (above key to high))
          (two_ways key to)

  -- A front, and then those behind it.
  pub front_join : (before old new : ArrayOf word_order) (all front more : Pairs) → all ≡ front ++ more → UpTo to front → IsPut words before old front → IsFrontPut words to old new more →
      IsFrontPut words to before new all
  front_join before old new all front more is up first rest = added_alike words before new _ _ same (then_added words before old new _ _ first rest)
    where
      value : Pairs → ℕ → Option ℕ
      value pairs key = option_map (worth words) (find word_order key pairs)

      joined : (key : ℕ) → option_or (value front key) (value more key) ≡ value all key
      joined key = sym (map-or (worth words) (find word_order key front) (find word_order key more)) ∙ ap (option_map (worth words)) (sym (ap (find word_order key) is ∙ find-join key front more))

      same : (key : ℕ) → option_or (value front key) (cond (is_le (word_order key to)) (value more key) None) ≡ cond (is_le (word_order key to)) (value all key) None
      same key = ⊎_elim
          (λ (low : key ≤ to). ap (λ b. option_or (value front key) (cond b (value more key) None)) (le_word key to low) ∙ joined key
          ∙ sym (ap (λ b. cond b (value all key) None) (le_word key to low)))
          (λ (high : to < key).
          ap (λ b. option_or (value front key) (cond b (value more key) None)) (above key to high)
          ∙ ap (λ (o : Option ℕ). option_or (option_map (worth words) o) None) (find_past to key front up high)
          ∙ sym (ap (λ b. cond b (value all key) None) (above key to high)))
          (two_ways key to)

pub front_and_rest : (count : ℕ) (page behind : Pairs) → page ++ behind ≡ take count page ++ (drop count page ++ behind)
front_and_rest count page behind = sym (appended (take count page) (drop count page) behind ∙ ap (λ (ps : Pairs). ps ++ behind) (take-append-drop count page))
  where
    appended : (a b c : Pairs) → a ++ (b ++ c) ≡ (a ++ b) ++ c
    appended [] b c = refl
    appended (p ∷ a) b c = ap (λ (ps : Pairs). p ∷ ps) (appended a b c)

-- The pairs of a map from a key on, up to another.
pub range_is : (words from to : ℕ) (map : FinMap word_order ℕ) (before after : ArrayOf word_order) (pairs : Pairs) → IsFrom from map pairs → IsFrontPut words to before after pairs
    → IsRangePut words before after map from to
range_is words from to map before after pairs is put = added_alike words before after _ _ (λ key.
    ap (λ (o : Option ℕ). cond (is_le (word_order key to)) (option_map (worth words) o) None) (is.found key)
    ∙ both (is_le (word_order from key)) (is_le (word_order key to)) (get map key)
    ∙ ap (option_map (worth words)) (sym (get-within from to map key))) put
  where
    both : (a b : Bool) (held : Option ℕ) → cond b (option_map (worth words) (cond a held None)) None ≡ option_map (worth words) (cond (a && b) held None)
    both true true held = refl
    both true false held = refl
    both false true held = refl
    both false false held = refl

-- ---- both sides of a range

below_is : (map : FinMap word_order ℕ) (at key : ℕ) → 0 < at → get (within map 0 (at - 1)) key ≡ cond (is_lt (word_order key at)) (get map key) None
below_is map at key some = get-within 0 (at - 1) map key ∙ ap (λ b. cond b (get map key) None) (same (two_ways at key))
  where
    same : (at ≤ key) ⊎ (key < at) → (is_le (word_order 0 key) && is_le (word_order key (at - 1))) ≡ is_lt (word_order key at)
    same (inl past) = ap (λ b. is_le (word_order 0 key) && b) (above key (at - 1) (omega (arith, past, some))) ∙ ap (λ b. b && false) (le_word 0 key (omega arith))
        ∙ sym (is_lt_word key at ∙ le-ltb key at past)
    same (inr low) = ap (λ b. is_le (word_order 0 key) && b) (le_word key (at - 1) (omega (arith, low))) ∙ ap (λ b. b && true) (le_word 0 key (omega arith)) ∙ sym (lt_word key at low)

pub below_put : (words at : ℕ) (map : FinMap word_order ℕ) (before after : ArrayOf word_order) → 0 < at → IsRangePut words before after map 0 (at - 1) → IsBelowPut words before after map at
below_put words at map before after some put = added_alike words before after _ _ (λ key. ap (option_map (worth words)) (below_is map at key some)) put

nothing_put : (words : ℕ) (before : ArrayOf word_order) (none : ℕ → Option ℕ) → ((key : ℕ) → none key ≡ None) → IsAdded before before (λ key. option_map (worth words) (none key))
nothing_put words before none is = record {
  limit = refl;
  map = λ key. sym (or_none (get before.map key)) ∙ ap (option_or (get before.map key)) (sym (ap (option_map (worth words)) (is key)));
}
  where
    or_none : (o : Option ℕ) → option_or o None ≡ o
    or_none None = refl
    or_none (Some v) = refl

pub below_nothing : (words at : ℕ) (map : FinMap word_order ℕ) (before : ArrayOf word_order) → at ≡ 0 → IsBelowPut words before before map at
below_nothing words at map before zero = nothing_put words before (λ key. cond (is_lt (word_order key at)) (get map key) None) (λ key.
    ap (λ b. cond b (get map key) None) (is_lt_word key at ∙ le-ltb key at (omega (arith, zero))))

-- A key that is there is a word.
pub no_key : (map : FinMap word_order ℕ) (key : ℕ) → AreWords map → 18446744073709551615 < key → get map key ≡ None
no_key map key words high = by (get map key) refl
  where
    by : (o : Option ℕ) → get map key ≡ o → o ≡ None
    by None is = refl
    by (Some v) is = absurd (let low = words key (subst (λ (o : Option ℕ). IsTrue (is_some o)) (sym is) refl) in omega (arith, low, high))

above_is : (map : FinMap word_order ℕ) (at key : ℕ) → AreWords map → get (within map (at + 1) 18446744073709551615) key ≡ cond (is_lt (word_order at key)) (get map key) None
above_is map at key words = get-within (at + 1) 18446744073709551615 map key ∙ same (two_ways key at) (two_ways key 18446744073709551615)
  where
    nothing : Option ℕ
    nothing = None

    either : (a b : Bool) → cond a nothing nothing ≡ cond b nothing nothing
    either true true = refl
    either true false = refl
    either false true = refl
    either false false = refl

    same : (key ≤ at) ⊎ (at < key) → (key ≤ 18446744073709551615) ⊎ (18446744073709551615 < key)
        → cond (is_le (word_order (at + 1) key) && is_le (word_order key 18446744073709551615)) (get map key) None ≡ cond (is_lt (word_order at key)) (get map key) None
    same (inl low) here = ap (λ b. cond (b && is_le (word_order key 18446744073709551615)) (get map key) None) (is_le_word (at + 1) key ∙ lt-leb (at + 1) key (omega (arith, low)))
        ∙ sym (ap (λ b. cond b (get map key) None) (is_lt_word at key ∙ le-ltb at key low))
    same (inr up) (inl here) = (λ t. cond (le_word (at + 1) key (omega (arith, up)) t && le_word key 18446744073709551615 here t) (get map key) None)
        ∙ sym (ap (λ b. cond b (get map key) None) (lt_word at key up))
    same (inr up) (inr past) =
        let none = no_key map key words past in
        ap (λ (o : Option ℕ). cond (is_le (word_order (at + 1) key) && is_le (word_order key 18446744073709551615)) o None) none
        ∙ either (is_le (word_order (at + 1) key) && is_le (word_order key 18446744073709551615)) (is_lt (word_order at key))
        ∙ sym (ap (λ (o : Option ℕ). cond (is_lt (word_order at key)) o None) none)

pub above_put : (words at : ℕ) (map : FinMap word_order ℕ) (before after : ArrayOf word_order) → AreWords map → IsRangePut words before after map (at + 1) 18446744073709551615
    → IsAbovePut words before after map at
above_put words at map before after bound put = added_alike words before after _ _ (λ key. ap (option_map (worth words)) (above_is map at key bound)) put

pub above_nothing : (words at : ℕ) (map : FinMap word_order ℕ) (before : ArrayOf word_order) → AreWords map → at ≡ 18446744073709551615 → IsAbovePut words before before map at
above_nothing words at map before bound last = nothing_put words before (λ key. cond (is_lt (word_order at key)) (get map key) None) (λ key. by key (two_ways key at))
  where
    nothing : Option ℕ
    nothing = None

    off : (b : Bool) → cond b nothing nothing ≡ nothing
    off true = refl
    off false = refl

    by : (key : ℕ) → (key ≤ at) ⊎ (at < key) → cond (is_lt (word_order at key)) (get map key) None ≡ None
    by key (inl low) = ap (λ b. cond b (get map key) None) (is_lt_word at key ∙ le-ltb at key low)
    by key (inr past) = ap (λ (o : Option ℕ). cond (is_lt (word_order at key)) o None) (no_key map key bound (omega (arith, past, last))) ∙ off (is_lt (word_order at key))

-- ---- what an array comes to

pub all_zero : (words : ℕ) (map : FinMap word_order ℕ) (o : ℕ → Option ℕ) → (words ≡ 0 → All (λ value. value ≡ 0) (values map)) → ((key v : ℕ) → o key ≡ Some v → get map key ≡ Some v)
    → (key : ℕ) → option_map (worth words) (o key) ≡ o key
all_zero words map o zeros part key = same_worth words (o key) (λ none v is. value_from_All (λ value. value ≡ 0) map key v (zeros none) (part key v is))

in_part : (b : Bool) (held : Option ℕ) (v : ℕ) → cond b held None ≡ Some v → held ≡ Some v
in_part true held v is = is
in_part false held v is = absurd cc

pub part_is : (words from to : ℕ) (map : FinMap word_order ℕ) (before after : ArrayOf word_order) → before.map ≡ empty → (words ≡ 0 → All (λ value. value ≡ 0) (values map)) →
    IsRangePut words before after map from to → after.map ≡ within map from to
part_is words from to map before after new zeros put = same_words after.map (within map from to) (λ key.
    put.map key
    ∙ ap (λ (m : FinMap word_order ℕ). option_or (get m key) (option_map (worth words) (get (within map from to) key))) new
    ∙ ap (λ (o : Option ℕ). option_or o (option_map (worth words) (get (within map from to) key))) (get-empty word_order key)
    ∙ all_zero words map (get (within map from to)) zeros (λ k v is. in_part _ (get map k) v (sym (get-within from to map k) ∙ is)) key)
