-- A range of keys that is taken out of a map key by key.
use Rattle.std.proofs.Common.{◌≡◌, ℕ, suc, ◌+◌, ◌<◌, ◌≤◌, not, ◌&&◌, Bool, true, false, cond, [], ◌∷◌, length, map, filter, Option, Some, None, is_some, refl}
use Rattle.std.proofs.Common.{sym, ap, ◌∙◌, subst, arith}
use Rattle.std.specs.Ordering.{is_le, is_ge}
use Rattle.std.specs.Cmp.{nat_cmp_total}
use Rattle.std.specs.FinMap.{entries, empty, get, contains_key, len, len-entries, get-empty, len-empty, nat_cmp-IsAntisymmetric}
use Rattle.judy_model.specs.Keys.{word_order}
use Rattle.judy_model.specs.Counts.{count}
use Rattle.judy_model.specs.Nearest.{IsFirst}
use Rattle.judy_model.specs.Neighbours.{first}
use Rattle.judy_model.specs.Ranges.{within, outside}
use Rattle.judy_model.proofs.lemmas.maps.Tests.{both_true, first_true, second_true}
use Rattle.judy_model.proofs.lemmas.maps.MapsOfPairs.{count-is}
use Rattle.judy_model.proofs.lemmas.orders.WordOrder.{is_le_word, is_ge_word, le_word, le_from_word}
use Rattle.judy_model.proofs.lemmas.queries.NearestLemmas.{first-IsFirst}
use Rattle.judy_combine.specs.Merges.{Pairs}
use Rattle.judy_sets.specs.RangeWords.{IsLeast}
use Rattle.judy_sets.proofs.MapLaws.{Words, same_words, get-part}
use Rattle.judy_sets.proofs.Lengths.{len-part, len-parts}

abbrev in_range : ℕ → ℕ → ℕ → Bool
in_range from to key = is_le (word_order from key) && is_le (word_order key to)

inside : (from to key : ℕ) → from ≤ key → key ≤ to → in_range from to key ≡ true
inside from to key low high = both_true _ _ (le_word from key low) (le_word key to high)

no_test : (b : Bool) → (b ≡ true → ⊥) → b ≡ false
no_test true never = absurd (never refl)
no_test false never = refl

not_inside : (from to key : ℕ) → (from ≤ key → key ≤ to → ⊥) → in_range from to key ≡ false
not_inside from to key never = no_test (in_range from to key) (λ h. never (le_from_word from key (first_true _ _ h)) (le_from_word key to (second_true _ _ h)))

module _ (from to : ℕ) where
  pub get-outside : (m : Words) (key : ℕ) → get (outside m from to) key ≡ cond (not (in_range from to key)) (get m key) None
  unfolding outside
  get-outside m key = get-part m (λ k. not (in_range from to k)) key

  pub get-within : (m : Words) (key : ℕ) → get (within m from to) key ≡ cond (in_range from to key) (get m key) None
  unfolding within
  get-within m key = get-part m (in_range from to) key

  -- ---- nothing of the range is left

  kept : (held : Option ℕ) (b : Bool) → (is_some held ≡ true → b ≡ false) → cond (not b) held None ≡ held
  kept None true none = refl
  kept None false none = refl
  kept (Some v) b none = ap (λ t. cond (not t) (Some v) None) (none refl)

  lost : (held : Option ℕ) (b : Bool) → (is_some held ≡ true → b ≡ false) → cond b held None ≡ None
  lost None true none = refl
  lost None false none = refl
  lost (Some v) b none = ap (λ t. cond t (Some v) None) (none refl)

  abbrev pub NoneInside : Words → Type 0
  NoneInside m = (key : ℕ) → contains_key m key ≡ true → in_range from to key ≡ false

  pub outside-all : (m : Words) → NoneInside m → outside m from to ≡ m
  outside-all m none = same_words _ _ (λ key. get-outside m key ∙ kept (get m key) (in_range from to key) (none key))

  pub within-none : (m : Words) → NoneInside m → len (within m from to) ≡ 0
  within-none m none =
      ap len (same_words (within m from to) empty (λ key. get-within m key ∙ lost (get m key) (in_range from to key) (none key) ∙ sym (get-empty word_order key))) ∙ len-empty word_order ℕ

  -- ---- how many there are

  filter-map : (p : ℕ → Bool) (pairs : Pairs) → length (filter p (map (λ (e : ℕ × ℕ). e.0) pairs)) ≡ length (filter (λ (e : ℕ × ℕ). p e.0) pairs)
  filter-map p [] = refl
  filter-map p (pair ∷ pairs) = elim (p pair.0) as (λ b. length (cond b (pair.0 ∷ filter p (map (λ (e : ℕ × ℕ). e.0) pairs)) (filter p (map (λ (e : ℕ × ℕ). e.0) pairs))) ≡
      length (cond b (pair ∷ filter (λ (e : ℕ × ℕ). p e.0) pairs) (filter (λ (e : ℕ × ℕ). p e.0) pairs))) [
        | true ↦ ap suc (filter-map p pairs)
        | false ↦ filter-map p pairs
      ]

  pub count-within : (m : Words) → count m from to ≡ len (within m from to)
  unfolding within
  count-within m = count-is m from to ∙ filter-map (in_range from to) (entries m) ∙ sym (len-part m (in_range from to))

  most : (p : ℕ × ℕ → Bool) (pairs : Pairs) → length (filter p pairs) ≤ length pairs
  most p [] = omega arith
  most p (pair ∷ pairs) =
      let rest = most p pairs in
      elim (p pair) as (λ b. length (cond b (pair ∷ filter p pairs) (filter p pairs)) ≤ suc (length pairs)) [
        | true ↦ omega (arith, rest)
        | false ↦ omega (arith, rest)
      ]

  pub within-most : (m : Words) → len (within m from to) ≤ len m
  unfolding within
  within-most m =
      let part = len-part m (in_range from to) in
      let long = len-entries m in
      let few = most (λ e. in_range from to e.0) (entries m) in
      omega (arith, part, long, few)

  -- The keys of a range and the others are all.
  pub len-sides : (m : Words) → len (outside m from to) + len (within m from to) ≡ len m
  unfolding outside within
  len-sides m = len-parts m (in_range from to)

  -- Keys of the range are taken out, so many.
  pub within-less : (m after : Words) (count : ℕ) → outside after from to ≡ outside m from to → len after + count ≡ len m → len (within after from to) + count ≡ len (within m from to)
  within-less m after count same counted =
      let here = len-sides m in
      let there = len-sides after in
      let others = ap len same in
      omega (arith, here, there, others, counted)

  -- ---- the first key from the lower end on

  is_first : (m : Words) → IsFirst word_order (contains_key m) from (first m from)
  is_first m = first-IsFirst nat_cmp_total nat_cmp-IsAntisymmetric m from

  at_or_above : (m : Words) (key : ℕ) → contains_key m key ≡ true → from ≤ key → (contains_key m key && is_ge (word_order key from)) ≡ true
  at_or_above m key held low = both_true _ _ held (is_ge_word key from ∙ sym (is_le_word from key) ∙ le_word from key low)

  pub none_first : (m : Words) → None ≡ first m from → NoneInside m
  none_first m is = λ key held. not_inside from to key (λ low high.
      let none = subst (IsFirst word_order (contains_key m) from) (sym is) (is_first m) key in
      let some = at_or_above m key held low in
      cc)

  pub past_first : (m : Words) (least : ℕ) → Some least ≡ first m from → to < least → NoneInside m
  past_first m least is past = λ key held. not_inside from to key (λ low high.
      let by = subst (IsFirst word_order (contains_key m) from) (sym is) (is_first m) in
      let above = le_from_word least key (by.1 key (at_or_above m key held low)) in
      omega (arith, above, high, past))

  pub first_held : (m : Words) (least : ℕ) → Some least ≡ first m from → contains_key m least ≡ true
  first_held m least is = first_true _ _ (subst (IsFirst word_order (contains_key m) from) (sym is) (is_first m)).0

  pub first_low : (m : Words) (least : ℕ) → Some least ≡ first m from → from ≤ least
  first_low m least is =
      let ge = second_true (contains_key m least) (is_ge (word_order least from)) (subst (IsFirst word_order (contains_key m) from) (sym is) (is_first m)).0 in
      le_from_word from least (is_le_word from least ∙ sym (is_ge_word least from) ∙ ge)

  pub none_between : (m : Words) → NoneInside m → (key : ℕ) → from ≤ key → key ≤ to → contains_key m key ≡ false
  none_between m none key low high = no_test (contains_key m key) (λ held. let never = sym (inside from to key low high) ∙ none key held in cc)

  pub least_is : (m : Words) (least : ℕ) → Some least ≡ first m from → least ≤ to → IsLeast m from to least
  least_is m least is high =
      let by = subst (IsFirst word_order (contains_key m) from) (sym is) (is_first m) in record {
        held = first_held m least is;
        low = le_from_word from least (is_le_word from least ∙ sym (is_ge_word least from) ∙ second_true (contains_key m least) (is_ge (word_order least from)) by.0);
        high = high;
        none = λ other up less. no_test (contains_key m other) (λ held. let past = le_from_word least other (by.1 other (at_or_above m other held up)) in omega (arith, past, less));
      }
