-- The laws of sets of bytes.
use Rattle.std.proofs.Common.{◌≡◌, ◌≢◌, ℕ, ◌<◌, ◌≤◌, ◌==◌, ◌&&◌, ◌||◌, ◌↔◌, inl, ⊎_elim, Bool, true, false, cond, not, List, [], ◌∷◌, filter, slice_get, Some, None, sym, refl, ap}
use Rattle.std.proofs.Common.{◌∙◌, arith, true≢false, ne_eqb, is_lt, is_gt, is_le, is_ge}
use Rattle.std.specs.List.{AllByRecursion}
use Rattle.std.specs.List.Sorted.{IsStrictlySortedBy}
use Rattle.std.specs.Cmp.{nat_cmp_total}
use Rattle.std.proofs.lemmas.Bool.{false_from_ne_true, cases_order, eqb-true, eq-eqb}
use Rattle.std.proofs.lemmas.List.Folds.{list_any-append}
use Rattle.std.proofs.lemmas.Map.Views.{any-filter_same}
use Rattle.std.proofs.lemmas.Option.{same_Some}
use Rattle.judy_model.specs.Keys.{word_order}
use Rattle.judy_model.specs.Nearest.{IsFirst, IsLast}
use Rattle.judy_model.proofs.lemmas.maps.Ascending.{all_among, find_least, find_greatest}
use Rattle.judy_model.proofs.lemmas.queries.NearestLemmas.{IsLeast-from_among}
use Rattle.judy_bits.specs.ByteSets.{IsByteSet, has, rank, place, nth, next_from, prev_from, with_byte, without_byte}
use Rattle.judy_bits.proofs.SetLemmas.{Among-has, has-among, is_below, not_below, is_above, not_above, later_above, slice_get-rank, rank_at, has_at, with_byte-IsByteSet, without_byte-IsByteSet}

-- ---- a set is its members

none_first : (x : ℕ) (xs : List ℕ) → AllByRecursion (λ y. x < y) xs → has xs x ≡ false
none_first x xs later = false_from_ne_true (has xs x) (λ held. let above : x < x = all_among (λ y. x < y) xs x later (Among-has xs x held) in let never : ⊥ = omega arith in absurd never)

pub same_set : (xs ys : List ℕ) → IsStrictlySortedBy word_order xs → IsStrictlySortedBy word_order ys → ((byte : ℕ) → has xs byte ≡ has ys byte) → xs ≡ ys
unfolding IsStrictlySortedBy
same_set [] [] one other same = refl
same_set [] (y ∷ ys) one other same = absurd (true≢false (sym (has-among (y ∷ ys) y (inl refl)) ∙ sym (same y)))
same_set (x ∷ xs) [] one other same = absurd (true≢false (sym (has-among (x ∷ xs) x (inl refl)) ∙ same x))
same_set (x ∷ xs) (y ∷ ys) one other same =
    let after_x = later_above x xs one.0 in
    let after_y = later_above y ys other.0 in
    let x_there = Among-has (y ∷ ys) x (sym (same x) ∙ has-among (x ∷ xs) x (inl refl)) in
    let y_there = Among-has (x ∷ xs) y (same y ∙ has-among (y ∷ ys) y (inl refl)) in
    let first : x ≡ y = ⊎_elim
    (λ e. e)
    (λ x_later. ⊎_elim
    (λ e. sym e)
    (λ y_later. let up = all_among (λ z. y < z) ys x after_y x_later in let down = all_among (λ z. x < z) xs y after_x y_later in let never : ⊥ = omega arith in absurd never)
    y_there)
    x_there in
    let rest : (byte : ℕ) → has xs byte ≡ has ys byte = λ byte. ⊎_elim
    (λ e. ap (has xs) (sym e) ∙ none_first x xs after_x ∙ sym (ap (has ys) (sym e ∙ first) ∙ none_first y ys after_y))
    (λ apart.
    let differ : x ≢ byte = λ e. ⊎_elim (λ less. omega arith) (λ more. omega arith) apart in
    ap (λ b. b || has xs byte) (sym (ne_eqb x byte differ)) ∙ same byte ∙ ap (λ b. b || has ys byte) (ne_eqb y byte (λ e. differ (first ∙ e))))
    (cases_order x byte) in
    λ t. first t ∷ same_set xs ys one.1 other.1 rest t

-- ---- places

pub place-nth : (xs : List ℕ) (byte at : ℕ) → IsByteSet xs → (place xs byte ≡ Some at) ↔ (nth xs at ≡ Some byte)
place-nth xs byte at is = (by_place, λ there. ap (λ b. cond b (Some (rank xs byte)) None) (has_at xs is.ascending at byte there) ∙ ap Some (rank_at xs is.ascending at byte there))
  where
    by_place : place xs byte ≡ Some at → nth xs at ≡ Some byte
    by_place = elim (has xs byte) as (λ b. has xs byte ≡ b → cond b (Some (rank xs byte)) None ≡ Some at → nth xs at ≡ Some byte) [
      | true ↦ λ held found. ap (slice_get xs) (sym (same_Some (rank xs byte) at found)) ∙ slice_get-rank xs is.ascending byte held
      | false ↦ λ _ none. cc
    ] refl

-- ---- the nearest

pub next-IsFirst : (xs : List ℕ) (byte : ℕ) → IsByteSet xs → IsFirst word_order (has xs) byte (next_from xs byte)
next-IsFirst xs byte is =
    IsLeast-from_among word_order (has xs) (λ key. is_ge (word_order key byte)) xs (λ key. has-among xs key) (λ key. Among-has xs key) (next_from xs byte)
    (find_least nat_cmp_total (λ key. is_ge (word_order key byte)) xs is.ascending)

pub prev-IsLast : (xs : List ℕ) (byte : ℕ) → IsByteSet xs → IsLast word_order (has xs) byte (prev_from xs byte)
prev-IsLast xs byte is =
    IsLeast-from_among (λ left right. word_order right left) (has xs) (λ key. is_le (word_order key byte)) xs (λ key. has-among xs key) (λ key. Among-has xs key) (prev_from xs byte)
    (find_greatest nat_cmp_total (λ key. is_le (word_order key byte)) xs is.ascending)

-- ---- members after a change

pub has-without_byte : (xs : List ℕ) (byte other : ℕ) → has (without_byte xs byte) other ≡ (not (other == byte) && has xs other)
has-without_byte xs byte other =
    any-filter_same (λ member. member == other) (λ member. not (member == byte)) (not (other == byte)) (λ member same. ap (λ n. not (n == byte)) (eqb-true member other same)) xs

pub has-with_byte : (xs : List ℕ) (byte other : ℕ) → has (with_byte xs byte) other ≡ (other == byte || has xs other)
has-with_byte xs byte other =
    let low = filter (λ member. is_lt (word_order member byte)) xs in
    let high = filter (λ member. is_gt (word_order member byte)) xs in
    let low_is : has low other ≡ (is_lt (word_order other byte) && has xs other) = any-filter_same (λ member. member == other) (λ member. is_lt (word_order member byte))
    (is_lt (word_order other byte)) (λ member same. ap (λ n. is_lt (word_order n byte)) (eqb-true member other same)) xs in
    let high_is : has high other ≡ (is_gt (word_order other byte) && has xs other) = any-filter_same (λ member. member == other) (λ member. is_gt (word_order member byte))
    (is_gt (word_order other byte)) (λ member same. ap (λ n. is_gt (word_order n byte)) (eqb-true member other same)) xs in
    list_any-append (λ member. member == other) low (byte ∷ high)
    ∙ (λ t. low_is t || (byte == other || high_is t))
    ∙ ⊎_elim
    (λ same.
    (λ t. (not_below other byte (let e : byte ≤ other = omega arith in e) t && has xs other) || (eq-eqb byte other (sym same) t || (is_gt (word_order other byte) && has xs other)))
    ∙ sym (ap (λ b. b || has xs other) (eq-eqb other byte same)))
    (λ apart. ⊎_elim
    (λ less.
    (λ t. (is_below other byte less t && has xs other) || (ne_eqb byte other (λ e. omega arith) t || (not_above other byte (let e : other ≤ byte = omega arith in e) t && has xs other)))
    ∙ or_false (has xs other) ∙ sym (ap (λ b. b || has xs other) (ne_eqb other byte (λ e. omega arith))))
    (λ more.
    (λ t. (not_below other byte (let e : byte ≤ other = omega arith in e) t && has xs other) || (ne_eqb byte other (λ e. omega arith) t || (is_above other byte more t && has xs other)))
    ∙ sym (ap (λ b. b || has xs other) (ne_eqb other byte (λ e. omega arith))))
    apart)
    (cases_order other byte)
  where
    or_false : (b : Bool) → (b || false) ≡ b
    or_false true = refl
    or_false false = refl

-- To put another byte in and take it out leaves the set.
pub without-with_byte : (xs : List ℕ) (byte : ℕ) → IsByteSet xs → byte < 256 → has xs byte ≡ false → without_byte (with_byte xs byte) byte ≡ xs
without-with_byte xs byte is small absent =
    same_set (without_byte (with_byte xs byte) byte) xs (without_byte-IsByteSet (with_byte xs byte) byte (with_byte-IsByteSet xs byte is small)).ascending is.ascending (λ other.
    has-without_byte (with_byte xs byte) byte other ∙ ap (λ b. not (other == byte) && b) (has-with_byte xs byte other)
    ∙ elim (other == byte) as (λ b. (other == byte) ≡ b → (not b && (b || has xs other)) ≡ has xs other) [
      | true ↦ λ same. sym (ap (has xs) (eqb-true other byte same) ∙ absent)
      | false ↦ λ _. refl
    ] refl)
