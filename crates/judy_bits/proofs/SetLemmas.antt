-- Sets of bytes as ascending lists: where a byte stands, and what the list becomes with it and without it.
use Rattle.std.proofs.Common.{◌≡◌, ◌≢◌, ℕ, zero, suc, ◌+◌, ◌-◌, ◌<◌, ◌≤◌, ◌==◌, ◌||◌, inl, inr, ⊎_elim, Bool, true, false, cond, not, List, [], ◌∷◌, ◌++◌, length, filter, find}
use Rattle.std.proofs.Common.{take, slice_get, Some, sym, refl, ap, ◌∙◌, subst, arith, true≢false, ne_eqb, Less, nat_lt, is_lt, is_gt, ltb-true, lt-ltb}
use Rattle.std.specs.List.{AllByRecursion, insert, remove}
use Rattle.std.specs.List.Sorted.{IsStrictlySortedBy}
use Rattle.std.specs.Cmp.{nat_cmp_total}
use Rattle.std.proofs.lemmas.Bool.{false_from_ne_true, cases_order, eq-eqb}
use Rattle.std.proofs.lemmas.List.Elements.{All-filter, All-cons, All-append}
use Rattle.std.proofs.lemmas.List.Edits.{length-insert, length-remove}
use Rattle.std.proofs.lemmas.Option.{same_Some, slice_get_within}
use Rattle.judy_model.specs.Keys.{word_order}
use Rattle.judy_model.proofs.lemmas.orders.Orders.{ge_is_not_lt}
use Rattle.judy_model.proofs.lemmas.orders.WordOrder.{less_word, lt_word, lt_from_word, is_lt_word, is_gt_word}
use Rattle.judy_model.proofs.lemmas.maps.Ascending.{Among, all_among, all_from_among, place_among, Among-slice_get, among_from_filter, ascending-filter}
use Rattle.judy_model.proofs.lemmas.queries.Places.{length-filter-le, filter_none, below_at_place, find_at_count, lt-IsDownward}
use Rattle.judy_bits.specs.ByteSets.{IsByteSet, has, rank, next_from, with_byte, without_byte}

-- ---- the tests

-- What isn't less.
pub not_less : (left right : ℕ) → right ≤ left → nat_lt left right ≡ false
not_less left right at_most = false_from_ne_true (nat_lt left right) (λ less. let never = ltb-true left right less in let no_way : ⊥ = omega arith in absurd no_way)

pub is_below : (member byte : ℕ) → member < byte → is_lt (word_order member byte) ≡ true
is_below = lt_word

pub not_below : (member byte : ℕ) → byte ≤ member → is_lt (word_order member byte) ≡ false
not_below member byte above = is_lt_word member byte ∙ not_less member byte above

pub is_above : (member byte : ℕ) → byte < member → is_gt (word_order member byte) ≡ true
is_above member byte above = is_gt_word member byte ∙ lt-ltb byte member above

pub not_above : (member byte : ℕ) → member ≤ byte → is_gt (word_order member byte) ≡ false
not_above member byte below = is_gt_word member byte ∙ not_less byte member below

apart_less : (member byte : ℕ) → member < byte → (member == byte) ≡ false
apart_less member byte less = ne_eqb member byte (λ e. omega arith)

all_weaker : (P Q : ℕ → Type 0) → ((x : ℕ) → P x → Q x) → (xs : List ℕ) → AllByRecursion P xs → AllByRecursion Q xs
all_weaker P Q weaker [] all = tt
all_weaker P Q weaker (x ∷ xs) all = (weaker x all.0, all_weaker P Q weaker xs all.1)

-- A filter that all pass keeps the list.
pub filter_all : (q : ℕ → Bool) (xs : List ℕ) → AllByRecursion (λ x. q x ≡ true) xs → filter q xs ≡ xs
filter_all q [] all = refl
filter_all q (x ∷ xs) all = ap (λ b. cond b (x ∷ filter q xs) (filter q xs)) all.0 ∙ ap (λ rest. x ∷ rest) (filter_all q xs all.1)

-- All after the first of an ascending list are greater.
pub later_above : (x : ℕ) (xs : List ℕ) → AllByRecursion (λ y. word_order x y ≡ Less) xs → AllByRecursion (λ y. x < y) xs
later_above x xs = all_weaker (λ y. word_order x y ≡ Less) (λ y. x < y) (λ y less. lt_from_word x y (ap is_lt less)) xs

pub Among-has : (xs : List ℕ) (byte : ℕ) → has xs byte ≡ true → Among xs byte
Among-has [] byte held = absurd (true≢false (sym held))
Among-has (x ∷ xs) byte held = ⊎_elim
    (λ same. inl (sym same))
    (λ apart. inr (Among-has xs byte (ap (λ b. b || has xs byte) (sym (ne_eqb x byte (λ e. ⊎_elim (λ less. omega arith) (λ more. omega arith) apart))) ∙ held)))
    (cases_order x byte)

pub has-among : (xs : List ℕ) (byte : ℕ) → Among xs byte → has xs byte ≡ true
has-among [] byte here = absurd here
has-among (x ∷ xs) byte here = ⊎_elim
    (λ e. ap (λ b. b || has xs byte) (eq-eqb x byte (sym e)))
    (λ later. elim (x == byte) as (λ b. (b || has xs byte) ≡ true) [ true ↦ refl | false ↦ has-among xs byte later ])
    here

-- What isn't a member of a list is none of its elements.
not_among : (xs : List ℕ) (byte : ℕ) → has xs byte ≡ false → AllByRecursion (λ x. x ≢ byte) xs
not_among xs byte absent = all_from_among (λ x. x ≢ byte) xs (λ key here e. true≢false (sym (has-among xs byte (subst (Among xs) e here)) ∙ absent))

-- ---- where a byte stands

module _ (xs : List ℕ) (ascending : IsStrictlySortedBy word_order xs) where
  -- The rank of the member at a place is that place.
  pub rank_at : (at byte : ℕ) → slice_get xs at ≡ Some byte → rank xs byte ≡ at
  rank_at at byte = below_at_place nat_cmp_total xs ascending at byte

  -- A member stands at its rank.
  pub slice_get-rank : (byte : ℕ) → has xs byte ≡ true → slice_get xs (rank xs byte) ≡ Some byte
  slice_get-rank byte held =
      let found = place_among xs byte (Among-has xs byte held) in
      ap (slice_get xs) (rank_at found.0 byte found.1) ∙ found.1

  -- What stands somewhere is a member.
  pub has_at : (at byte : ℕ) → slice_get xs at ≡ Some byte → has xs byte ≡ true
  has_at at byte is = has-among xs byte (Among-slice_get xs at byte is)

  -- The next member stands at the rank.
  pub next_from-rank : (byte : ℕ) → next_from xs byte ≡ slice_get xs (rank xs byte)
  next_from-rank byte = (λ t. find (λ key. ge_is_not_lt (word_order key byte) t) xs) ∙ find_at_count word_order (λ key. is_lt (word_order key byte)) (lt-IsDownward nat_cmp_total byte) xs ascending

-- ---- with a byte and without it

below_none : (byte : ℕ) (xs : List ℕ) → AllByRecursion (λ x. byte ≤ x) xs → filter (λ member. is_lt (word_order member byte)) xs ≡ []
below_none byte xs above = filter_none (λ member. is_lt (word_order member byte)) xs (all_weaker (λ x. byte ≤ x) (λ x. is_lt (word_order x byte) ≡ false) (λ x from. not_below x byte from) xs above)

above_all : (byte : ℕ) (xs : List ℕ) → AllByRecursion (λ x. byte < x) xs → filter (λ member. is_gt (word_order member byte)) xs ≡ xs
above_all byte xs above = filter_all (λ member. is_gt (word_order member byte)) xs (all_weaker (λ x. byte < x) (λ x. is_gt (word_order x byte) ≡ true) (λ x from. is_above x byte from) xs above)

-- One that is below goes before.
with_below : (x byte : ℕ) (xs : List ℕ) → x < byte → with_byte (x ∷ xs) byte ≡ x ∷ with_byte xs byte
with_below x byte xs below =
    λ t. cond (is_below x byte below t) (x ∷ filter (λ member. is_lt (word_order member byte)) xs) (filter (λ member. is_lt (word_order member byte)) xs)
    ++ byte ∷ cond (not_above x byte (let e : x ≤ byte = omega arith in e) t) (x ∷ filter (λ member. is_gt (word_order member byte)) xs) (filter (λ member. is_gt (word_order member byte)) xs)

-- Where all are above, it goes first.
with_first : (byte : ℕ) (xs : List ℕ) → AllByRecursion (λ x. byte < x) xs → with_byte xs byte ≡ byte ∷ xs
with_first byte xs above = λ t. below_none byte xs (all_weaker (λ x. byte < x) (λ x. byte ≤ x) (λ x less. omega arith) xs above) t ++ byte ∷ above_all byte xs above t

-- To put a member in changes nothing.
pub with_member : (xs : List ℕ) (byte : ℕ) → IsStrictlySortedBy word_order xs → has xs byte ≡ true → with_byte xs byte ≡ xs
unfolding IsStrictlySortedBy
with_member [] byte ascending held = absurd (true≢false (sym held))
with_member (x ∷ xs) byte ascending held =
    let later = later_above x xs ascending.0 in
    ⊎_elim
    (λ same.
    let above = all_weaker (λ y. x < y) (λ y. byte < y) (λ y less. omega arith) xs later in
    (λ t. cond (not_below x byte (let e : byte ≤ x = omega arith in e) t) (x ∷ filter (λ member. is_lt (word_order member byte)) xs) (filter (λ member. is_lt (word_order member byte)) xs)
    ++ byte ∷ cond (not_above x byte (let e : x ≤ byte = omega arith in e) t) (x ∷ filter (λ member. is_gt (word_order member byte)) xs) (filter (λ member. is_gt (word_order member byte)) xs))
    ∙ with_first byte xs above ∙ ap (λ first. first ∷ xs) (sym same))
    (λ apart. ⊎_elim
    (λ less. with_below x byte xs less ∙ ap (λ rest. x ∷ rest) (with_member xs byte ascending.1 (ap (λ b. b || has xs byte) (sym (apart_less x byte less)) ∙ held)))
    (λ more.
    let here = Among-has (x ∷ xs) byte held in
    let from : byte < byte = ⊎_elim (λ e. omega arith) (λ among. let above = all_among (λ y. x < y) xs byte later among in omega arith) here in
    let never : ⊥ = omega arith in absurd never)
    apart)
    (cases_order x byte)

-- To put another byte in puts it at its rank.
pub with_other : (xs : List ℕ) (byte : ℕ) → IsStrictlySortedBy word_order xs → has xs byte ≡ false → with_byte xs byte ≡ insert xs (rank xs byte) byte
unfolding IsStrictlySortedBy
with_other [] byte ascending absent = refl
with_other (x ∷ xs) byte ascending absent =
    let later = later_above x xs ascending.0 in
    ⊎_elim
    (λ same. absurd (true≢false (sym (ap (λ b. b || has xs byte) (eq-eqb x byte same)) ∙ absent)))
    (λ apart. ⊎_elim
    (λ less.
    with_below x byte xs less ∙ ap (λ rest. x ∷ rest) (with_other xs byte ascending.1 (ap (λ b. b || has xs byte) (sym (apart_less x byte less)) ∙ absent))
    ∙ sym (ap (λ b. insert (x ∷ xs) (length (cond b (x ∷ filter (λ member. is_lt (word_order member byte)) xs) (filter (λ member. is_lt (word_order member byte)) xs))) byte) (is_below x byte less)))
    (λ more.
    let above : AllByRecursion (λ y. byte < y) (x ∷ xs) = (more, all_weaker (λ y. x < y) (λ y. byte < y) (λ y greater. omega arith) xs later) in
    with_first byte (x ∷ xs) above
    ∙ sym (ap (λ kept. insert (x ∷ xs) (length kept) byte) (below_none byte (x ∷ xs) (all_weaker (λ y. byte < y) (λ y. byte ≤ y) (λ y less. omega arith) (x ∷ xs) above))))
    apart)
    (cases_order x byte)

-- The first members with the next one are the first, one more.
pub with_next : (xs : List ℕ) (at byte : ℕ) → IsStrictlySortedBy word_order xs → slice_get xs at ≡ Some byte → with_byte (take at xs) byte ≡ take (suc at) xs
unfolding IsStrictlySortedBy
with_next [] at byte ascending is = cc
with_next (x ∷ xs) zero byte ascending is = ap (λ first. first ∷ []) (sym (same_Some x byte is))
with_next (x ∷ xs) (suc at) byte ascending is =
    let less = all_among (λ y. x < y) xs byte (later_above x xs ascending.0) (Among-slice_get xs at byte is) in
    with_below x byte (take at xs) less ∙ ap (λ rest. x ∷ rest) (with_next xs at byte ascending.1 is)

-- The same of a set that is made member by member.
pub added_next : (xs so_far added : List ℕ) (at byte : ℕ) → IsStrictlySortedBy word_order xs → Some byte ≡ slice_get xs at → so_far ≡ take at xs →
    added ≡ with_byte so_far byte → added ≡ take (at + 1) xs
added_next xs so_far added at byte ascending is same put =
    let next : suc at ≡ at + 1 = omega arith in
    put ∙ ap (λ members. with_byte members byte) same ∙ with_next xs at byte ascending (sym is) ∙ ap (λ n. take n xs) next

-- To take out what isn't there changes nothing.
pub without_other : (xs : List ℕ) (byte : ℕ) → has xs byte ≡ false → without_byte xs byte ≡ xs
without_other xs byte absent =
    filter_all (λ member. not (member == byte)) xs (all_weaker (λ x. x ≢ byte) (λ x. not (x == byte) ≡ true) (λ x apart. ap not (ne_eqb x byte apart)) xs (not_among xs byte absent))

-- To take out the member at a place leaves the others.
pub without_at : (xs : List ℕ) (at byte : ℕ) → IsStrictlySortedBy word_order xs → slice_get xs at ≡ Some byte → without_byte xs byte ≡ remove xs at
unfolding IsStrictlySortedBy
without_at [] at byte ascending is = cc
without_at (x ∷ xs) zero byte ascending is =
    let same : x ≡ byte = same_Some x byte is in
    let later = later_above x xs ascending.0 in
    ap (λ b. cond (not b) (x ∷ without_byte xs byte) (without_byte xs byte)) (eq-eqb x byte same)
    ∙ filter_all (λ member. not (member == byte)) xs (all_weaker (λ y. x < y) (λ y. not (y == byte) ≡ true) (λ y less. ap not (ne_eqb y byte (λ e. omega arith))) xs later)
without_at (x ∷ xs) (suc at) byte ascending is =
    let later = later_above x xs ascending.0 in
    let less = all_among (λ y. x < y) xs byte later (Among-slice_get xs at byte is) in
    ap (λ b. cond (not b) (x ∷ without_byte xs byte) (without_byte xs byte)) (apart_less x byte less)
    ∙ ap (λ rest. x ∷ rest) (without_at xs at byte ascending.1 is)

-- ---- the list stays a set

ascending-append : (xs ys : List ℕ) → IsStrictlySortedBy word_order xs → IsStrictlySortedBy word_order ys → ((x y : ℕ) → Among xs x → Among ys y → x < y) → IsStrictlySortedBy word_order (xs ++ ys)
unfolding IsStrictlySortedBy
ascending-append [] ys first second between = second
ascending-append (x ∷ xs) ys first second between = (
  all_append (λ y. word_order x y ≡ Less) xs ys first.0 (all_from_among (λ y. word_order x y ≡ Less) ys (λ y here. less_word x y (between x y (inl refl) here))),
  ascending-append xs ys first.1 second (λ a b here there. between a b (inr here) there),
)
  where
    all_append : (P : ℕ → Type 0) (xs ys : List ℕ) → AllByRecursion P xs → AllByRecursion P ys → AllByRecursion P (xs ++ ys)
    all_append P [] ys first second = second
    all_append P (x ∷ xs) ys first second = (first.0, all_append P xs ys first.1 second)

-- A list with a byte ascends.
pub with_byte-ascending : (xs : List ℕ) (byte : ℕ) → IsStrictlySortedBy word_order xs → IsStrictlySortedBy word_order (with_byte xs byte)
unfolding IsStrictlySortedBy
with_byte-ascending xs byte ascending =
    let low = filter (λ member. is_lt (word_order member byte)) xs in
    let high = filter (λ member. is_gt (word_order member byte)) xs in
    ascending-append low (byte ∷ high) (ascending-filter word_order (λ member. is_lt (word_order member byte)) xs ascending)
    (first byte high (λ y here. less_word byte y (ltb-true byte y (sym (is_gt_word y byte) ∙ (among_from_filter (λ member. is_gt (word_order member byte)) xs y here).1)))
    (ascending-filter word_order (λ member. is_gt (word_order member byte)) xs ascending))
    (λ x y before after.
    let less = lt_from_word x byte (among_from_filter (λ member. is_lt (word_order member byte)) xs x before).1 in
    ⊎_elim (λ e. omega arith) (λ later. let more = ltb-true byte y (sym (is_gt_word y byte) ∙ (among_from_filter (λ member. is_gt (word_order member byte)) xs y later).1) in omega arith) after)
  where
    first : (x : ℕ) (ys : List ℕ) → ((y : ℕ) → Among ys y → word_order x y ≡ Less) → IsStrictlySortedBy word_order ys → IsStrictlySortedBy word_order (x ∷ ys)
    first x ys below ascending = (all_from_among (λ y. word_order x y ≡ Less) ys below, ascending)

-- A set with a byte is a set.
pub with_byte-IsByteSet : (xs : List ℕ) (byte : ℕ) → IsByteSet xs → byte < 256 → IsByteSet (with_byte xs byte)
with_byte-IsByteSet xs byte is small =
    let low_small = All-filter (λ member. is_lt (word_order member byte)) (λ b. b < 256) xs is.bytes in
    let high_small = All-filter (λ member. is_gt (word_order member byte)) (λ b. b < 256) xs is.bytes in
    record {
      ascending = with_byte-ascending xs byte is.ascending;
      bytes =
          All-append (λ b. b < 256) (filter (λ member. is_lt (word_order member byte)) xs) (byte ∷ filter (λ member. is_gt (word_order member byte)) xs) low_small
          (All-cons (λ b. b < 256) byte (filter (λ member. is_gt (word_order member byte)) xs) small high_small);
    }

-- A set without a byte is a set.
pub without_byte-IsByteSet : (xs : List ℕ) (byte : ℕ) → IsByteSet xs → IsByteSet (without_byte xs byte)
without_byte-IsByteSet xs byte is = record {
  ascending = ascending-filter word_order (λ member. not (member == byte)) xs is.ascending;
  bytes = All-filter (λ member. not (member == byte)) (λ b. b < 256) xs is.bytes;
}

-- The empty set is one.
pub empty-IsByteSet : IsByteSet []
unfolding IsStrictlySortedBy
empty-IsByteSet = record { ascending = tt; bytes = λ k d inside. let never : ⊥ = omega arith in absurd never }

-- ---- how many they are

-- A byte put in is one more where it wasn't there.
pub length-with_byte : (xs : List ℕ) (byte : ℕ) → IsStrictlySortedBy word_order xs → length (with_byte xs byte) ≡ cond (has xs byte) (length xs) (length xs + 1)
length-with_byte xs byte ascending = elim (has xs byte) as (λ b. has xs byte ≡ b → length (with_byte xs byte) ≡ cond b (length xs) (length xs + 1)) [
  | true ↦ λ held. ap length (with_member xs byte ascending held)
  | false ↦ λ absent. ap length (with_other xs byte ascending absent) ∙ length-insert xs (rank xs byte) byte (length-filter-le (λ member. is_lt (word_order member byte)) xs)
] refl

-- A byte taken out is one less where it was there.
pub length-without_byte : (xs : List ℕ) (byte : ℕ) → IsStrictlySortedBy word_order xs → length (without_byte xs byte) ≡ cond (has xs byte) (length xs - 1) (length xs)
length-without_byte xs byte ascending = elim (has xs byte) as (λ b. has xs byte ≡ b → length (without_byte xs byte) ≡ cond b (length xs - 1) (length xs)) [
  | true ↦ λ held.
      let there = slice_get-rank xs ascending byte held in
      let fewer = length-remove xs (rank xs byte) (slice_get_within xs (rank xs byte) byte there) in
      ap length (without_at xs (rank xs byte) byte ascending there) ∙ omega arith
  | false ↦ λ absent. ap length (without_other xs byte absent)
] refl

pub length-with_byte-le : (xs : List ℕ) (byte : ℕ) → IsStrictlySortedBy word_order xs → length (with_byte xs byte) ≤ length xs + 1
length-with_byte-le xs byte ascending =
    let long = length-with_byte xs byte ascending in
    let most : cond (has xs byte) (length xs) (length xs + 1) ≤ length xs + 1 = elim (has xs byte) as
    (λ b. cond b (length xs) (length xs + 1) ≤ length xs + 1) [ true ↦ omega arith | false ↦ omega arith ] in
    omega arith

pub length-with_byte-ge : (xs : List ℕ) (byte : ℕ) → IsStrictlySortedBy word_order xs → length xs ≤ length (with_byte xs byte)
length-with_byte-ge xs byte ascending =
    let long = length-with_byte xs byte ascending in
    let least : length xs ≤ cond (has xs byte) (length xs) (length xs + 1) = elim (has xs byte) as (λ b. length xs ≤ cond b (length xs) (length xs + 1)) [ true ↦ omega arith | false ↦ omega arith ] in
    omega arith

pub length-without_byte-ge : (xs : List ℕ) (byte : ℕ) → IsStrictlySortedBy word_order xs → length xs ≤ length (without_byte xs byte) + 1
length-without_byte-ge xs byte ascending =
    let long = length-without_byte xs byte ascending in
    let least : length xs ≤ cond (has xs byte) (length xs - 1) (length xs) + 1 = elim (has xs byte) as
    (λ b. length xs ≤ cond b (length xs - 1) (length xs) + 1) [ true ↦ omega arith | false ↦ omega arith ] in
    omega arith

pub length-without_byte-le : (xs : List ℕ) (byte : ℕ) → length (without_byte xs byte) ≤ length xs
length-without_byte-le xs byte = length-filter-le (λ member. not (member == byte)) xs
