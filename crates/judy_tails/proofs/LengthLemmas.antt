-- Which list is for texts of so many words, and that there is one at most.
use Rattle.std.proofs.Common.{◌≡◌, ◌≢◌, ◌+◌, ◌-◌, ◌<◌, ◌≤◌, ◌*◌, ◌^◌, ℕ, zero, suc, List, [], ◌∷◌, ◌++◌, length, map, nat_lt, slice_get, get_or, Some, ◌⊎◌, inl, inr, ⊎_elim, true}
use Rattle.std.proofs.Common.{false, not, ◌||◌, eqb, cond, sym, refl, ap, ◌∙◌, subst, arith}
use Rattle.std.proofs.Math.ListN.{get_or-map}
use Rattle.std.specs.Prelude.{◌==◌}
use Rattle.std.specs.List.{IsDistinct, list_any, position_or_len}
use Rattle.std.proofs.lemmas.Bool.{cases_order, eqb-true, eq-eqb, ltb-true}
use Rattle.std.proofs.lemmas.Bool.Decides.{eqb_tells}
use Rattle.std.proofs.lemmas.Cmp.{nat_eq_equiv}
use Rattle.std.proofs.lemmas.Grind.{get_or_head}
use Rattle.std.proofs.lemmas.List.{length-map, map-append, get_or_past, get_or_read, get_or-append_right}
use Rattle.std.proofs.lemmas.List.Sums.{passes_at_first, position_or_len_is, prefix_len-le-length}
use Rattle.std.proofs.lemmas.Map.Keys.{IsDistinct-push}
use Rattle.std.proofs.lemmas.Map.Steps.{length-le_from_distinct_below}
use Rattle.std.proofs.lemmas.Option.{slice_get-get_or, slice_get_within, get_or_from_slice_get}
use Rattle.judy_records.specs.Spots.{RecordList, empty_list}
use Rattle.judy_records.proofs.PagesChange.{empty-next}
use Rattle.judy_tails.specs.Short.{ShortLists}
use Rattle.judy_tails.specs.Inside.{size_of, next_of, tails_in, lists_of, IsTailList, AreTails, AreSame}
use Rattle.judy_tails.proofs.ListLemmas.{list_at, pushed-other}

-- ---- how many there are

-- There is one list at most for each length.
words-short : (lists : List RecordList) → ((number : ℕ) → (list_at lists number).size ≤ 128) → (words : ℕ) → list_any (λ other. words == other) (map size_of lists) ≡ true → words < 129
words-short [] short words is = absurd (cc)
words-short (list ∷ rest) short words is =
    elim (words == list.size) as (λ b. (words == list.size) ≡ b → (b || list_any (λ other. words == other) (map size_of rest)) ≡ true → words < 129) [
      | true ↦ λ same _. (let here = eqb-true words list.size same in let fits = short zero in omega (arith, here, fits))
      | false ↦ λ _ among. words-short rest (λ number. short (suc number)) words among
    ] refl is

pub none-are : AreTails []
unfolding IsDistinct
none-are = record { each = λ number. record { short = omega arith; whole = λ place. tt; long = omega arith; next = empty-next }; apart = tt }

pub are-few : (lists : List RecordList) → AreTails lists → length lists ≤ 129
are-few lists are =
    let few = length-le_from_distinct_below (map size_of lists) 129 are.apart (words-short lists (λ number. (are.each number).short)) in
    let long = length-map lists size_of in
    omega (arith, few, long)

-- The place behind a list that was read is a number that fits.
pub next-read : (lists : List RecordList) → AreTails lists → (number : ℕ) {shown : List RecordList} → shown ≡ lists → (found : RecordList) → nat_lt number (length shown) ≡ true →
    found ≡ get_or shown number found
    → (place : ℕ) → place ≡ found.next → (place ≡ (list_at lists number).next) × (place * 256 + number < 2 ^ 64)
next-read lists are number same found inside read place next =
    let within : number < length lists = subst (λ (shown : List RecordList). number < length shown) same (ltb-true number _ inside) in
    let is = next ∙ ap (λ (list : RecordList). list.next) (get_or_read lists number found within (subst (λ (shown : List RecordList). found ≡ get_or shown number found) same read)
    (empty_list 0)) in
    (is, (let most = (are.each number).next.within in let long = (are.each number).long in let few = are-few lists are in omega (arith, is, most, long, few, within)))

-- ---- the list for texts of so many words

abbrev pub first_for : ℕ → List RecordList → ℕ
first_for words lists = position_or_len (λ other. words == other) (map size_of lists)

pub first-within : (lists : List RecordList) (words : ℕ) → first_for words lists ≤ length lists
first-within lists words = (let within = prefix_len-le-length (λ other. not (words == other)) (map size_of lists) in let long = length-map lists size_of in omega (arith, within, long))

differ : (one other : ℕ) → one ≢ other → eqb one other ≡ false
differ one other apart = ⊎_elim (λ same. absurd (apart same.1)) (λ off. off.0) (eqb_tells one other)

pub first-is : (lists : List RecordList) (words number : ℕ) → number ≤ length lists → ((before : ℕ) → before < number → (list_at lists before).size ≢ words) →
    (number < length lists → (list_at lists number).size ≡ words) → first_for words lists ≡ number
first-is lists words number within before here =
    let sizes = map size_of lists in
    let long = length-map lists size_of in
    position_or_len_is (λ other. words == other) sizes number 0 (omega (arith, within, long))
    (λ earlier less. ap (λ n. words == n) (get_or-map size_of lists earlier (empty_list 0)) ∙ differ words (list_at lists earlier).size (λ same. before earlier less (sym same)))
    (λ inside. ap (λ n. words == n) (get_or-map size_of lists number (empty_list 0)) ∙ eq-eqb words (list_at lists number).size (sym (here (omega (arith, inside, long)))))

none-for : (all : List ℕ) (words : ℕ) → position_or_len (λ other. words == other) all ≡ length all → list_any (λ other. words == other) all ≡ false
none-for [] words none = refl
none-for (other ∷ rest) words none =
    elim (words == other) as (λ b. cond (not b) (1 + position_or_len (λ other. words == other) rest) 0 ≡ suc (length rest) → (b || list_any (λ other. words == other) rest) ≡ false) [
      | true ↦ λ none. absurd (omega (arith, none))
      | false ↦ λ none. none-for rest words (omega (arith, none))
    ] none

-- ---- a list that is made

pushed-last : {X : Type 0} (xs : List X) (x : X) → slice_get (xs ++ x ∷ []) (length xs) ≡ Some x
pushed-last [] x = refl
pushed-last (y ∷ ys) x = pushed-last ys x

module _ (lists : List RecordList) (words : ℕ) where
  abbrev pub longer : List RecordList
  longer = lists ++ empty_list words ∷ []

  longer-at : (number : ℕ) → ((list_at longer number ≡ empty_list words) × (list_at lists number ≡ empty_list 0)) ⊎ (list_at longer number ≡ list_at lists number)
  longer-at number = ⊎_elim
      (λ same. inl (
        get_or-append_right lists (empty_list words ∷ []) (length lists) number (empty_list 0) refl (omega (arith, same)) ∙
            get_or_head (empty_list words) [] (number - length lists) (empty_list 0) (omega (arith, same)),
        get_or_past lists number (empty_list 0) (omega (arith, same)),
      ))
      (λ apart. inr (pushed-other lists (empty_list words) (empty_list 0) number (λ e. ⊎_elim (λ less. omega (arith, less, e)) (λ more. omega (arith, more, e)) apart)))
      (cases_order number (length lists))

  -- What stands is the same.
  pub longer-same : AreSame (lists_of lists) (lists_of longer)
  longer-same = record {
    lists = λ number.
        get_or-map tails_in longer number (empty_list 0)
        ∙ ⊎_elim (λ new. ap tails_in new.0 ∙ sym (ap tails_in new.1)) (λ old. ap tails_in old) (longer-at number)
        ∙ sym (get_or-map tails_in lists number (empty_list 0));
    next = λ number.
        get_or-map next_of longer number (empty_list 0)
        ∙ ⊎_elim (λ new. ap next_of new.0 ∙ sym (ap next_of new.1)) (λ old. ap next_of old) (longer-at number)
        ∙ sym (get_or-map next_of lists number (empty_list 0));
  }

  pub longer-are : words ≤ 128 → first_for words lists ≡ length lists → AreTails lists → AreTails longer
  longer-are short none are = record {
    each = λ number. ⊎_elim
        (λ new. subst IsTailList (sym new.0) (record { short = short; whole = λ place. tt; long = omega arith; next = empty-next }))
        (λ old. subst IsTailList (sym old) (are.each number))
        (longer-at number);
    apart = subst (IsDistinct eqb) (sym (map-append size_of lists (empty_list words ∷ [])))
        (IsDistinct-push nat_eq_equiv (map size_of lists) words are.apart (none-for (map size_of lists) words (none ∙ sym (length-map lists size_of))));
  }

  -- It is the one for texts of so many words.
  pub longer-for : slice_get (lists_of longer).words (length lists) ≡ Some words
  longer-for =
      ap (λ all. slice_get all (length lists)) (map-append size_of lists (empty_list words ∷ [])) ∙ ap (slice_get (map size_of lists ++ words ∷ [])) (sym (length-map lists size_of)) ∙
      pushed-last (map size_of lists) words

-- What is one of the lists by its number of words.
pub is-one : (lists : List RecordList) (all : ShortLists) (number words : ℕ) → lists_of lists ≡ all → slice_get all.words number ≡ Some words →
    (number < length lists) × ((list_at lists number).size ≡ words)
is-one lists all number words same is =
    let sizes = map size_of lists in
    let here : slice_get sizes number ≡ Some words = ap (λ (all : ShortLists). slice_get all.words number) same ∙ is in
    let within = slice_get_within sizes number words here in
    let long = length-map lists size_of in (
      omega (arith, within, long),
      sym (get_or-map size_of lists number (empty_list 0)) ∙ get_or_from_slice_get sizes number words 0 here,
    )

-- The list found is one for texts of so many words.
pub found-for : (lists : List RecordList) (words : ℕ) → first_for words lists < length lists → slice_get (lists_of lists).words (first_for words lists) ≡ Some words
found-for lists words inside =
    let at : first_for words lists < length (map size_of lists) = (let long = length-map lists size_of in omega (arith, inside, long)) in
    slice_get-get_or (map size_of lists) (first_for words lists) 0 at ∙ ap Some (sym (eqb-true words (get_or (map size_of lists) (first_for words lists) 0)
    (passes_at_first (λ other. words == other) (map size_of lists) 0 at)))
