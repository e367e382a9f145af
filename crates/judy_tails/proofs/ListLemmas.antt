-- Lists of tails, and what stands at a place of them.
use Rattle.std.proofs.Common.{◌≡◌, ◌≢◌, ◌<◌, ◌%◌, ◌/◌, ◌^◌, ◌≤◌, ℕ, zero, suc, List, [], ◌∷◌, ◌++◌, length, map, get_or, set, Option, None, Some, IsSome}
use Rattle.std.proofs.Common.{⊎_elim, eqb, sym, refl, ap, ◌∙◌, subst, arith}
use Rattle.std.proofs.Math.ListN.{get_or-map}
use Rattle.std.proofs.Math.Seq.{map-set_same}
use Rattle.std.specs.List.{IsDistinct}
use Rattle.std.proofs.lemmas.Bool.{cases_lt, cases_order}
use Rattle.std.proofs.lemmas.List.{length-set, length-map, get_or-set_same, get_or-set_other, get_or_past, get_or_read, map-set}
use Rattle.judy_model.specs.Keys.{IsWord}
use Rattle.judy_records.specs.Texts.{words_of, text_in, IsText}
use Rattle.judy_records.specs.Spots.{Spot, free, held, RecordList, IsHeld, IsNext, value_of, text_of, empty_list, spot_at, with_value, put_at}
use Rattle.judy_records.specs.Memory.{IsRemoved}
use Rattle.judy_records.specs.Memory as records
use Rattle.judy_records.specs.Pages.{per_of, page_of}
use Rattle.judy_records.proofs.PadLemmas.{text-back}
use Rattle.judy_records.proofs.FreeLemmas.{held-inside}
use Rattle.judy_records.proofs.SpotsTo.{put-here, put-other, put-long, put-longer}
use Rattle.judy_records.proofs.ListHolds.{next-set}
use Rattle.judy_tails.specs.Short.{ShortLists, tail_at, Updates}
use Rattle.judy_tails.specs.Places as places
use Rattle.judy_tails.specs.Short as tails
use Rattle.judy_tails.proofs.TailLemmas.{whole-is}
use Rattle.judy_tails.specs.Inside.{tail_of, tails_in, size_of, next_of, lists_of, IsPadded, IsPaddedOrFree, IsTailList, AreTails, AreSame}

-- ---- one place

held-tail : (spot : Spot) → IsSome (tail_of spot) → IsHeld spot
held-tail (free next) some = absurd (cc)
held-tail (held value words) some = tt

pub tail-held : (spot : Spot) → IsHeld spot → tail_of spot ≡ Some (text_in (text_of spot), value_of spot)
tail-held (free next) is = absurd is
tail-held (held value words) is = refl

pub whole-held : (spot : Spot) → IsHeld spot → IsPaddedOrFree spot → IsPadded spot
whole-held (free next) is whole = is
whole-held (held value words) is whole = whole

-- ---- the lists

-- The list of a number.
abbrev pub list_at : List RecordList → ℕ → RecordList
list_at lists number = get_or lists number (empty_list 0)

-- What stands at a place.
pub tail-at : (lists : List RecordList) (place : ℕ) → tail_at (lists_of lists) place ≡ tail_of (spot_at (list_at lists (place % 256)) (place / 256))
tail-at lists place =
    let number = place % 256 in
    ap (λ all. get_or all (place / 256) None) (get_or-map tails_in lists number (empty_list 0))
    ∙ get_or-map tail_of (list_at lists number).spots (place / 256) (free 0)

-- Where a tail stands there is a list, and a record in it.
module _ (lists : List RecordList) (place : ℕ) (some : IsSome (tail_at (lists_of lists) place)) where
  pub is-held : IsHeld (spot_at (list_at lists (place % 256)) (place / 256))
  is-held = held-tail (spot_at (list_at lists (place % 256)) (place / 256)) (subst IsSome (tail-at lists place) some)

  pub is-inside : place % 256 < length lists
  is-inside = ⊎_elim
      (λ inside. inside)
      (λ past. absurd (subst (λ (list : RecordList). IsHeld (spot_at list (place / 256))) (get_or_past lists (place % 256) (empty_list 0) past) is-held))
      (cases_lt (place % 256) (length lists))

  pub is-whole : AreTails lists → IsPadded (spot_at (list_at lists (place % 256)) (place / 256))
  is-whole are = whole-held (spot_at (list_at lists (place % 256)) (place / 256)) is-held ((are.each (place % 256)).whole (place / 256))

  pub is-tail : tail_at (lists_of lists) place ≡ Some (text_in (text_of (spot_at (list_at lists (place % 256)) (place / 256))), value_of (spot_at (list_at lists (place % 256)) (place / 256)))
  is-tail = tail-at lists place ∙ tail-held (spot_at (list_at lists (place % 256)) (place / 256)) is-held

  -- It is a text with the value of that record.
  pub is-valued : tail_at (lists_of lists) place ≡ Some (places.text_of (tail_at (lists_of lists) place), value_of (spot_at (list_at lists (place % 256)) (place / 256)))
  is-valued = is-tail ∙ ap (λ text. Some (text, value_of (spot_at (list_at lists (place % 256)) (place / 256)))) (sym (ap places.text_of is-tail))

  -- The list is read there.
  pub is-read : (list : RecordList) → list ≡ get_or lists (place % 256) list → list ≡ list_at lists (place % 256)
  is-read list read = get_or_read lists (place % 256) list is-inside read (empty_list 0)

-- ---- another list in the place of one

module _ (lists : List RecordList) (number : ℕ) (inside : number < length lists) (list : RecordList) where
  at-same : get_or (set lists number list) number (empty_list 0) ≡ list
  at-same = get_or-set_same lists number list (empty_list 0) inside

  at-other : (other : ℕ) → other ≢ number → list_at (set lists number list) other ≡ list_at lists other
  at-other other apart = get_or-set_other lists number other list (empty_list 0) apart

  -- Its texts are as long.
  pub set-are : AreTails lists → list.size ≡ (list_at lists number).size → IsTailList list → AreTails (set lists number list)
  set-are are size is = record {
    each = λ other. ⊎_elim
        (λ same. subst IsTailList (sym (ap (list_at (set lists number list)) same ∙ at-same)) is)
        (λ apart. subst IsTailList (sym (at-other other (λ same. ⊎_elim (λ less. omega (arith, less, same)) (λ more. omega (arith, more, same)) apart))) (are.each other))
        (cases_order other number);
    apart = subst (IsDistinct eqb) (sym (map-set_same size_of lists number list (empty_list 0) size)) are.apart;
  }

-- The place has another tail then, and all others what they had.
module _ (lists : List RecordList) (place : ℕ) (inside : place % 256 < length lists) (list : RecordList) (tail : Option (List ℕ × ℕ)) (here : tail_of (spot_at list (place / 256)) ≡ tail)
    (elsewhere : (other : ℕ) → other ≢ place / 256 → tail_of (spot_at list other) ≡ tail_of (spot_at (list_at lists (place % 256)) other)) where
  pub set-updates : Updates (lists_of lists) (lists_of (set lists (place % 256) list)) place tail
  set-updates = record {
    here = tail-at (set lists (place % 256) list) place
        ∙ ap (λ (list : RecordList). tail_of (spot_at list (place / 256))) (at-same lists (place % 256) inside list)
        ∙ here;
    elsewhere = λ other apart.
        tail-at (set lists (place % 256) list) other
        ∙ ⊎_elim
        (λ (same : other % 256 ≡ place % 256).
        let away : other / 256 ≢ place / 256 = λ e. apart (omega (arith, e, same)) in
        ap (λ n. tail_of (spot_at (list_at (set lists (place % 256) list) n) (other / 256))) same
        ∙ ap (λ (list : RecordList). tail_of (spot_at list (other / 256))) (at-same lists (place % 256) inside list)
        ∙ elsewhere (other / 256) away
        ∙ ap (λ n. tail_of (spot_at (list_at lists n) (other / 256))) (sym same))
        (λ differ. ap (λ (list : RecordList). tail_of (spot_at list (other / 256))) (at-other lists (place % 256) inside list (other % 256)
        (λ e. ⊎_elim (λ less. omega (arith, less, e)) (λ more. omega (arith, more, e)) differ)))
        (cases_order (other % 256) (place % 256))
        ∙ sym (tail-at lists other);
  }

-- ---- another value

module _ (list : RecordList) (index : ℕ) (is : IsHeld (spot_at list index)) (value : ℕ) where
  pub value-are : IsTailList list → IsTailList (with_value list index value)
  value-are are = record {
    short = are.short;
    whole = λ other. ⊎_elim
        (λ same. subst (λ n. IsPaddedOrFree (spot_at (with_value list index value) n)) (sym same)
        (subst IsPaddedOrFree (sym (get_or-set_same list.spots index (held value (text_of (spot_at list index))) (free 0) (held-inside list.spots index is)))
        (whole-is (spot_at list index) (whole-held (spot_at list index) is (are.whole index)))))
        (λ apart. subst IsPaddedOrFree (sym (get_or-set_other list.spots index other (held value (text_of (spot_at list index))) (free 0)
        (λ e. ⊎_elim (λ less. omega (arith, less, e)) (λ more. omega (arith, more, e)) apart))) (are.whole other))
        (cases_order other index);
    long = (let same = length-set list.spots index (held value (text_of (spot_at list index))) in let long = are.long in omega (arith, same, long));
    next = next-set list.spots list.next index (held value (text_of (spot_at list index))) is tt are.next;
  }

module _ (lists : List RecordList) (place : ℕ) (some : IsSome (tail_at (lists_of lists) place)) (value : ℕ) where
  abbrev pub valued : List RecordList
  valued = set lists (place % 256) (with_value (list_at lists (place % 256)) (place / 256) value)

  tails-valued : (lists_of valued).lists ≡ (tails.with_value (lists_of lists) place value).lists
  tails-valued =
      let list = list_at lists (place % 256) in
      let spot = spot_at list (place / 256) in
      map-set tails_in lists (place % 256) (with_value list (place / 256) value)
      ∙ ap (set (map tails_in lists) (place % 256))
      (map-set tail_of list.spots (place / 256) (held value (text_of spot))
      ∙ (λ i. set (sym (get_or-map tails_in lists (place % 256) (empty_list 0)) i) (place / 256) (Some (ap places.text_of (sym (is-tail lists place some)) i, value))))

  pub value-lists : lists_of valued ≡ tails.with_value (lists_of lists) place value
  value-lists = λ i. record {
    words = map-set_same size_of lists (place % 256) (with_value (list_at lists (place % 256)) (place / 256) value) (empty_list 0) refl i;
    lists = tails-valued i;
    next = map-set_same next_of lists (place % 256) (with_value (list_at lists (place % 256)) (place / 256) value) (empty_list 0) refl i;
  }

  pub value-all : AreTails lists → AreTails valued
  value-all are = set-are lists (place % 256) (is-inside lists place some) (with_value (list_at lists (place % 256)) (place / 256) value) are refl
      (value-are (list_at lists (place % 256)) (place / 256) (is-held lists place some) value (are.each (place % 256)))

-- ---- a record that goes

pub not-held : (spot : Spot) → (IsHeld spot → ⊥) → tail_of spot ≡ None
not-held (free next) not = refl
not-held (held value words) not = absurd (not tt)

padded-free : (spot : Spot) → (IsHeld spot → ⊥) → IsPaddedOrFree spot
padded-free (free next) not = tt
padded-free (held value words) not = absurd (not tt)

module _ (lists : List RecordList) (place : ℕ) (some : IsSome (tail_at (lists_of lists) place)) (after : RecordList) (gone : IsRemoved (list_at lists (place % 256)) after (place / 256))
    (known : IsNext after.spots after.next) where
  removed-are : IsTailList (list_at lists (place % 256)) → IsTailList after
  removed-are are = record {
    short = subst (λ n. n ≤ 128) (sym gone.size) are.short;
    whole = λ other. ⊎_elim
        (λ same. subst (λ n. IsPaddedOrFree (spot_at after n)) (sym same) (padded-free (spot_at after (place / 256)) gone.here))
        (λ apart. subst IsPaddedOrFree (sym (gone.elsewhere other (λ e. ⊎_elim (λ less. omega (arith, less, e)) (λ more. omega (arith, more, e)) apart))) (are.whole other))
        (cases_order other (place / 256));
    long = (let long = are.long in let most = gone.long in omega (arith, long, most));
    next = known;
  }

  pub without-are : AreTails lists → AreTails (set lists (place % 256) after)
  without-are are = set-are lists (place % 256) (is-inside lists place some) after are gone.size (removed-are (are.each (place % 256)))

  pub without-updates : Updates (lists_of lists) (lists_of (set lists (place % 256) after)) place None
  without-updates =
      set-updates lists place (is-inside lists place some) after None (not-held (spot_at after (place / 256)) gone.here)
      (λ other apart. ap tail_of (gone.elsewhere other apart))

-- ---- the same of the list that was read, by lists as callers see them

module _ (lists : List RecordList) {seen : ShortLists} (view_is : lists_of lists ≡ seen) (place : ℕ) (some : IsSome (tail_at seen place)) where
  seen-some : IsSome (tail_at (lists_of lists) place)
  seen-some = subst (λ (all : ShortLists). IsSome (tail_at all place)) (sym view_is) some

  pub seen-inside : place % 256 < length lists
  seen-inside = is-inside lists place seen-some

  module _ (list : RecordList) (read : list ≡ get_or lists (place % 256) list) where
    list-is : list ≡ list_at lists (place % 256)
    list-is = is-read lists place seen-some list read

    pub list-held : IsHeld (spot_at list (place / 256))
    list-held = subst (λ (list : RecordList). IsHeld (spot_at list (place / 256))) (sym list-is) (is-held lists place seen-some)

    pub list-whole : AreTails lists → IsPadded (spot_at list (place / 256))
    list-whole are = subst (λ (list : RecordList). IsPadded (spot_at list (place / 256))) (sym list-is) (is-whole lists place seen-some are)

    pub list-tail : tail_at seen place ≡ Some (text_in (text_of (spot_at list (place / 256))), value_of (spot_at list (place / 256)))
    list-tail =
        ap (λ (all : ShortLists). tail_at all place) (sym view_is)
        ∙ is-tail lists place seen-some
        ∙ ap (λ (list : RecordList). Some (text_in (text_of (spot_at list (place / 256))), value_of (spot_at list (place / 256)))) (sym list-is)

    -- Its value is lent.
    pub lent-are : AreTails lists → (value : ℕ) → AreTails (set lists (place % 256) (with_value list (place / 256) value))
    lent-are are value = subst (λ (list : RecordList). AreTails (set lists (place % 256) (with_value list (place / 256) value))) (sym list-is) (value-all lists place seen-some value are)

    pub lent-lists : (value : ℕ) → lists_of (set lists (place % 256) (with_value list (place / 256) value)) ≡ tails.with_value seen place value
    lent-lists value =
        ap (λ (list : RecordList). lists_of (set lists (place % 256) (with_value list (place / 256) value))) list-is
        ∙ value-lists lists place seen-some value
        ∙ ap (λ (all : ShortLists). tails.with_value all place value) view_is

    pub lent-value : {value : ℕ} → value ≡ value_of (spot_at list (place / 256)) → tail_at seen place ≡ Some (places.text_of (tail_at seen place), value)
    lent-value {value} is =
        subst (λ (all : ShortLists). tail_at all place ≡ Some (places.text_of (tail_at all place), value)) view_is
        (is-valued lists place seen-some ∙ ap (λ value. Some (places.text_of (tail_at (lists_of lists) place), value))
        (sym (is ∙ ap (λ (list : RecordList). value_of (spot_at list (place / 256))) list-is)))

    -- The record goes.
    module _ (after : RecordList) (goes : IsRemoved list after (place / 256)) (known : IsNext after.spots after.next) where
      gone-is : IsRemoved (list_at lists (place % 256)) after (place / 256)
      gone-is = subst (λ (list : RecordList). IsRemoved list after (place / 256)) list-is goes

      pub gone-are : AreTails lists → AreTails (set lists (place % 256) after)
      gone-are are = without-are lists place seen-some after gone-is known are

      pub gone-updates : Updates seen (lists_of (set lists (place % 256) after)) place None
      gone-updates =
          subst (λ (all : ShortLists). Updates all (lists_of (set lists (place % 256) after)) place None) view_is
          (without-updates lists place seen-some after gone-is known)

-- ---- a record that comes

-- One more at the end of a list leaves what stands before it.
pub pushed-other : {X : Type 0} (xs : List X) (x default : X) (at : ℕ) → at ≢ length xs → get_or (xs ++ x ∷ []) at default ≡ get_or xs at default
pushed-other [] x default zero apart = absurd (apart refl)
pushed-other [] x default (suc at) apart = refl
pushed-other (y ∷ ys) x default zero apart = refl
pushed-other (y ∷ ys) x default (suc at) apart = pushed-other ys x default at (λ e. apart (ap suc e))

-- The next place of a list, where there is one of this number and where there is none.
pub next-at : (lists : List RecordList) (number : ℕ) → get_or (lists_of lists).next number 0 ≡ (list_at lists number).next
next-at lists number = get_or-map next_of lists number (empty_list 0)

pub next-past : (lists : List RecordList) (number : ℕ) → length lists ≤ number → get_or (lists_of lists).next number 0 ≡ 0
next-past lists number past = next-at lists number ∙ ap (λ (list : RecordList). list.next) (get_or_past lists number (empty_list 0) past)

-- A list in which all stands as it stood.
module _ (lists : List RecordList) (number : ℕ) (after : RecordList) (size : after.size ≡ (list_at lists number).size) (spots : after.spots ≡ (list_at lists number).spots)
    (next : after.next ≡ (list_at lists number).next) where
  pub same-lists : lists_of (set lists number after) ≡ lists_of lists
  same-lists = λ i. record {
    words = map-set_same size_of lists number after (empty_list 0) size i;
    lists = map-set_same tails_in lists number after (empty_list 0) (ap (map tail_of) spots) i;
    next = map-set_same next_of lists number after (empty_list 0) next i;
  }

  pub same-are : AreTails lists → IsTailList after
  same-are are = record {
    short = subst (λ n. n ≤ 128) (sym size) (are.each number).short;
    whole = λ place. subst (λ spots. IsPaddedOrFree (get_or spots place (free 0))) (sym spots) ((are.each number).whole place);
    long = subst (λ spots. length spots ≤ 2 ^ 55) (sym spots) (are.each number).long;
    next = subst (λ n. IsNext after.spots n) (sym next) (subst (λ spots. IsNext spots (list_at lists number).next) (sym spots) (are.each number).next);
  }

-- A text is put in there.
module _ (lists : List RecordList) (number : ℕ) (are : AreTails lists) (inside : number < length lists) (after : RecordList) (value : ℕ) (text : List ℕ) (is : IsText text)
    (size : after.size ≡ (list_at lists number).size)
    (put : after.spots ≡ put_at (list_at lists number).spots (list_at lists number).next (held value (words_of text))) (known : IsNext after.spots after.next) where
  abbrev list : RecordList
  list = list_at lists number

  within : list.next ≤ length list.spots
  within = (are.each number).next.within

  here : spot_at after list.next ≡ held value (words_of text)
  here = ap (λ spots. get_or spots list.next (free 0)) put ∙ put-here list.spots list.next (held value (words_of text)) within

  elsewhere : (other : ℕ) → other ≢ list.next → spot_at after other ≡ spot_at list other
  elsewhere other apart = ap (λ spots. get_or spots other (free 0)) put ∙ put-other list.spots list.next (held value (words_of text)) within other apart

  pub put-are : list.next < 2 ^ 55 → AreTails (set lists number after)
  put-are short = set-are lists number inside after are size (record {
    short = subst (λ n. n ≤ 128) (sym size) (are.each number).short;
    whole = λ other. ⊎_elim
        (λ same. subst IsPaddedOrFree (sym (ap (spot_at after) same ∙ here)) (ap words_of (sym (text-back text is))))
        (λ apart. subst IsPaddedOrFree (sym (elsewhere other (λ e. ⊎_elim (λ less. omega (arith, less, e)) (λ more. omega (arith, more, e)) apart))) ((are.each number).whole other))
        (cases_order other list.next);
    long = (let long = (are.each number).long in let most = within in let grown = ap length put in ⊎_elim
        (λ before. let same = put-long list.spots list.next (held value (words_of text)) before in omega (arith, same, long, grown))
        (λ end. let more = put-longer list.spots list.next (held value (words_of text)) (omega (arith, end, most)) in omega (arith, end, most, grown, more, short))
        (cases_lt list.next (length list.spots)));
    next = known;
  })

  module _ (place : ℕ) (low : place % 256 ≡ number) (high : place / 256 ≡ list.next) where
    pub put-free : tail_at (lists_of lists) place ≡ None
    put-free = tail-at lists place ∙ (λ i. tail_of (spot_at (list_at lists (low i)) (high i))) ∙ not-held (spot_at list list.next) (are.each number).next.is_free

    pub put-updates : Updates (lists_of lists) (lists_of (set lists number after)) place (Some (text, value))
    put-updates =
        subst (λ n. Updates (lists_of lists) (lists_of (set lists n after)) place (Some (text, value))) low
        (set-updates lists place (subst (λ n. n < length lists) (sym low) inside) after (Some (text, value))
        (ap (λ n. tail_of (spot_at after n)) high ∙ ap tail_of here ∙ ap (λ text. Some (text, value)) (text-back text is))
        (λ other apart. ap tail_of (elsewhere other (λ e. apart (e ∙ sym high))) ∙ ap (λ n. tail_of (spot_at (list_at lists n) other)) (sym low)))

-- ---- a free place

tail-free : (spot : Spot) → tail_of spot ≡ None → IsHeld spot → ⊥
tail-free (free next) none is = is
tail-free (held value words) none is = absurd (cc)

-- Where a place is free beside a text, it is so in the list.
pub list-free : (lists : List RecordList) (number words : ℕ) → (list_at lists number).size ≡ words → (place other : ℕ) → place < length (get_or (lists_of lists).lists number []) →
    get_or (get_or (lists_of lists).lists number []) place None ≡ None → IsSome (get_or (get_or (lists_of lists).lists number []) other None) →
    page_of (per_of words) other ≡ page_of (per_of words) place → records.HasFree (list_at lists number)
list-free lists number words size place other within none stands beside =
    let all = get_or-map tails_in lists number (empty_list 0) in
    let list = list_at lists number in
    let at = λ (n : ℕ). ap (λ all. get_or all n None) all ∙ get_or-map tail_of list.spots n (free 0) in
    let long = ap length all ∙ length-map list.spots tail_of in
    record {
      place = place;
      within = omega (arith, within, long);
      is_free = tail-free (spot_at list place) (sym (at place) ∙ none);
      used = record {
        place = other;
        held = held-tail (spot_at list other) (subst IsSome (at other) stands);
        here = (λ i. page_of (per_of (size i)) other) ∙ beside
            ∙ (λ i. page_of (per_of (sym size i)) place);
      };
    }

-- What holds of the same lists.
module _ (before middle : ShortLists) (same : AreSame before middle) where
  pub tail-same : (place : ℕ) → tail_at middle place ≡ tail_at before place
  tail-same place = ap (λ all. get_or all (place / 256) None) (same.lists (place % 256))

  pub updates-same : (after : ShortLists) (place : ℕ) (tail : Option (List ℕ × ℕ)) → Updates middle after place tail → Updates before after place tail
  updates-same after place tail is = record {
    here = is.here;
    elsewhere = λ other apart. is.elsewhere other apart ∙ tail-same other;
  }

-- ---- values

pub values-are : (lists : List RecordList) (place : ℕ) (tail : List ℕ × ℕ) → tail_at (lists_of lists) place ≡ Some tail →
    ((index : ℕ) → IsHeld (spot_at (list_at lists (place % 256)) index) → IsWord (value_of (spot_at (list_at lists (place % 256)) index))) → IsWord tail.1
values-are lists place tail is words =
    let some : IsSome (tail_at (lists_of lists) place) = subst IsSome (sym is) refl in
    let same : tail ≡ (text_in (text_of (spot_at (list_at lists (place % 256)) (place / 256))), value_of (spot_at (list_at lists (place % 256)) (place / 256))) =
    (let both = sym is ∙ is-tail lists place some in cc) in
    subst IsWord (sym (ap (λ (tail : List ℕ × ℕ). tail.1) same)) (words (place / 256) (is-held lists place some))
