use Rattle.std.proofs.Common.{◌≡◌, ◌<◌, ◌+◌, ◌*◌, ℕ, List, [], Some, None, IsSome, is_ok, Result, Ok, Err, OnErr, length, get_or, set, slice_get, ap, sym, ◌∙◌, arith, subst, inl, inr}
use Rattle.std.proofs.lemmas.Bool.{cases_lt, false≢true}
use Rattle.std.proofs.lemmas.List.{get_or_read, get_or_past}
use Rattle.judy_records.specs.Texts.{words_of, words_for}
use Rattle.judy_records.specs.Spots.{RecordList, held, empty_list, put_at, IsNext}
use Rattle.judy_records.specs.Memory as records
use Rattle.judy_tails.specs.Short.{ShortLists, tail_at, list_for, HasFree, SameTails}
use Rattle.judy_tails.specs.Inside.{AreSame, lists_of}
use Rattle.judy_tails.proofs.ListLemmas.{list_at, same-lists, same-are, put-are, put-free, put-updates, next-at, set-are, tail-same, updates-same, list-free}
use Rattle.judy_tails.proofs.LengthLemmas.{are-few, is-one}
use Rattle.judy_tails.proofs.short.ShortTails.put_in.Goals as goal

-- The list that is read.
record IsRead (lists : List RecordList) (number words : ℕ) (found : RecordList) : Type 0 where
  inside : number < length lists
  size : (list_at lists number).size ≡ words
  is : found ≡ list_at lists number

list-read : (lists : List RecordList) {reached : ShortLists} → lists_of lists ≡ reached → (number words : ℕ) → slice_get reached.words number ≡ Some words →
    (found : RecordList) → found ≡ get_or lists number found → IsRead lists number words found
list-read lists is number words told found read =
    let one = is-one lists _ number words is told in
    record { inside = one.0; size = one.1; is = get_or_read lists number found one.0 read (empty_list 0) }

-- Where nothing more happens, all places have what they had.
still-same : (before : ShortLists) (lists : List RecordList) (number : ℕ) (list : RecordList) → AreSame before (lists_of lists) → list.size ≡ (list_at lists number).size →
    list.spots ≡ (list_at lists number).spots → list.next ≡ (list_at lists number).next → SameTails before (lists_of (set lists number list))
still-same before lists number list same size spots next = λ place.
    ap (λ (all : ShortLists). tail_at all place) (same-lists lists number list size spots next)
    ∙ tail-same before (lists_of lists) same place

-- A free place beside a text is one of the list.
has-free : (before : ShortLists) (lists : List RecordList) (number bytes : ℕ) → AreSame before (lists_of lists) → number ≡ list_for before bytes → (list_at lists number).size ≡ words_for bytes →
    HasFree before bytes → records.HasFree (list_at lists number)
has-free before lists number bytes same is size has =
    let e : get_or before.lists (list_for before bytes) [] ≡ get_or (lists_of lists).lists number [] = ap (λ n. get_or before.lists n []) (sym is) ∙ sym (same.lists number) in
    list-free lists number (words_for bytes) size has.place has.other (subst (λ all. has.place < length all) e has.within) (subst (λ all. get_or all has.place None ≡ None) e has.is_free)
    (subst (λ all. IsSome (get_or all has.other None)) e has.stands) has.beside

-- Where a place is free, the next one is within the list.
next-less : (list : RecordList) → IsNext list.spots list.next → records.HasFree list → list.next < length list.spots
next-less list known has = elim (cases_lt list.next (length list.spots)) [
  | inl less ↦ less
  | inr past ↦ (let most = known.within in absurd (has.is_free (known.last (omega (arith, past, most)) has.place has.within)))
]

-- Where a place of a list is free, there is a list.
free-inside : (all : ShortLists) (bytes : ℕ) → HasFree all bytes → list_for all bytes < length all.lists
free-inside all bytes some = elim (cases_lt (list_for all bytes) (length all.lists)) [
  | inl inside ↦ inside
  | inr past ↦ absurd (let none = ap length (get_or_past all.lists (list_for all bytes) [] past) in let within = some.within in omega (arith, none, within))
]

on-err : {A E P : Type 0} (result : Result A E) → P → OnErr result P
on-err (Ok value) holds = tt
on-err (Err error) holds = holds

pub index_mut-list-requires : goal.index_mut-list-requires
index_mut-list-requires c =
    let one = is-one c.self.inside.lists.items c.reach.new.self c.args.number (words_for (length c.args.text.now)) c.self.view_is c.in_ok-reach.ensures.reached in
    omega (arith, one.0, c.self.inside.lists.ok)

pub returns-in_err-reach-clause-unasked : goal.returns-in_err-reach-clause-unasked
returns-in_err-reach-clause-unasked c = λ some.
    absurd (false≢true (sym (ap is_ok c.in_err-reach.was) ∙ c.reach.ensures.found (subst (λ n. n < length c.args.self.now.lists) (sym c.requires.number)
    (free-inside c.args.self.now (length c.args.text.now) some))))

-- ---- too many places

pub returns-then-next_place-ge-MOST-clause-refused : goal.returns-then-next_place-ge-MOST-clause-refused
returns-then-next_place-ge-MOST-clause-refused c =
    let lists = c.self.inside.lists.items in
    let number = c.args.number in
    let read = list-read lists c.self.view_is number (words_for (length c.args.text.now)) c.in_ok-reach.ensures.reached c.index_mut-list.result.now c.index_mut-list.ensures.value in
    still-same c.args.self.now lists number c.index_mut-list.result.now (subst (AreSame c.args.self.now) (sym c.self.view_is) c.reach.ensures.same)
    (ap (λ (list : RecordList). list.size) read.is) (ap (λ (list : RecordList). list.spots) read.is) (ap (λ (list : RecordList). list.next) read.is)

pub invariant_of-self : goal.invariant_of-self
invariant_of-self c =
    let lists = c.self.inside.lists.items in
    let number = c.args.number in
    let read = list-read lists c.self.view_is number (words_for (length c.args.text.now)) c.in_ok-reach.ensures.reached c.index_mut-list.result.now c.index_mut-list.ensures.value in
    let size = ap (λ (list : RecordList). list.size) read.is in
    set-are lists number read.inside c.index_mut-list.result.now c.self.invariant size
    (same-are lists number c.index_mut-list.result.now size (ap (λ (list : RecordList). list.spots) read.is) (ap (λ (list : RecordList). list.next) read.is) c.self.invariant)

pub returns-then-next_place-ge-MOST-clause-unasked : goal.returns-then-next_place-ge-MOST-clause-unasked
returns-then-next_place-ge-MOST-clause-unasked c = λ some.
    let lists = c.self.inside.lists.items in
    let number = c.args.number in
    let read = list-read lists c.self.view_is number (words_for (length c.args.text.now)) c.in_ok-reach.ensures.reached c.index_mut-list.result.now c.index_mut-list.ensures.value in
    let same = subst (AreSame c.args.self.now) (sym c.self.view_is) c.reach.ensures.same in
    let has = has-free c.args.self.now lists number (length c.args.text.now) same c.requires.number read.size some in
    let less = next-less (list_at lists number) (c.self.invariant.each number).next has in
    let long = (c.self.invariant.each number).long in
    let next = c.next_place.ensures ∙ ap (λ (list : RecordList). list.next) read.is in
    absurd (omega (arith, less, long, next, c.if-next_place-ge-MOST.true))

-- ---- a text that is refused

pub put-requires : goal.put-requires
put-requires c =
    let read = list-read c.self.inside.lists.items c.self.view_is c.args.number (words_for
    (length c.args.text.now)) c.in_ok-reach.ensures.reached c.index_mut-list.result.now c.index_mut-list.ensures.value in
    sym (ap (λ (list : RecordList). list.size) read.is ∙ read.size)

pub returns-in_err-place-clause-refused : goal.returns-in_err-place-clause-refused
returns-in_err-place-clause-refused c =
    let lists = c.self.inside.lists.items in
    let number = c.args.number in
    let read = list-read lists c.self.view_is number (words_for (length c.args.text.now)) c.in_ok-reach.ensures.reached c.index_mut-list.result.now c.index_mut-list.ensures.value in
    on-err c.from_residual-in_err-place.result (still-same c.args.self.now lists number c.put.new.self (subst (AreSame c.args.self.now) (sym c.self.view_is) c.reach.ensures.same)
    (c.put.ensures.size ∙ ap (λ (list : RecordList). list.size) read.is) (c.in_err-place.ensures.same ∙ ap (λ (list : RecordList). list.spots) read.is)
    (c.in_err-place.ensures.next ∙ ap (λ (list : RecordList). list.next) read.is))

pub invariant_of-self-in_err-place : goal.invariant_of-self-in_err-place
invariant_of-self-in_err-place c =
    let lists = c.self.inside.lists.items in
    let number = c.args.number in
    let read = list-read lists c.self.view_is number (words_for (length c.args.text.now)) c.in_ok-reach.ensures.reached c.index_mut-list.result.now c.index_mut-list.ensures.value in
    let size = c.put.ensures.size ∙ ap (λ (list : RecordList). list.size) read.is in
    set-are lists number read.inside c.put.new.self c.self.invariant size
    (same-are lists number c.put.new.self size (c.in_err-place.ensures.same ∙ ap (λ (list : RecordList). list.spots) read.is) (c.in_err-place.ensures.next
    ∙ ap (λ (list : RecordList). list.next) read.is)
    c.self.invariant)

pub returns-in_err-place-clause-unasked : goal.returns-in_err-place-clause-unasked
returns-in_err-place-clause-unasked c = λ some.
    let lists = c.self.inside.lists.items in
    let number = c.args.number in
    let read = list-read lists c.self.view_is number (words_for (length c.args.text.now)) c.in_ok-reach.ensures.reached c.index_mut-list.result.now c.index_mut-list.ensures.value in
    let same = subst (AreSame c.args.self.now) (sym c.self.view_is) c.reach.ensures.same in
    let has = has-free c.args.self.now lists number (length c.args.text.now) same c.requires.number read.size some in
    absurd (false≢true (sym (ap is_ok c.in_err-place.was) ∙ c.put.ensures.unasked (subst records.HasFree (sym read.is) has)))

-- ---- a text that is put in

pub overflow_mul-result : goal.overflow_mul-result
overflow_mul-result c =
    let next = c.in_ok-place.ensures.place in
    omega (arith, next, c.next_place.ensures, c.if-next_place-ge-MOST.false)

pub overflow_add-result : goal.overflow_add-result
overflow_add-result c =
    let one = is-one c.self.inside.lists.items c.reach.new.self c.args.number (words_for (length c.args.text.now)) c.self.view_is c.in_ok-reach.ensures.reached in
    let few = are-few c.self.inside.lists.items c.self.invariant in
    let next = c.in_ok-place.ensures.place in
    omega (arith, one.0, few, next, c.next_place.ensures, c.if-next_place-ge-MOST.false)

pub invariant_of-self-2 : goal.invariant_of-self-2
invariant_of-self-2 c =
    let lists = c.self.inside.lists.items in
    let number = c.args.number in
    let read = list-read lists c.self.view_is number (words_for (length c.args.text.now)) c.in_ok-reach.ensures.reached c.index_mut-list.result.now c.index_mut-list.ensures.value in
    let next = c.next_place.ensures ∙ ap (λ (list : RecordList). list.next) read.is in
    put-are lists number c.self.invariant read.inside c.put.new.self c.args.value c.args.text.now c.requires.text (c.put.ensures.size ∙ ap (λ (list : RecordList). list.size) read.is)
    (c.in_ok-place.ensures.put ∙ ap (λ (list : RecordList). put_at list.spots list.next (held c.args.value (words_of c.args.text.now))) read.is) c.law.ensures.next
    (omega (arith, next, c.if-next_place-ge-MOST.false))

pub returns-clause-place : goal.returns-clause-place
returns-clause-place c =
    let lists = c.self.inside.lists.items in
    let number = c.args.number in
    let read = list-read lists c.self.view_is number (words_for (length c.args.text.now)) c.in_ok-reach.ensures.reached c.index_mut-list.result.now c.index_mut-list.ensures.value in
    let next = c.in_ok-place.ensures.place ∙ ap (λ (list : RecordList). list.next) read.is ∙ sym (next-at lists number) ∙
    ap (λ (all : ShortLists). get_or all.next number 0) c.self.view_is ∙ c.reach.ensures.same.next number in
    (λ i. next i * 256 + number) ∙ ap (λ n. get_or c.args.self.now.next n 0 * 256 + n) c.requires.number

pub returns-clause-kind : goal.returns-clause-kind
returns-clause-kind c =
    let lists = c.self.inside.lists.items in
    let number = c.args.number in
    let one = is-one lists c.reach.new.self number (words_for (length c.args.text.now)) c.self.view_is c.in_ok-reach.ensures.reached in
    let few = are-few lists c.self.invariant in
    omega (arith, one.0, few)

pub returns-clause-free : goal.returns-clause-free
returns-clause-free c =
    let lists = c.self.inside.lists.items in
    let number = c.args.number in
    let read = list-read lists c.self.view_is number (words_for (length c.args.text.now)) c.in_ok-reach.ensures.reached c.index_mut-list.result.now c.index_mut-list.ensures.value in
    let next = c.in_ok-place.ensures.place ∙ ap (λ (list : RecordList). list.next) read.is in
    let place = c.in_ok-place.place * 256 + number in
    let few = are-few lists c.self.invariant in
    let inside = read.inside in
    sym (tail-same c.args.self.now (lists_of lists) (subst (AreSame c.args.self.now) (sym c.self.view_is) c.reach.ensures.same) place)
    ∙ put-free lists number c.self.invariant read.inside c.put.new.self c.args.value c.args.text.now c.requires.text (c.put.ensures.size ∙ ap (λ (list : RecordList). list.size) read.is)
    (c.in_ok-place.ensures.put ∙ ap (λ (list : RecordList). put_at list.spots list.next (held c.args.value (words_of c.args.text.now))) read.is) c.law.ensures.next place
    (omega (arith, inside, few)) (omega (arith, inside, few, next))

pub returns-clause-put : goal.returns-clause-put
returns-clause-put c =
    let lists = c.self.inside.lists.items in
    let number = c.args.number in
    let read = list-read lists c.self.view_is number (words_for (length c.args.text.now)) c.in_ok-reach.ensures.reached c.index_mut-list.result.now c.index_mut-list.ensures.value in
    let next = c.in_ok-place.ensures.place ∙ ap (λ (list : RecordList). list.next) read.is in
    let place = c.in_ok-place.place * 256 + number in
    let few = are-few lists c.self.invariant in
    let inside = read.inside in
    updates-same c.args.self.now (lists_of lists) (subst (AreSame c.args.self.now) (sym c.self.view_is) c.reach.ensures.same) (lists_of (set lists number c.put.new.self)) place
    (Some (c.args.text.now, c.args.value))
    (put-updates lists number c.self.invariant read.inside c.put.new.self c.args.value c.args.text.now c.requires.text (c.put.ensures.size ∙ ap (λ (list : RecordList). list.size) read.is)
    (c.in_ok-place.ensures.put ∙ ap (λ (list : RecordList). put_at list.spots list.next (held c.args.value (words_of c.args.text.now))) read.is) c.law.ensures.next place
    (omega (arith, inside, few)) (omega (arith, inside, few, next)))
