-- Lemmas on two lists side by side.
use Rattle.std.proofs.Common.{◌≡◌, ℕ, zero, suc, ◌+◌, ◌<◌, ◌≤◌, List, [], ◌∷◌, length, get_or, set, Option, None, Some, IsSome, is_some, cond, count_by, refl, sym, ap, ◌∙◌, inl}
use Rattle.std.proofs.Common.{inr, subst, true≢false, arith}
use Rattle.std.specs.Prelude.{if◌then◌else◌, nat_le}
use Rattle.std.proofs.lemmas.Bool.{cases_eq, cases_lt, le-leb, lt-leb}
use Rattle.std.proofs.lemmas.List.{ext_get_or, get_or_past, get_or-set_same, get_or-set_other, length-set}
use Rattle.std.proofs.lemmas.List.Sums.{sum_by-cons}
use Rattle.judy_model.specs.Keys.{word_order}
use Rattle.judy_model.specs.Arrays.{ArrayOf}
use Rattle.slab.specs.Slab as slab
use Rattle.judy_sl.specs.LevelLists.{LevelParts, parts_of, keys_in, words_in, numbered, side_by_side, AreNumbered, with_keys, with_words}

-- ---- one level

pub words-parts : (keys : ℕ) (slot : Option (ArrayOf word_order)) → words_in (parts_of keys slot) ≡ slot
words-parts keys None = refl
words-parts keys (Some words) = refl

keys-parts : (keys : ℕ) (slot : Option (ArrayOf word_order)) → IsSome slot → keys_in (parts_of keys slot) ≡ keys
keys-parts keys None some = absurd (cc)
keys-parts keys (Some words) some = refl

pub some-parts : (keys : ℕ) (slot : Option (ArrayOf word_order)) → is_some (parts_of keys slot) ≡ is_some slot
some-parts keys None = refl
some-parts keys (Some words) = refl

-- ---- levels with their numbers

pub get-numbered : (slots : List (Option (ArrayOf word_order))) (numbers : List ℕ) (index : ℕ) → get_or (numbered slots numbers) index None ≡
    parts_of (get_or numbers index 0) (get_or slots index None)
get-numbered [] numbers index = refl
get-numbered (slot ∷ slots) [] zero = refl
get-numbered (slot ∷ slots) [] (suc index) = get-numbered slots [] index
get-numbered (slot ∷ slots) (keys ∷ numbers) zero = refl
get-numbered (slot ∷ slots) (keys ∷ numbers) (suc index) = get-numbered slots numbers index

length-numbered : (slots : List (Option (ArrayOf word_order))) (numbers : List ℕ) → length (numbered slots numbers) ≡ length slots
length-numbered [] numbers = refl
length-numbered (slot ∷ slots) [] = ap (λ n. suc n) (length-numbered slots [])
length-numbered (slot ∷ slots) (keys ∷ numbers) = ap (λ n. suc n) (length-numbered slots numbers)

-- There are as many of them,
pub count-numbered : (slots : List (Option (ArrayOf word_order))) (numbers : List ℕ) → count_by is_some (numbered slots numbers) ≡ count_by is_some slots
count-numbered [] numbers = refl
count-numbered (slot ∷ slots) [] =
    sum_by-cons (λ o. cond (is_some o) 1 0) (parts_of 0 slot) (numbered slots [])
    ∙ (λ i. cond (some-parts 0 slot i) 1 0 + count-numbered slots [] i)
    ∙ sym (sum_by-cons (λ o. cond (is_some o) 1 0) slot slots)
count-numbered (slot ∷ slots) (keys ∷ numbers) =
    sum_by-cons (λ o. cond (is_some o) 1 0) (parts_of keys slot) (numbered slots numbers)
    ∙ (λ i. cond (some-parts keys slot i) 1 0 + count-numbered slots numbers i)
    ∙ sym (sum_by-cons (λ o. cond (is_some o) 1 0) slot slots)

-- and another in the place of one that is there makes them no more.
pub count-set : (slots : List (Option (ArrayOf word_order))) (index : ℕ) (other : ArrayOf word_order) → IsSome (get_or slots index None) →
    count_by is_some (set slots index (Some other)) ≡ count_by is_some slots
count-set [] index other held = absurd (cc)
count-set (slot ∷ slots) zero other held =
    sum_by-cons (λ o. cond (is_some o) 1 0) (Some other) slots
    ∙ (λ i. cond (sym held i) 1 0 + count_by is_some slots)
    ∙ sym (sum_by-cons (λ o. cond (is_some o) 1 0) slot slots)
count-set (slot ∷ slots) (suc index) other held =
    sum_by-cons (λ o. cond (is_some o) 1 0) slot (set slots index (Some other))
    ∙ (λ i. cond (is_some slot) 1 0 + count-set slots index other held i)
    ∙ sym (sum_by-cons (λ o. cond (is_some o) 1 0) slot slots)

-- With numbers that are the same place by place they are the same.
pub numbered-same : (slots : List (Option (ArrayOf word_order))) (numbers others : List ℕ) → ((index : ℕ) → get_or others index 0 ≡ get_or numbers index 0) →
    numbered slots others ≡ numbered slots numbers
numbered-same slots numbers others same =
    ext_get_or None (numbered slots others) (numbered slots numbers) (length-numbered slots others ∙ sym (length-numbered slots numbers)) (λ index within.
    get-numbered slots others index ∙ ap (λ keys. parts_of keys (get_or slots index None)) (same index) ∙ sym (get-numbered slots numbers index))

-- A level's index is one of the list's.
pub held-within : (words : slab.Slab (ArrayOf word_order)) (index : ℕ) → slab.ContainsKey words index → index < length words.slots
held-within words index held = elim (cases_lt index (length words.slots)) [
  | inl less ↦ less
  | inr past ↦ absurd (true≢false (sym held ∙ ap is_some (get_or_past words.slots index None past)))
]

-- Where each level stays, with its number, both lists stay.
pub same-both : (words after : slab.Slab (ArrayOf word_order)) (numbers others : List ℕ) → slab.SameValues words after →
    ((index : ℕ) → slab.ContainsKey after index → get_or others index 0 ≡ get_or numbers index 0) → slab.SameValues (side_by_side words numbers) (side_by_side after others)
same-both words after numbers others same keys = λ index.
    get-numbered after.slots others index
    ∙ parts-same (get_or others index 0) (get_or numbers index 0) (slab.get after index) (keys index)
    ∙ ap (λ slot. parts_of (get_or numbers index 0) slot) (same index)
    ∙ sym (get-numbered words.slots numbers index)
  where
    parts-same : (one other : ℕ) (slot : Option (ArrayOf word_order)) → (IsSome slot → one ≡ other) → parts_of one slot ≡ parts_of other slot
    parts-same one other None same = refl
    parts-same one other (Some words) same = ap (λ keys. parts_of keys (Some words)) (same refl)

-- ---- one of them changed

pub set-slot : (slots : List (Option (ArrayOf word_order))) (numbers : List ℕ) (index : ℕ) (slot : Option (ArrayOf word_order)) →
    numbered (set slots index slot) numbers ≡ set (numbered slots numbers) index (parts_of (get_or numbers index 0) slot)
set-slot [] numbers index slot = refl
set-slot (was ∷ slots) [] zero slot = refl
set-slot (was ∷ slots) [] (suc index) slot = ap (λ rest. parts_of 0 was ∷ rest) (set-slot slots [] index slot)
set-slot (was ∷ slots) (keys ∷ numbers) zero slot = refl
set-slot (was ∷ slots) (keys ∷ numbers) (suc index) slot = ap (λ rest. parts_of keys was ∷ rest) (set-slot slots numbers index slot)

pub set-number : (slots : List (Option (ArrayOf word_order))) (numbers : List ℕ) (index keys : ℕ) → index < length numbers →
    numbered slots (set numbers index keys) ≡ set (numbered slots numbers) index (parts_of keys (get_or slots index None))
set-number [] numbers index keys within = refl
set-number (slot ∷ slots) [] index keys within = absurd (omega (arith, within))
set-number (slot ∷ slots) (was ∷ numbers) zero keys within = refl
set-number (slot ∷ slots) (was ∷ numbers) (suc index) keys within = ap (λ rest. parts_of was slot ∷ rest) (set-number slots numbers index keys (omega (arith, within)))

-- ---- both lists as one

module _ (words : slab.Slab (ArrayOf word_order)) (numbers : List ℕ) (index : ℕ) where
  -- A level stands where its entries do.
  pub words-here : words_in (slab.get (side_by_side words numbers) index) ≡ slab.get words index
  words-here = ap words_in (get-numbered words.slots numbers index) ∙ words-parts (get_or numbers index 0) (slab.get words index)

  pub held-here : (levels : slab.Slab LevelParts) → side_by_side words numbers ≡ levels → slab.ContainsKey levels index → slab.ContainsKey words index
  held-here levels is held =
      sym (some-parts (get_or numbers index 0) (slab.get words index))
      ∙ ap is_some (sym (get-numbered words.slots numbers index) ∙ ap (λ (list : slab.Slab LevelParts). slab.get list index) is)
      ∙ held

  pub free-here : slab.get words index ≡ None → slab.get (side_by_side words numbers) index ≡ None
  free-here free = get-numbered words.slots numbers index ∙ ap (λ slot. parts_of (get_or numbers index 0) slot) free

  -- Its number is the one there.
  pub keys-here : slab.ContainsKey words index → keys_in (slab.get (side_by_side words numbers) index) ≡ get_or numbers index 0
  keys-here held = ap keys_in (get-numbered words.slots numbers index) ∙ keys-parts (get_or numbers index 0) (slab.get words index) held

  module _ (held : slab.ContainsKey words index) where
    -- Other entries of a level, in the one list and in both.
    pub words-written : (other : ArrayOf word_order) → side_by_side (slab.with_value words index other) numbers ≡ with_words (side_by_side words numbers) index other
    words-written other =
        let slots = set-slot words.slots numbers index (Some other) ∙ ap (λ keys. set (numbered words.slots numbers) index (Some (record { keys = keys; words = other }))) (sym (keys-here held)) in
        let count = count-set words.slots index other held in
        λ i. record {
          slots = slots i;
          vacant_key = words.vacant_key;
          capacity = if nat_le words.capacity (length numbers) then words.capacity else count i;
        }

    -- Another number of it.
    pub keys-written : (keys : ℕ) → index < length numbers → side_by_side words (set numbers index keys) ≡ with_keys (side_by_side words numbers) index keys
    keys-written keys within =
        let slots = set-number words.slots numbers index keys within ∙ ap (λ slot. set (numbered words.slots numbers) index (parts_of keys slot)) (sym words-here) in
        let long = length-set numbers index keys in
        λ i. record {
          slots = slots i;
          vacant_key = words.vacant_key;
          capacity = if nat_le words.capacity (long i) then words.capacity else slab.slab_len words;
        }

-- ---- which numbers there are

-- Each level has a number still where the slot of one is written,
pub kept-slot : (words : slab.Slab (ArrayOf word_order)) (numbers : List ℕ) (index : ℕ) (other : ArrayOf word_order) → slab.ContainsKey words index →
    AreNumbered words numbers → AreNumbered (slab.with_value words index other) numbers
kept-slot words numbers index other held are = λ at some. elim (cases_eq at index) [
  | inl e ↦ subst (λ n. n < length numbers) (sym e) (are index held)
  | inr apart ↦ are at (subst IsSome (get_or-set_other words.slots index at (Some other) None apart) some)
]

-- and where there are as many numbers.
pub kept-numbers : (words : slab.Slab (ArrayOf word_order)) (numbers others : List ℕ) → length numbers ≤ length others → AreNumbered words numbers → AreNumbered words others
kept-numbers words numbers others long are = λ at some. let within = are at some in omega arith

-- What changes at one index of the first list changes there of both,
pub updated : (words after : slab.Slab (ArrayOf word_order)) (numbers : List ℕ) (index : ℕ) (slot : Option (ArrayOf word_order)) → slab.Updates words after index slot →
    slab.Updates (side_by_side words numbers) (side_by_side after numbers) index (parts_of (get_or numbers index 0) slot)
updated words after numbers index slot updates = record {
  changed = get-numbered after.slots numbers index ∙ ap (λ s. parts_of (get_or numbers index 0) s) updates.changed;
  others = λ other apart.
      get-numbered after.slots numbers other
      ∙ ap (λ s. parts_of (get_or numbers other 0) s) (updates.others other apart)
      ∙ sym (get-numbered words.slots numbers other);
}

-- and where a level comes with its number, that too.
pub put-both : (words after : slab.Slab (ArrayOf word_order)) (numbers : List ℕ) (index keys : ℕ) (slot : Option (ArrayOf word_order)) → index < length numbers →
    slab.Updates words after index slot → slab.Updates (side_by_side words numbers) (side_by_side after (set numbers index keys)) index (parts_of keys slot)
put-both words after numbers index keys slot within updates = record {
  changed =
      get-numbered after.slots (set numbers index keys) index
      ∙ ap (λ n. parts_of n (slab.get after index)) (get_or-set_same numbers index keys 0 within)
      ∙ ap (λ s. parts_of keys s) updates.changed;
  others = λ other apart.
      get-numbered after.slots (set numbers index keys) other
      ∙ ap (λ n. parts_of n (slab.get after other)) (get_or-set_other numbers index other keys 0 apart)
      ∙ ap (λ s. parts_of (get_or numbers other 0) s) (updates.others other apart)
      ∙ sym (get-numbered words.slots numbers other);
}

-- A level that comes to an index that has a number has one.
pub numbered-put : (words after : slab.Slab (ArrayOf word_order)) (numbers : List ℕ) (index keys : ℕ) (slot : Option (ArrayOf word_order)) → index < length numbers →
    slab.Updates words after index slot → AreNumbered words numbers → AreNumbered after (set numbers index keys)
numbered-put words after numbers index keys slot within updates are = λ at some.
    let long = length-set numbers index keys in
    elim (cases_eq at index) [
      | inl e ↦ omega (arith, e, within, long)
      | inr apart ↦ let there = are at (subst IsSome (updates.others at apart) some) in omega (arith, there, long)
    ]

pub numbered-removed : (words after : slab.Slab (ArrayOf word_order)) (numbers : List ℕ) (index : ℕ) → slab.Updates words after index None → AreNumbered words numbers → AreNumbered after numbers
numbered-removed words after numbers index updates are = λ at some. elim (cases_eq at index) [
  | inl e ↦ absurd (true≢false (sym (subst IsSome (ap (slab.get after) e ∙ updates.changed) some)))
  | inr apart ↦ are at (subst IsSome (updates.others at apart) some)
]

-- ---- room

module _ (words : slab.Slab (ArrayOf word_order)) (numbers : List ℕ) where
  -- There is room in both where each place has a number,
  pub capacity-all : words.capacity ≤ length numbers → (side_by_side words numbers).capacity ≡ words.capacity
  capacity-all all = ap (λ b. if b then words.capacity else slab.slab_len words) (le-leb words.capacity (length numbers) all)

  pub room-all : words.capacity ≤ length numbers → (more : ℕ) → slab.HasRoomFor words more → slab.HasRoomFor (side_by_side words numbers) more
  room-all all more room =
      let count = count-numbered words.slots numbers in
      let capacity = capacity-all all in
      omega (arith, count, capacity, room)

  -- and for more only there.
  capacity-none : length numbers < words.capacity → (side_by_side words numbers).capacity ≡ slab.slab_len words
  capacity-none fewer = ap (λ b. if b then words.capacity else slab.slab_len words) (lt-leb words.capacity (length numbers) fewer)

  module _ (levels : slab.Slab LevelParts) (is : side_by_side words numbers ≡ levels) where
    -- There are as many levels in both,
    pub count-both : slab.slab_len levels ≡ slab.slab_len words
    count-both = ap (λ (list : slab.Slab LevelParts). slab.slab_len list) (sym is) ∙ count-numbered words.slots numbers

    -- and where there is room for one more, each place has a number, and the first list has room.
    pub all-numbered : slab.HasRoomFor levels 1 → words.capacity ≤ length numbers
    all-numbered room = elim (cases_lt (length numbers) words.capacity) [
      | inl fewer ↦
          let count = count-both in
          let none = ap (λ (list : slab.Slab LevelParts). list.capacity) (sym is) ∙ capacity-none fewer in
          absurd (omega (arith, count, none, room))
      | inr all ↦ all
    ]

    pub room-words : slab.HasRoomFor levels 1 → slab.HasRoomFor words 1
    room-words room =
        let count = count-both in
        let capacity = ap (λ (list : slab.Slab LevelParts). list.capacity) (sym is) ∙ capacity-all (all-numbered room) in
        omega (arith, count, capacity, room)

-- Where all but how many fit stays in the first list, and each number in the second, it does in both.
pub same-but-room : (words after : slab.Slab (ArrayOf word_order)) (numbers others : List ℕ) → after ≡ record words { capacity = after.capacity } →
    ((index : ℕ) → get_or others index 0 ≡ get_or numbers index 0) → side_by_side after others ≡ record (side_by_side words numbers) { capacity = (side_by_side after others).capacity }
same-but-room words after numbers others rest same =
    let slots = ap (λ (list : slab.Slab (ArrayOf word_order)). numbered list.slots others) rest ∙ numbered-same words.slots numbers others same in
    λ i. record {
      slots = slots i;
      vacant_key = ap (λ (list : slab.Slab (ArrayOf word_order)). list.vacant_key) rest i;
      capacity = (side_by_side after others).capacity;
    }
