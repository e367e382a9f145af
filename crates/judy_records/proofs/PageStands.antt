-- A page and its words, as they stand.
use Rattle.std.proofs.Common.{◌≡◌, ◌≢◌, ℕ, zero, suc, ◌+◌, ◌-◌, ◌*◌, ◌^◌, ◌<◌, ◌≤◌, List, [], ◌∷◌, ◌++◌, length, get_or, set, take, drop, map, cond, inl, inr, refl, sym, ap, subst, ◌∙◌}
use Rattle.std.proofs.Common.{arith, add-one, le-ltb, lt-ltb}
use Rattle.std.specs.Global.{Global}
use Rattle.std.specs.declared.vec.Vec.{Vec}
use Rattle.std.specs.Vec.{with_item}
use Rattle.std.proofs.Math.ListN as list
use Rattle.std.proofs.lemmas.List.{get_or-drop, get_or_read, get_or_past, drop-drop, map-set, map_push, length-set, length-map, length-append, length-take-le, length-drop, take_all}
use Rattle.judy_records.specs.declared.page.Page.TheInside.{Inside}
use Rattle.judy_records.specs.Texts.{words_for, words_in, words_of}
use Rattle.judy_records.specs.Spots.{Spot, free, held, IsHeld, IsNext, value_of, text_of, unlinked, put_at}
use Rattle.judy_records.specs.PageSpots.{PageList, spot_in, with_value_in, with_spot_in, HasRoom}
use Rattle.judy_records.specs.PageInside.{first_spot, spots_in, freed, AreChained, next_from, page_list, IsPage}
use Rattle.judy_records.proofs.SpotLemmas.{length-spots, place-within, get-spots, spots-value, spots-push, spots-place, before, behind}
use Rattle.judy_records.proofs.TextLemmas.{length-words}
use Rattle.judy_records.proofs.FreeLemmas.{length-freed, held-inside, freed-held, freed-set, chained-set, freed-more, chained-more, none-freed, some-freed, some-inside, next_of}
use Rattle.judy_records.proofs.FreeLemmas.{stands, stands-freed, stands-all, none-stand, some-stand, all-stand, first-free}

-- ---- places without their links

pub unlinked-at : (spots : List Spot) (at : ℕ) → get_or (map unlinked spots) at (free 0) ≡ unlinked (get_or spots at (free 0))
unlinked-at spots at = list.get_or-map unlinked spots at (free 0)

unlinked-was : (spot : Spot) → IsHeld (unlinked spot) → IsHeld spot
unlinked-was (free next) is = is
unlinked-was (held value text) is = tt

unlinked-same : (spot : Spot) → IsHeld spot → unlinked spot ≡ spot
unlinked-same (free next) is = absurd is
unlinked-same (held value text) is = refl

unlinked-none : (spot : Spot) → (IsHeld spot → ⊥) → unlinked spot ≡ free 0
unlinked-none (free next) not = refl
unlinked-none (held value text) not = absurd (not tt)

-- Which place is next.
next-is : (spare first count : ℕ) (all : List Spot) → AreChained spare first all → length all ≡ count → ((at : ℕ) → at < count → IsHeld (get_or all at (free 0))) →
    IsNext (map unlinked (freed spare first all)) (next_from spare first count)
next-is zero first count all chained long stand = (let same = length-map all unlinked in record {
  within = omega (arith, same, long);
  is_free = λ is. subst IsHeld (get_or_past (map unlinked all) count (free 0) (omega (arith, same, long))) is;
  last = λ _ at inside.
      let held_at = stand at (omega (arith, inside, same, long)) in
      subst IsHeld (sym (unlinked-at all at ∙ unlinked-same (get_or all at (free 0)) held_at)) held_at;
})
next-is (suc spare) first count all chained long stand =
    let same = length-map (freed (suc spare) first all) unlinked in
    let kept = length-freed (suc spare) first all in
    let inside = some-inside all first (suc spare) chained (omega arith) in
    record {
      within = omega (arith, same, kept, inside);
      is_free = λ is. subst IsHeld (unlinked-at (freed (suc spare) first all) first ∙ ap unlinked (first-free spare first all chained)) is;
      last = λ end. absurd (omega (arith, end, same, kept, inside));
    }

next-zero : (spare first count : ℕ) → spare ≡ 0 → next_from spare first count ≡ count
next-zero zero first count none = refl
next-zero (suc spare) first count none = absurd (omega (arith, none))

next-some : (spare first count : ℕ) → 0 < spare → next_from spare first count ≡ first
next-some zero first count some = absurd (omega (arith, some))
next-some (suc spare) first count some = refl

-- ---- a page

module _ (page : Inside) (are : IsPage page) where
  abbrev pub all : List Spot
  all = spots_in page.count page.size page.words.items

  abbrev pub left : List Spot
  left = freed page.spare page.free all

  left-long : length left ≡ page.count
  left-long = length-freed page.spare page.free all ∙ length-spots page.count page.size page.words.items

  pub spots-long : length (page_list page).spots ≡ page.count
  spots-long = length-map left unlinked ∙ left-long

  pub next-known : IsNext (page_list page).spots (page_list page).next
  next-known = next-is page.spare page.free page.count all are.chained (length-spots page.count page.size page.words.items) (all-stand page.count page.size page.words.items)

  pub next-free : 0 < page.spare → (page_list page).next ≡ page.free
  next-free some = next-some page.spare page.free page.count some

  pub next-end : page.spare ≡ 0 → (page_list page).next ≡ page.count
  next-end none = next-zero page.spare page.free page.count none

  free-within : 0 < page.spare → page.free < page.count
  free-within some =
      let inside = some-inside all page.free page.spare are.chained some in
      let long = length-spots page.count page.size page.words.items in
      omega (arith, inside, long)

  pub none-spare : (page_list page).next ≡ length (page_list page).spots → page.spare ≡ 0
  none-spare end = go page.spare refl
    where
      go : (spare : ℕ) → page.spare ≡ spare → page.spare ≡ 0
      go zero is = is
      go (suc spare) is =
          let some : 0 < page.spare = omega (arith, is) in
          let next = next-free some in
          let within = free-within some in
          let long = spots-long in
          absurd (omega (arith, end, next, within, long))

  pub end-next : page.spare ≡ 0 → (page_list page).next ≡ length (page_list page).spots
  end-next none = next-end none ∙ sym spots-long

  stands-counted : page.spare + stands left ≡ page.count
  stands-counted = stands-freed page.spare page.free all are.chained ∙ stands-all page.count page.size page.words.items

  pub spare-most : page.spare ≤ page.count
  spare-most = (let counted = stands-counted in omega (arith, counted))

  pub spare-all : page.spare ≡ page.count → (place : ℕ) → spot_in (page_list page) place ≡ free 0
  spare-all same place =
      let counted = stands-counted in
      unlinked-at left place ∙ unlinked-none (get_or left place (free 0)) (none-stand left (omega (arith, counted, same)) place)

  pub spare-less : page.spare ≢ page.count → (place : ℕ) × IsHeld (spot_in (page_list page) place)
  spare-less other =
      let counted = stands-counted in
      let one = some-stand left (omega (arith, counted, other)) in
      (one.0, subst IsHeld (sym (unlinked-at left one.0 ∙ unlinked-same (get_or left one.0 (free 0)) one.1)) one.1)

  -- The count and one more are words.
  pub count-fits : page.count + 1 < 2 ^ 64
  count-fits =
      let long = are.long in
      let parts : page.count * (page.size + 1) ≡ page.count * page.size + page.count = grind arith in
      let ok = page.words.ok in
      let small = page.words.small in
      omega (arith, long, parts, ok, small)

  pub spare-fits : page.spare + 1 < 2 ^ 64
  spare-fits = (let most = spare-most in let fits = count-fits in omega (arith, most, fits))

  -- Where no place is free, room is memory behind the records.
  pub end-room : page.spare ≡ 0 → HasRoom (page_list page) → length page.words.items + (page.size + 1) ≤ page.words.cap
  end-room none room =
      let next = end-next none in
      let parts : (page.count + 1) * (page.size + 1) ≡ page.count * (page.size + 1) + (page.size + 1) = grind arith in
      let same = ap (λ n. (n + 1) * (page.size + 1)) spots-long in
      let long = are.long in
      elim room [
        | inl less ↦ absurd (omega (arith, less, next))
        | inr fits ↦ omega (arith, fits, parts, same, long)
      ]

  -- Memory for one record more behind the others is room.
  pub room-for : (capacity : ℕ) → length page.words.items + (page.size + 1) ≤ capacity → (length (page_list page).spots + 1) * (page.size + 1) ≤ capacity
  room-for capacity fits =
      let parts : (page.count + 1) * (page.size + 1) ≡ page.count * (page.size + 1) + (page.size + 1) = grind arith in
      let same = ap (λ n. (n + 1) * (page.size + 1)) spots-long in
      let long = are.long in
      omega (arith, fits, parts, same, long)

-- ---- a record that stands

module _ (page : Inside) (are : IsPage page) (place : ℕ) (is : IsHeld (spot_in (page_list page) place)) where
  left-held : IsHeld (get_or (left page are) place (free 0))
  left-held = unlinked-was (get_or (left page are) place (free 0)) (subst IsHeld (unlinked-at (left page are) place) is)

  pub held-within : place < page.count
  held-within =
      let inside = held-inside (left page are) place left-held in
      let long = length-freed page.spare page.free (all page are) in
      let counted = length-spots page.count page.size page.words.items in
      omega (arith, inside, long, counted)

  pub held-long : place * (page.size + 1) + (page.size + 1) ≤ length page.words.items
  held-long = (let within = place-within place page.count (page.size + 1) held-within in let long = are.long in omega (arith, within, long))

  -- What stands there is what its words are.
  pub spot-is : spot_in (page_list page) place ≡ first_spot page.size (drop (place * (page.size + 1)) page.words.items)
  spot-is =
      unlinked-at (left page are) place
      ∙ unlinked-same (get_or (left page are) place (free 0)) left-held
      ∙ freed-held page.spare page.free (all page are) place left-held
      ∙ get-spots page.count page.size page.words.items place (free 0) held-within

  pub word-value : value_of (spot_in (page_list page) place) ≡ get_or page.words.items (place * (page.size + 1)) 0
  word-value =
      let e : place * (page.size + 1) + 0 ≡ place * (page.size + 1) = omega arith in
      ap value_of spot-is ∙ get_or-drop (place * (page.size + 1)) page.words.items 0 0 ∙ ap (λ n. get_or page.words.items n 0) e

  word-text : text_of (spot_in (page_list page) place) ≡ take page.size (drop (place * (page.size + 1) + 1) page.words.items)
  word-text = ap text_of spot-is ∙ ap (take page.size) (drop-drop 1 (place * (page.size + 1)) page.words.items)

  -- Another value there.
  module _ (value : ℕ) where
    abbrev pub written : Inside
    written = record page { words = with_item page.words (place * (page.size + 1)) value }

    abbrev kept_text : List ℕ
    kept_text = text_of (spot_in (page_list page) place)

    written-all : spots_in page.count page.size (set page.words.items (place * (page.size + 1)) value) ≡ set (all page are) place (held value kept_text)
    written-all =
        spots-value page.count page.size page.words.items are.long place held-within value
        ∙ ap (λ text. set (all page are) place (held value text)) (sym word-text)

    pub value-list : page_list written ≡ with_value_in (page_list page) place value
    value-list = ap (λ spots. record (page_list page) { spots = spots })
        (ap (λ every. map unlinked (freed page.spare page.free every)) written-all
        ∙ ap (λ spots. map unlinked spots) (freed-set place (held value kept_text) page.spare page.free (all page are) left-held)
        ∙ map-set unlinked (left page are) place (held value kept_text))

    pub value-are : IsPage written
    value-are = record {
      long = length-set page.words.items (place * (page.size + 1)) value ∙ are.long;
      chained = subst (λ every. AreChained page.spare page.free every) (sym written-all) (chained-set place (held value kept_text) page.spare page.free (all page are) left-held are.chained);
      size_within = are.size_within;
    }

  -- None there: the place is free.
  abbrev pub without : Inside
  without = record page { words = with_item page.words (place * (page.size + 1)) page.free; free = place; spare = page.spare + 1 }

  pub taken-spots : (page_list without).spots ≡ set (page_list page).spots place (free 0)
  taken-spots =
      (λ i. map unlinked (freed (add-one page.spare i) place (written-all page.free i)))
      ∙ ap (λ spots. map unlinked spots) (freed-more page.spare page.free (all page are) place left-held (kept_text page.free))
      ∙ map-set unlinked (left page are) place (free page.free)

  pub taken-next : (page_list without).next ≡ place
  taken-next = next-some (page.spare + 1) place page.count (omega arith)

  pub taken-are : IsPage without
  taken-are = record {
    long = length-set page.words.items (place * (page.size + 1)) page.free ∙ are.long;
    chained = subst (λ n. AreChained n place (spots_in page.count page.size (set page.words.items (place * (page.size + 1)) page.free))) (sym (add-one page.spare))
        (subst (λ every. AreChained (suc page.spare) place every) (sym (written-all page.free))
        (chained-more page.spare page.free (all page are) place left-held (kept_text page.free) are.chained));
    size_within = are.size_within;
  }

-- The same of a page as callers see it.
module _ (page : Inside) (are : IsPage page) {seen : PageList} (view_is : page_list page ≡ seen) (place : ℕ) (is : IsHeld (spot_in seen place)) where
  pub seen-held : IsHeld (spot_in (page_list page) place)
  seen-held = subst (λ list. IsHeld (spot_in list place)) (sym view_is) is

  pub seen-long : place * (page.size + 1) + (page.size + 1) ≤ length page.words.items
  seen-long = held-long page are place seen-held

  pub seen-value : {value : ℕ} → value ≡ get_or page.words.items (place * (page.size + 1)) value → value ≡ value_of (spot_in seen place)
  seen-value read =
      let long = seen-long in
      get_or_read page.words.items (place * (page.size + 1)) _ (omega (arith, long)) read 0
      ∙ sym (word-value page are place seen-held)
      ∙ ap (λ list. value_of (spot_in list place)) view_is

  pub seen-spot : first_spot page.size (drop (place * (page.size + 1)) page.words.items) ≡ spot_in seen place
  seen-spot = sym (spot-is page are place seen-held) ∙ ap (λ list. spot_in list place) view_is

-- ---- one more record

module _ (page : Inside) (are : IsPage page) (value : ℕ) (bytes : List ℕ) (size_is : words_for (length bytes) ≡ page.size) where
  abbrev pub words : List ℕ
  words = value ∷ words_in page.size bytes

  words-long : length words ≡ page.size + 1
  words-long = (let long = length-words page.size bytes in omega (arith, long))

  words-spot : first_spot page.size words ≡ held value (words_of bytes)
  words-spot =
      ap (held value) (take_all page.size (words_in page.size bytes) (let long = length-words page.size bytes in omega (arith, long)) ∙ ap (λ n. words_in n bytes) (sym size_is))

  -- At the end, where no place is free.
  module _ (none : page.spare ≡ 0) (new : Vec ℕ Global) (is : new.items ≡ page.words.items ++ words) where
    abbrev pub pushed : Inside
    pushed = record page { words = new; count = page.count + 1 }

    pushed-all : spots_in (page.count + 1) page.size new.items ≡ all page are ++ held value (words_of bytes) ∷ []
    pushed-all =
        ap (spots_in (page.count + 1) page.size) is
        ∙ spots-push page.count page.size page.words.items are.long words words-long
        ∙ ap (λ spot. all page are ++ spot ∷ []) words-spot

    pub pushed-spots : (page_list pushed).spots ≡ put_at (page_list page).spots (page_list page).next (held value (words_of bytes))
    pushed-spots =
        ap (λ spots. map unlinked spots) (none-freed (spots_in (page.count + 1) page.size new.items) page.free page.spare none ∙ pushed-all)
        ∙ map_push unlinked (all page are) (held value (words_of bytes))
        ∙ ap (λ spots. map unlinked spots ++ held value (words_of bytes) ∷ []) (sym (none-freed (all page are) page.free page.spare none))
        ∙ sym (put-end (page_list page).spots (page_list page).next (held value (words_of bytes)) (end-next page are none))
      where
        put-end : (spots : List Spot) (at : ℕ) (spot : Spot) → at ≡ length spots → put_at spots at spot ≡ spots ++ spot ∷ []
        put-end spots at spot end = ap (λ b. cond b (set spots at spot) (spots ++ spot ∷ [])) (le-ltb at (length spots) (omega (arith, end)))

    pub pushed-are : IsPage pushed
    pushed-are = record {
      long =
          let long = ap length is ∙ length-append page.words.items words in
          let parts : (page.count + 1) * (page.size + 1) ≡ page.count * (page.size + 1) + (page.size + 1) = grind arith in
          let own = words-long in
          let was = are.long in
          omega (arith, long, parts, own, was);
      chained = subst (λ n. AreChained n page.free (spots_in (page.count + 1) page.size new.items)) (sym none) tt;
      size_within = are.size_within;
    }

  -- Over the words of a place.
  module _ (place : ℕ) (within : place < page.count) where
    abbrev pub placed : List ℕ
    placed = before page.count page.size page.words.items are.long place within ++ (words ++ behind page.count page.size page.words.items are.long place within)

    placed-all : spots_in page.count page.size placed ≡ set (all page are) place (held value (words_of bytes))
    placed-all = spots-place page.count page.size page.words.items are.long place within words words-long ∙ ap (set (all page are) place) words-spot

    placed-long : length placed ≡ page.count * (page.size + 1)
    placed-long =
        let inside = place-within place page.count (page.size + 1) within in
        let long = are.long in
        let own = words-long in
        let whole = length-append (take (place * (page.size + 1)) page.words.items) (words ++ drop (page.size + 1) (drop (place * (page.size + 1)) page.words.items)) in
        let rest = length-append words (drop (page.size + 1) (drop (place * (page.size + 1)) page.words.items)) in
        let front = length-take-le (place * (page.size + 1)) page.words.items (omega (arith, inside, long)) in
        let past = length-drop (page.size + 1) (drop (place * (page.size + 1)) page.words.items) in
        let tail = length-drop (place * (page.size + 1)) page.words.items in
        omega (arith, inside, long, own, whole, rest, front, past, tail)

  -- In the place of a record that stands.
  module _ (place : ℕ) (is : IsHeld (spot_in (page_list page) place)) (new : Vec ℕ Global) (words_are : new.items ≡ placed place (held-within page are place is))
      (room : new.cap ≡ page.words.cap) where
    abbrev pub replaced : Inside
    replaced = record page { words = new }

    replaced-all : spots_in page.count page.size new.items ≡ set (all page are) place (held value (words_of bytes))
    replaced-all = ap (spots_in page.count page.size) words_are ∙ placed-all place (held-within page are place is)

    pub replaced-list : page_list replaced ≡ with_spot_in (page_list page) place (held value (words_of bytes))
    replaced-list =
        (λ i. record {
          size = page.size;
          spots = map unlinked (freed page.spare page.free (replaced-all i));
          next = next_from page.spare page.free page.count;
          capacity = room i;
        })
        ∙ ap (λ spots. record (page_list page) { spots = spots })
        (ap (λ spots. map unlinked spots) (freed-set place (held value (words_of bytes)) page.spare page.free (all page are) (left-held page are place is))
        ∙ map-set unlinked (left page are) place (held value (words_of bytes)))

    pub replaced-are : IsPage replaced
    replaced-are = record {
      long = ap length words_are ∙ placed-long place (held-within page are place is);
      chained = subst (λ every. AreChained page.spare page.free every) (sym replaced-all)
          (chained-set place (held value (words_of bytes)) page.spare page.free (all page are) (left-held page are place is) are.chained);
      size_within = are.size_within;
    }

  -- At the first free place.
  module _ (some : 0 < page.spare) where
    pub free-inside : page.free < page.count
    free-inside = free-within page are some

    pub free-long : page.free * (page.size + 1) + (page.size + 1) ≤ length page.words.items
    free-long = (let within = place-within page.free page.count (page.size + 1) free-inside in let long = are.long in omega (arith, within, long))

    -- The next free place stands in the words of the first one.
    pub free-next : {next : ℕ} → next ≡ get_or page.words.items (page.free * (page.size + 1)) next → next ≡ next_of (all page are) page.free
    free-next read =
        let e : page.free * (page.size + 1) + 0 ≡ page.free * (page.size + 1) = omega arith in
        let long = free-long in
        get_or_read page.words.items (page.free * (page.size + 1)) _ (omega (arith, long)) read 0
        ∙ sym (ap value_of (get-spots page.count page.size page.words.items page.free (free 0) free-inside) ∙ get_or-drop (page.free * (page.size + 1)) page.words.items 0 0 ∙
        ap (λ n. get_or page.words.items n 0) e)

    module _ (new : Vec ℕ Global) (words_are : new.items ≡ placed page.free free-inside) (next : ℕ) (next_is : next ≡ next_of (all page are) page.free) where
      abbrev pub refilled : Inside
      refilled = record page { words = new; free = next; spare = page.spare - 1 }

      refilled-all : spots_in page.count page.size new.items ≡ set (all page are) page.free (held value (words_of bytes))
      refilled-all = ap (spots_in page.count page.size) words_are ∙ placed-all page.free free-inside

      pub refilled-spots : (page_list refilled).spots ≡ put_at (page_list page).spots (page_list page).next (held value (words_of bytes))
      refilled-spots =
          (λ i. map unlinked (freed (page.spare - 1) (next_is i) (refilled-all i)))
          ∙ ap (λ spots. map unlinked spots) (some-freed (all page are) page.free page.spare are.chained some (held value (words_of bytes))).0
          ∙ map-set unlinked (left page are) page.free (held value (words_of bytes))
          ∙ ap (λ n. set (page_list page).spots n (held value (words_of bytes))) (sym (next-free page are some))
          ∙ sym (ap (λ b. cond b (set (page_list page).spots (page_list page).next (held value (words_of bytes))) ((page_list page).spots ++ held value (words_of bytes) ∷ []))
          (lt-ltb (page_list page).next (length (page_list page).spots)
          (let next = next-free page are some in let long = spots-long page are in let within = free-inside in omega (arith, next, long, within))))

      pub refilled-are : IsPage refilled
      refilled-are = record {
        long = ap length words_are ∙ placed-long page.free free-inside;
        chained = subst (λ n. AreChained (page.spare - 1) n (spots_in page.count page.size new.items)) (sym next_is)
            (subst (λ spots. AreChained (page.spare - 1) (next_of (all page are) page.free) spots) (sym refilled-all)
            (some-freed (all page are) page.free page.spare are.chained some (held value (words_of bytes))).1);
        size_within = are.size_within;
      }
