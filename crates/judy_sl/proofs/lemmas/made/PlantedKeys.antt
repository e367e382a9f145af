-- A key that comes into an array of which the first level is a list of entries yet.
use Rattle.std.proofs.Common.{◌≡◌, ℕ, ◌+◌, ◌<◌, ◌≤◌, cond, T, List, [], ◌∷◌, ◌++◌, length, drop, None, Some, refl, sym, ap, subst, ◌∙◌}
use Rattle.std.proofs.lemmas.List.{length_push}
use Rattle.std.specs.Ordering.{is_lt, is_eq, eq_by_cmp, ordering_reverse}
use Rattle.std.specs.Cmp.{nat_cmp_total}
use Rattle.std.specs.FinMap.{FinMap, empty, insert, get, len, len-empty, find, from_sorted, is_sorted, nat_cmp-IsAntisymmetric, get-from_sorted, get-insert, entries-from_sorted}
use Rattle.std.specs.FinMap.{same_map, same_entries_map}
use Rattle.std.specs.FinMap as finmap
use Rattle.std.specs.FinMap.Entries.{below_all, find-append}
use Rattle.judy_model.specs.Keys.{word_order, byte_order}
use Rattle.judy_model.specs.Arrays.{ArrayOf, empty_array, with_map}
use Rattle.judy_model.proofs.lemmas.maps.SortedMaps.{from_sorted-nil}
use Rattle.judy_model.proofs.lemmas.orders.WordOrder.{less_word}
use Rattle.judy_model.proofs.lemmas.maps.Tests.{both, left_of, right_of}
use Rattle.judy_tails.specs.Tails.{no_tails}
use Rattle.judy_sl.specs.declared.arena.Arena.{Arena}
use Rattle.judy_sl.specs.declared.arena.Place.TheVariants.{Below}
use Rattle.judy_sl.specs.Children.{Child, Free, Tail, Level, child_with}
use Rattle.judy_sl.specs.Pieces.{pieces, piece_of}
use Rattle.judy_sl.specs.WorldInvariants.{AllLed}
use Rattle.judy_sl.specs.Arenas.{world_of, child_at, map_of, AreWithin, IsArena, IsStrings}
use Rattle.judy_sl.specs.Places.{place_with, with_child}
use Rattle.judy_sl.specs.Grown.{IsPut, IsAdded, IsChange}
use Rattle.judy_sl.specs.Counted.{AreCounted}
use Rattle.judy_sl.specs.Firsts.{AreFirsts}
use Rattle.judy_sl.specs.Planted.{planted, AreBelow, IsPlanted}
use Rattle.judy_sl.proofs.lemmas.inserts.Tried.{first-absent, first-added}
use Rattle.judy_sl.proofs.lemmas.counts.TriedCounts.{tried-counted}
use Rattle.judy_sl.proofs.lemmas.inserts.Written.{written-arena, written-led, written-change, found-there}
use Rattle.judy_sl.proofs.lemmas.counts.CountedWrites.{counted_written, counted_new}
use Rattle.judy_sl.proofs.lemmas.seats.Maps.{get-map, map_written, len-added, empty-arena, empty-led, empty-map}
use Rattle.judy_sl.proofs.lemmas.counts.Beginnings.{firsts_written}
use Rattle.judy_sl.proofs.lemmas.counts.FirstWays.{unrooted, added_first, firsts_new}
use Rattle.judy_sl.specs.Strings.{IsString}

-- ---- entries in order

below-push : (word : ℕ) (entries : List (ℕ × ℕ)) (piece at : ℕ) → word < piece → T (below_all word_order word entries) → T (below_all word_order word (entries ++ (piece, at) ∷ []))
below-push word [] piece at less below = both _ _ (subst (λ r. T (is_lt r)) (sym (less_word word piece less)) tt) tt
below-push word (entry ∷ entries) piece at less below =
    both _ _ (left_of (is_lt (word_order word entry.0)) (below_all word_order word entries) below) (below-push word entries piece at less
    (right_of (is_lt (word_order word entry.0)) (below_all word_order word entries) below))

sorted-push : (entries : List (ℕ × ℕ)) (piece at : ℕ) → AreBelow piece entries → T (is_sorted word_order entries) → T (is_sorted word_order (entries ++ (piece, at) ∷ []))
sorted-push [] piece at under sorted = tt
sorted-push (entry ∷ entries) piece at under sorted =
    both _ _ (below-push entry.0 entries piece at under.0 (left_of (below_all word_order entry.0 entries) (is_sorted word_order entries) sorted))
    (sorted-push entries piece at under.1 (right_of (below_all word_order entry.0 entries) (is_sorted word_order entries) sorted))

find-none : (entries : List (ℕ × ℕ)) (piece : ℕ) → AreBelow piece entries → find word_order piece entries ≡ None
find-none [] piece under = refl
find-none (entry ∷ entries) piece under =
    ap (λ r. cond (is_eq r) (Some entry.1) (find word_order piece entries)) (nat_cmp_total.antisymm piece entry.0 ∙ ap ordering_reverse (less_word entry.0 piece under.0)) ∙
    find-none entries piece under.1

-- Entries stay below what a further one is below too.
pub below-more : (entries : List (ℕ × ℕ)) (piece at word : ℕ) → AreBelow word entries → piece < word → AreBelow word (entries ++ (piece, at) ∷ [])
below-more [] piece at word under less = (less, tt)
below-more (entry ∷ entries) piece at word under less = (under.0, below-more entries piece at word under.1 less)

-- ---- a key comes in

-- A write to a child leaves the first level.
root-over : (arena : Arena) (root : ArrayOf word_order) (at : ℕ) (child : Child) → with_child (record arena { root = root }) at child ≡ record (with_child arena at child) { root = root }
root-over arena root at Free = refl
root-over arena root at (Tail rest) = refl
root-over arena root at (Level keys words) = refl

module _ (arena : Arena) (entries : List (ℕ × ℕ)) (is : IsPlanted arena entries) (key : List ℕ) (is_key : IsString key) (long : 8 ≤ length key)
    (above : AreBelow (piece_of key) entries) (placed : Arena) (at : ℕ) (rest : List ℕ) (rest_is : rest ≡ drop 8 key) (put : IsPut arena placed (Tail (rest, 0)) at) (value : ℕ) where
  abbrev piece : ℕ
  piece = piece_of key

  abbrev pub more : List (ℕ × ℕ)
  more = entries ++ (piece, at) ∷ []

  abbrev before : Arena
  before = planted arena entries

  abbrev middle : Arena
  middle = planted placed more

  abbrev after : Arena
  after = planted (place_with placed (Below at 0) value) more

  more-sorted : T (is_sorted word_order more)
  more-sorted = sorted-push entries piece at above is.sorted

  none : get (from_sorted {R = word_order} entries) piece ≡ None
  none = get-from_sorted word_order entries piece is.sorted ∙ find-none entries piece above

  root-is : from_sorted {R = word_order} more ≡ insert (from_sorted entries) piece at
  root-is = same_map nat_cmp_total nat_cmp-IsAntisymmetric _ _ (λ q.
      get-from_sorted word_order more q more-sorted
      ∙ find-append word_order nat_cmp_total entries piece at q (find-none entries piece above)
      ∙ sym (get-insert nat_cmp_total (from_sorted entries) piece at q ∙ ap (cond (eq_by_cmp word_order q piece) (Some at)) (get-from_sorted word_order entries q is.sorted)))

  words-is : middle.root ≡ with_map before.root (insert before.root.map piece at)
  words-is = ap (λ (map : FinMap word_order ℕ). record { limit = 18446744073709551615; map = map }) root-is

  middle-put : IsPut (record before { root = middle.root }) middle (Tail (rest, 0)) at
  middle-put = record { was_free = put.was_free; here = put.here; elsewhere = put.elsewhere; root = refl }

  added : IsAdded before middle key (Below at 0)
  added = first-added before is.is_arena key is_key piece refl none middle.root middle at (rest, 0) words-is middle-put long rest_is refl

  absent : get (map_of before) key ≡ None
  absent = first-absent before is.is_arena key is_key piece refl none

  middle-counted : AreCounted middle
  middle-counted = tried-counted before is.is_arena is.led is.counted key is_key piece refl none middle.root middle at (rest, 0) (Below at 0) words-is middle-put added

  middle-firsts : AreFirsts (map_of middle) empty
  middle-firsts = added_first before middle key is_key absent empty is.firsts (unrooted before piece none) (Below at 0) added

  -- The value is written.
  after-is : place_with middle (Below at 0) value ≡ after
  after-is = root-over placed middle.root at (child_with (child_at placed at) 0 value)

  second : IsChange (world_of middle) (world_of (place_with middle (Below at 0) value)) (pieces key) (Some value)
  second = written-change middle added.is_arena key (Below at 0) added.found value

  written-is : map_of (place_with middle (Below at 0) value) ≡ insert (map_of middle) key value
  written-is = map_written middle (place_with middle (Below at 0) value) key is_key value second

  pub planted-map : map_of after ≡ insert (map_of before) key value
  planted-map =
      ap map_of (sym after-is)
      ∙ map_written before (place_with middle (Below at 0) value) key is_key value (record {
        at_key = second.at_key;
        elsewhere = λ ps are ne. second.elsewhere ps are ne ∙ added.change.elsewhere ps are ne;
      })

  pub planted-more : IsPlanted (place_with placed (Below at 0) value) more
  planted-more = record {
    sorted = more-sorted;
    is_arena = subst IsArena after-is (written-arena middle added.is_arena key (Below at 0) added.found value);
    led = subst (λ (all : Arena). AllLed (world_of all)) after-is (written-led middle added.is_arena key (Below at 0) added.found value (added.led is.led));
    counted = subst AreCounted after-is (counted_written middle added.is_arena key (Below at 0) added.found value middle-counted);
    firsts = subst (λ (all : Arena). AreFirsts (map_of all) empty) after-is
        (subst (λ (all : FinMap byte_order ℕ). AreFirsts all empty) (sym written-is) (firsts_written (map_of middle) key added.found.value value empty
        (get-map middle key is_key ∙ found-there middle added.is_arena key (Below at 0) added.found) middle-firsts));
    number =
        ap (λ (map : FinMap byte_order ℕ). len map) planted-map
        ∙ len-added (map_of before) key value absent
        ∙ ap (λ n. n + 1) is.number
        ∙ sym (length_push entries (piece, at));
  }

-- ---- at the beginning and at the end

-- An arena without an entry,
module _ (arena : Arena) (no_levels : arena.levels.slots ≡ []) (nothing : arena.tails ≡ no_tails) (no_root : arena.root ≡ empty_array 18446744073709551615) where
  itself : arena ≡ planted arena []
  itself =
      ap (λ (words : ArrayOf word_order). record arena { root = words }) (no_root ∙ ap (λ (map : FinMap word_order ℕ). record { limit = 18446744073709551615; map = map })
      (sym (from_sorted-nil word_order)))

  pub planted-none : map_of (planted arena []) ≡ empty
  planted-none = ap map_of (sym itself) ∙ empty-map arena no_levels nothing no_root

  pub planted-new : IsPlanted arena []
  planted-new = record {
    sorted = tt;
    is_arena = subst IsArena itself (empty-arena arena no_levels nothing no_root);
    led = subst (λ (all : Arena). AllLed (world_of all)) itself (empty-led arena no_levels nothing no_root);
    counted = subst AreCounted itself (counted_new arena no_levels nothing);
    firsts = subst (λ (all : Arena). AreFirsts (map_of all) empty) itself (firsts_new arena no_levels nothing no_root empty refl);
    number = ap (λ (map : FinMap byte_order ℕ). len map) planted-none ∙ len-empty byte_order ℕ;
  }

-- and one whose first level is made of the entries.
module _ (arena : Arena) (entries : List (ℕ × ℕ)) (is : IsPlanted arena entries) (root : ArrayOf word_order) (limit_is : root.limit ≡ 18446744073709551615)
    (entries_are : finmap.entries root.map ≡ entries) where
  map-is : from_sorted entries ≡ root.map
  map-is = same_entries_map (from_sorted entries) root.map (entries-from_sorted word_order entries is.sorted ∙ sym entries_are)

  root-made : planted arena entries ≡ record arena { root = root }
  root-made = λ i. record arena { root = record { limit = sym limit_is i; map = map-is i } }

  pub strings-planted : (most longest limit : ℕ) → AreWithin longest (map_of (planted arena entries)) → longest ≤ most → 1 ≤ limit → limit ≤ 4294967295 → length entries ≤ limit →
      IsStrings most longest limit (length entries) (record arena { root = root })
  strings-planted most longest limit within fits some limit_fits few = subst (IsStrings most longest limit (length entries)) root-made (record {
    is_arena = is.is_arena;
    led = is.led;
    counted = sym is.number;
    within_limit = few;
    holds_some = some;
    limit_fits = limit_fits;
    short = within;
    longest_fits = fits;
  })

  pub counted-planted : AreCounted (record arena { root = root })
  counted-planted = subst AreCounted root-made is.counted

  pub firsts-planted : AreFirsts (map_of (record arena { root = root })) empty
  firsts-planted = subst (λ (all : Arena). AreFirsts (map_of all) empty) root-made is.firsts

  pub map-planted : map_of (record arena { root = root }) ≡ map_of (planted arena entries)
  map-planted = ap map_of (sym root-made)
