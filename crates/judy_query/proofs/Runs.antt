-- Runs of words that are all keys, and the words beside them that are none.
use Rattle.std.proofs.Common.{◌≡◌, ◌≢◌, ℕ, zero, suc, ◌+◌, ◌-◌, ◌*◌, ◌<◌, ◌≤◌, ◌^◌, Bool, true, false, cond, not, ◌&&◌, ◌||◌, ◌==◌, nat_lt, [], ◌∷◌, length, Option, Some, None}
use Rattle.std.proofs.Common.{is_some, refl, sym, ap, ◌∙◌, arith, is_le, is_ge, ◌⊎◌, true≢false, ne_eqb, eq-eqb, ⊎_elim, ltb-true, lt-ltb, leb-true, le-leb}
use Rattle.std.proofs.Math.Nat.{pow-suc, pow-le-pow_right}
use Rattle.std.specs.Cmp.{unsigned_tied}
use Rattle.std.specs.Ordering.{is_eq}
use Rattle.std.proofs.lemmas.Bool.{and_parts, and_from, not-true, not_from_false, cases_lt, cases_eq, cases_order}
use Rattle.judy_model.specs.Keys.{word_order}
use Rattle.judy_model.specs.Nearest.{IsFirst, IsLast}
use Rattle.judy_model.specs.Empties.{first_empty, last_empty}
use Rattle.judy_model.proofs.lemmas.orders.WordOrder.{is_ge_word, is_le_word}
use Rattle.judy_model.proofs.lemmas.queries.EmptiesLemmas.{first_empty_run, first_empty_run_none, last_empty_run, last_empty_run_none}
use Rattle.judy_bits.specs.ByteSets.{has}
use Rattle.judy_leaf.specs.KeyLists.{keys_of, shift}
use Rattle.judy_leaf.specs.Nearby.{is_absent}
use Rattle.judy_node.specs.Trees.{Pairs, IsMap}
use Rattle.judy_node.proofs.Maps.{map-length, map-shift}
use Rattle.judy_query.specs.Maps.{map_of}
use Rattle.judy_query.specs.Parts.{value_of, IsPart}
use Rattle.judy_query.specs.Rooms.{IsRun, IsFirstAbsent, IsLastAbsent, IsWindow}
use Rattle.judy_query.proofs.Finds.{part-value}
use Rattle.judy_query.proofs.Links.{held_is}

true_or : (test : Bool) → (test ≡ false → ⊥) → test ≡ true
true_or true other = refl
true_or false other = absurd (other refl)

-- ---- members

turned : (a b : ℕ) → (a == b) ≡ (b == a)
turned a b = ⊎_elim
    (λ same. eq-eqb a b same ∙ sym (eq-eqb b a (sym same)))
    (λ apart. ne_eqb a b apart ∙ sym (ne_eqb b a (λ e. apart (sym e))))
    (cases_eq a b)

-- A word is a key where it has a value.
has-value : (pairs : Pairs) (key : ℕ) → has (keys_of pairs) key ≡ is_some (value_of pairs key)
has-value [] key = refl
has-value (pair ∷ pairs) key =
    (λ t. (turned pair.0 key ∙ sym (unsigned_tied key pair.0)) t || has-value pairs key t)
    ∙ found (is_eq (word_order key pair.0))
  where
    found : (test : Bool) → (test || is_some (value_of pairs key)) ≡ is_some (cond test (Some pair.1) (value_of pairs key))
    found true = refl
    found false = refl

other_first : (pair : ℕ × ℕ) (pairs : Pairs) (key : ℕ) → pair.0 ≢ key → has (keys_of (pair ∷ pairs)) key ≡ has (keys_of pairs) key
other_first pair pairs key apart = ap (λ b. b || has (keys_of pairs) key) (ne_eqb pair.0 key apart)

-- ---- windows

-- A part of a tree is a window.
pub window-part : (words top base unit : ℕ) (tree pairs front back : Pairs) → IsPart words top tree base unit pairs front back → IsWindow tree base unit pairs
window-part words top base unit tree pairs front back part = record {
  same = λ word within. has-value tree (base + word) ∙ ap is_some (part-value words top tree base unit word (base + word) pairs front back part refl within) ∙ sym (has-value pairs word);
}

pub window-window : (all pairs inner : Pairs) (base unit at small both : ℕ) → both ≡ base + at → at + small ≤ unit → IsWindow all base unit pairs →
    IsWindow pairs at small inner → IsWindow all both small inner
window-window all pairs inner base unit at small both sum fits outer deep = record {
  same = λ word within. ap (has (keys_of all)) (let e : both + word ≡ base + (at + word) = omega arith in e) ∙ outer.same (at + word) (omega arith) ∙ deep.same word within;
}

pub window-shift : (pairs : Pairs) (base unit : ℕ) → IsWindow (shift base pairs) base unit pairs
window-shift pairs base unit = record { same = λ word within. raised pairs word }
  where
    same_test : (key word : ℕ) → (base + key == base + word) ≡ (key == word)
    same_test key word = ⊎_elim
        (λ (same : key ≡ word). eq-eqb (base + key) (base + word) (omega arith) ∙ sym (eq-eqb key word same))
        (λ apart. ne_eqb (base + key) (base + word) (λ e. apart (omega arith)) ∙ sym (ne_eqb key word apart))
        (cases_eq key word)

    raised : (pairs : Pairs) (word : ℕ) → has (keys_of (shift base pairs)) (base + word) ≡ has (keys_of pairs) word
    raised [] word = refl
    raised (pair ∷ pairs) word = λ t. same_test pair.0 word t || raised pairs word t

-- ---- runs

pub run-none : (pairs : Pairs) (from to : ℕ) → from ≡ to → IsRun pairs from to
run-none pairs from to same = record { rising = omega arith; held = λ word low high. let never : ⊥ = omega arith in absurd never }

pub run-join : (pairs : Pairs) (from middle to : ℕ) → IsRun pairs from middle → IsRun pairs middle to → IsRun pairs from to
run-join pairs from middle to one other =
    let first = one.rising in
    let second = other.rising in
    record {
      rising = omega arith;
      held = λ word low high. ⊎_elim (λ below. one.held word low below) (λ above. other.held word above high) (cases_lt word middle);
    }

pub run-later : (pairs : Pairs) (from middle to : ℕ) → from ≤ middle → middle ≤ to → IsRun pairs from to → IsRun pairs middle to
run-later pairs from middle to above below run = record { rising = below; held = λ word low high. run.held word (omega arith) high }

pub run-window : (all pairs : Pairs) (base unit from to first last : ℕ) → first ≡ base + from → last ≡ base + to → to ≤ unit → IsWindow all base unit pairs → IsRun pairs from to → IsRun all first last
run-window all pairs base unit from to first last is_first is_last fits window run =
    let rising = run.rising in
    record {
      rising = omega arith;
      held = λ word low high.
          let inner : base + (word - base) ≡ word = omega arith in
          ap (has (keys_of all)) (sym inner) ∙ window.same (word - base) (omega arith) ∙ run.held (word - base) (omega arith) (omega arith);
    }

-- Where there are as many keys as words, each is one.
pub run-full : (words low top : ℕ) (pairs : Pairs) → low ≤ top → IsMap words low top pairs → top ≤ low + length pairs → IsRun pairs low top
run-full words low top pairs below map full = record { rising = below; held = λ word from to. each words low top pairs word below map full from to }
  where
    each : (words low top : ℕ) (pairs : Pairs) (word : ℕ) → low ≤ top → IsMap words low top pairs → top ≤ low + length pairs → low ≤ word → word < top → has (keys_of pairs) word ≡ true
    each words low top [] word below map full from to = let never : ⊥ = omega arith in absurd never
    each words low top (pair ∷ pairs) word below map full from to =
        let first = map.0 in
        let last = map.1 in
        let rest = map-length words (pair.0 + 1) top pairs (omega arith) map.3 in
        ⊎_elim
        (λ (same : pair.0 ≡ word). ap (λ b. b || has (keys_of pairs) word) (eq-eqb pair.0 word same))
        (λ apart. other_first pair pairs word apart ∙ each words (pair.0 + 1) top pairs word (omega arith) map.3 (omega arith)
        (let more : pair.0 + 1 ≤ word = ⊎_elim (λ e. absurd (apart e)) (λ order. ⊎_elim (λ less. omega arith) (λ more. let never : ⊥ = omega arith in absurd never) order)
        (cases_order pair.0 word) in more) to)
        (cases_eq pair.0 word)

absent-below : (words low top : ℕ) (pairs : Pairs) (word : ℕ) → word < low → IsMap words low top pairs → has (keys_of pairs) word ≡ false
absent-below words low top [] word below map = refl
absent-below words low top (pair ∷ pairs) word below map =
    let first = map.0 in
    other_first pair pairs word (λ e. omega arith) ∙ absent-below words (pair.0 + 1) top pairs word (omega arith) map.3

absent-above : (words low top : ℕ) (pairs : Pairs) (word : ℕ) → top ≤ word → IsMap words low top pairs → has (keys_of pairs) word ≡ false
absent-above words low top [] word above map = refl
absent-above words low top (pair ∷ pairs) word above map =
    let last = map.1 in
    other_first pair pairs word (λ e. omega arith) ∙ absent-above words (pair.0 + 1) top pairs word above map.3

-- Where each word is a key, there are as many keys as words.
pub full-run : (words low top : ℕ) (pairs : Pairs) → IsMap words low top pairs → IsRun pairs low top → top ≤ low + length pairs
full-run words low top [] map run = ⊎_elim (λ less. let never : false ≡ true = run.held low (omega arith) less in cc) (λ done. omega arith) (cases_lt low top)
full-run words low top (pair ∷ pairs) map run =
    let first = map.0 in
    let last = map.1 in
    let here : pair.0 ≤ low = ⊎_elim (λ (less : low < pair.0). absurd (true≢false (sym (run.held low (omega arith) (omega arith)) ∙
    absent-below words (low + 1) top (pair ∷ pairs) low (omega arith) (omega arith, map.1, map.2, map.3)))) (λ done. done) (cases_lt low pair.0) in
    let rest = full-run words (pair.0 + 1) top pairs map.3 (record {
      rising = omega arith;
      held = λ word from to. sym (other_first pair pairs word (λ e. omega arith)) ∙ run.held word (omega arith) to;
    }) in
    omega arith

-- ---- as leaves and judy_model say it

module _ (pairs : Pairs) (from bound : ℕ) where
  is_free : (word : ℕ) → word < bound → has (keys_of pairs) word ≡ false → (nat_lt word bound && not (has (keys_of pairs) word)) ≡ true
  is_free word below absent = and_from (nat_lt word bound) (not (has (keys_of pairs) word)) (lt-ltb word bound below) (not_from_false (has (keys_of pairs) word) absent)

  free_is : (word : ℕ) → (nat_lt word bound && not (has (keys_of pairs) word)) ≡ true → (word < bound) × (has (keys_of pairs) word ≡ false)
  free_is word is = let parts = and_parts (nat_lt word bound) (not (has (keys_of pairs) word)) is in (ltb-true word bound parts.0, not-true (has (keys_of pairs) word) parts.1)

  -- The first of the words that are no keys, as a leaf tells it.
  pub first-absent : (answer : Option ℕ) → from ≤ bound → IsFirst word_order (is_absent bound (keys_of pairs)) from answer → IsFirstAbsent pairs from bound answer
  first-absent None within none = record {
    rising = within;
    held = λ word low high. true_or (has (keys_of pairs) word) (λ absent. true≢false (sym (and_from _ _ (is_free word high absent) (is_ge_word word from ∙ le-leb from word low)) ∙ none word));
  }
  first-absent (Some least) within some =
      let parts = and_parts (nat_lt least bound && not (has (keys_of pairs) least)) (is_ge (word_order least from)) some.0 in
      let there = free_is least parts.0 in (
        there.0,
        record {
          rising = leb-true from least (sym (is_ge_word least from) ∙ parts.1);
          held = λ word low high. true_or (has (keys_of pairs) word) (λ absent.
              let below : word < bound = let top = there.0 in omega arith in
              let least_is = leb-true least word (sym (is_le_word least word) ∙ some.1 word (and_from _ _ (is_free word below absent) (is_ge_word word from ∙ le-leb from word low))) in
              let never : ⊥ = omega arith in never);
        },
        there.1,
      )

  -- And the last.
  pub last-absent : (answer : Option ℕ) → from < bound → IsLast word_order (is_absent bound (keys_of pairs)) from answer → IsLastAbsent pairs 0 (from + 1) answer
  last-absent None within none = record {
    rising = omega arith;
    held =
        λ word low high. true_or (has (keys_of pairs) word) (λ absent. true≢false (sym (and_from _ _ (is_free word (omega arith) absent)
        (is_le_word word from ∙ le-leb word from (omega arith))) ∙ none word));
  }
  last-absent (Some greatest) within some =
      let parts = and_parts (nat_lt greatest bound && not (has (keys_of pairs) greatest)) (is_le (word_order greatest from)) some.0 in
      let there = free_is greatest parts.0 in
      let up_to = leb-true greatest from (sym (is_le_word greatest from) ∙ parts.1) in (
        omega arith,
        record {
          rising = omega arith;
          held = λ word low high. true_or (has (keys_of pairs) word) (λ absent.
              let greatest_is = leb-true word greatest (sym (is_le_word word greatest) ∙ some.1 word
              (and_from _ _ (is_free word (omega arith) absent) (is_le_word word from ∙ le-leb word from (omega arith)))) in
              let never : ⊥ = omega arith in never);
        },
        there.1,
      )

-- ---- a bitmap leaf

top_unit : (width : ℕ) → 1 ≤ width → 256 ^ width ≡ 256 ^ (width - 1) * 256
top_unit zero some = let never : ⊥ = omega arith in absurd never
top_unit (suc width) some = pow-suc 256 width ∙ ap (λ n. 256 ^ n * 256) (let e : width ≡ suc width - 1 = omega arith in e)

-- Its last bytes are among the words of its width, and nothing is behind them just where the skipped bytes are the greatest ones.
pub bits_within : (skipped width : ℕ) → 1 ≤ width → skipped < 256 ^ (width - 1) → skipped * 256 + 256 ≤ 256 ^ width
bits_within skipped width some below = let unit = top_unit width some in omega arith

pub bits_before_end : (skipped width : ℕ) → 1 ≤ width → skipped + 1 < 256 ^ (width - 1) → skipped * 256 + 256 < 256 ^ width
bits_before_end skipped width some below = let unit = top_unit width some in omega arith

pub bits_to_end : (skipped width : ℕ) → 1 ≤ width → skipped < 256 ^ (width - 1) → 256 ^ (width - 1) ≤ skipped + 1 → skipped * 256 + 256 ≡ 256 ^ width
bits_to_end skipped width some below most = let unit = top_unit width some in omega arith

pub bits_fit : (skipped width : ℕ) → 1 ≤ width → width ≤ 8 → skipped < 256 ^ (width - 1) → skipped * 256 + 256 ≤ 2 ^ 64
bits_fit skipped width some narrow below =
    let within = bits_within skipped width some below in
    let most : 256 ^ width ≤ 256 ^ 8 = pow-le-pow_right {n = 256} (omega arith) narrow in
    omega arith

module _ (words skipped width : ℕ) (pairs : Pairs) (map : IsMap words 0 256 pairs) where
  -- A word that doesn't begin with the skipped bytes is no key.
  pub beside_bits : (key : ℕ) → (key < skipped * 256) ⊎ (skipped * 256 + 256 ≤ key) → has (keys_of (shift (skipped * 256) pairs)) key ≡ false
  beside_bits key = ⊎_elim
      (λ below. absent-below words (skipped * 256 + 0) (skipped * 256 + 256) (shift (skipped * 256) pairs) key (omega arith) (map-shift words 0 256 (skipped * 256) pairs map))
      (λ above. absent-above words (skipped * 256 + 0) (skipped * 256 + 256) (shift (skipped * 256) pairs) key above (map-shift words 0 256 (skipped * 256) pairs map))

  -- What the last bytes tell.
  pub bits_run : (from to first last : ℕ) → first ≡ skipped * 256 + from → last ≡ skipped * 256 + to → IsRun pairs from to → IsRun (shift (skipped * 256) pairs) first last
  bits_run from to first last is_first is_last run =
      run-window (shift (skipped * 256) pairs) pairs (skipped * 256) to from to first last is_first is_last (omega arith) (window-shift pairs (skipped * 256) to) run

  pub bits_absent : (byte word : ℕ) → word ≡ skipped * 256 + byte → has (keys_of pairs) byte ≡ false → has (keys_of (shift (skipped * 256) pairs)) word ≡ false
  bits_absent byte word is_word absent = ap (has (keys_of (shift (skipped * 256) pairs))) is_word ∙ (window-shift pairs (skipped * 256) (suc byte)).same byte (omega arith) ∙ absent

-- It is the first empty word of the map.
pub first-empty : (words : ℕ) (pairs : Pairs) (from : ℕ) (answer : Option ℕ) → IsMap words 0 (256 ^ 8) pairs → IsFirstAbsent pairs from (2 ^ 64) answer → answer ≡ first_empty (map_of pairs) from
first-empty words pairs from None map run = sym (first_empty_run_none (map_of pairs) from (λ word low high. held_is words (256 ^ 8) pairs map word ∙ run.held word low high))
first-empty words pairs from (Some least) map some =
    sym (first_empty_run (map_of pairs) from least some.1.rising some.0 (held_is words (256 ^ 8) pairs map least ∙ some.2)
    (λ word low high. held_is words (256 ^ 8) pairs map word ∙ some.1.held word low high))

-- And the last one.
pub last-empty : (words : ℕ) (pairs : Pairs) (from : ℕ) (answer : Option ℕ) → IsMap words 0 (256 ^ 8) pairs → from < 2 ^ 64 → IsLastAbsent pairs 0 (from + 1) answer →
    answer ≡ last_empty (map_of pairs) from
last-empty words pairs from None map small run = sym (last_empty_run_none (map_of pairs) from (λ word low high. held_is words (256 ^ 8) pairs map word ∙ run.held word (omega arith) (omega arith)))
last-empty words pairs from (Some greatest) map small some =
    let rising = some.1.rising in
    sym (last_empty_run (map_of pairs) from greatest (omega arith) (omega arith) (held_is words (256 ^ 8) pairs map greatest ∙ some.2)
    (λ word low high within. held_is words (256 ^ 8) pairs map word ∙ some.1.held word (omega arith) (omega arith)))
