-- The pairs of a map from a key on.
use Rattle.std.proofs.Common.{◌≡◌, ℕ, ◌+◌, ◌^◌, ◌<◌, ◌≤◌, ◌⊎◌, inl, inr, ⊎_elim, Bool, true, false, cond, []}
use Rattle.std.proofs.Common.{◌∷◌, map, length, filter, drop, append-nil, Option, None, is_some, IsTrue, refl, sym, ap, ◌∙◌, subst, arith}
use Rattle.std.proofs.lemmas.Bool.{lt-leb, leb-true, leb-false, ltb-true, ltb-false, le-ltb}
use Rattle.std.proofs.Math.Dec.{leb}
use Rattle.std.specs.Ordering.{is_lt, is_le}
use Rattle.std.specs.FinMap.{find, entries, get-entries}
use Rattle.judy_model.specs.Keys.{word_order}
use Rattle.judy_model.specs.Counts as counts
use Rattle.judy_model.proofs.lemmas.maps.MapsOfPairs.{rank-is}
use Rattle.judy_model.proofs.lemmas.orders.WordOrder.{is_le_word, is_lt_word, le_word}
use Rattle.judy_node.specs.Trees.{IsMap}
use Rattle.judy_query.specs.Maps.{map_of}
use Rattle.judy_word.proofs.IterFacts.{entries_are}
use Rattle.judy_combine.specs.Merges.{Pairs, Ascends}
use Rattle.judy_sets.specs.Pages.{AreWords, IsFrom}
use Rattle.judy_combine.proofs.Finds.{same_or, find-apart, find-below, ascends-drop}
use Rattle.judy_sets.proofs.Lengths.{entries_ascend}

-- How many keys are below a word.
abbrev pub below : ℕ → Pairs → ℕ
below from pairs = length (filter (λ other. is_lt (word_order other from)) (map (λ (e : ℕ × ℕ). e.0) pairs))

none_below : (from low : ℕ) (pairs : Pairs) → from ≤ low → Ascends low pairs → below from pairs ≡ 0
none_below from low [] less up = refl
none_below from low (pair ∷ pairs) less up =
    let first = up.0 in
    ap (λ b. length (cond b (pair.0 ∷ filter (λ other. is_lt (word_order other from)) (map (λ (e : ℕ × ℕ). e.0) pairs))
    (filter (λ other. is_lt (word_order other from)) (map (λ (e : ℕ × ℕ). e.0) pairs))))
    (is_lt_word pair.0 from ∙ le-ltb pair.0 from (omega (arith, first, less)))
    ∙ none_below from (pair.0 + 1) pairs (omega (arith, first, less)) up.1

-- A key at or above it is found among all, one below it is none of them.
at_least : (from key : ℕ) (held : Option ℕ) → (key < from → held ≡ None) → cond (is_le (word_order from key)) held None ≡ held
at_least from key held none = ⊎_elim
    (λ (low : from ≤ key). ap (λ t. cond t held None) (le_word from key low))
    (λ (high : key < from). ap (λ t. cond t held None) (is_le_word from key ∙ lt-leb from key high) ∙ sym (none high))
    (two_ways from key)
  where
    two_ways : (a b : ℕ) → (a ≤ b) ⊎ (b < a)
    two_ways a b = elim (leb a b) as (λ t. leb a b ≡ t → (a ≤ b) ⊎ (b < a)) [ true ↦ λ e. inl (leb-true a b e) | false ↦ λ e. inr (leb-false a b e) ] refl

pub find-from : (from low key : ℕ) (pairs : Pairs) → Ascends low pairs → find word_order key (drop (below from pairs) pairs) ≡ cond (is_le (word_order from key)) (find word_order key pairs) None
find-from from low key [] up = sym (nothing (is_le (word_order from key)))
  where
    none : Option ℕ
    none = None

    nothing : (b : Bool) → cond b none none ≡ none
    nothing true = refl
    nothing false = refl
find-from from low key (pair ∷ pairs) up = by_first (is_lt (word_order pair.0 from)) refl (find-from from (pair.0 + 1) key pairs up.1)
  where
    not_lower : is_lt (word_order pair.0 from) ≡ false → from ≤ pair.0
    not_lower off = ltb-false pair.0 from (sym (is_lt_word pair.0 from) ∙ off)

    by_first : (b : Bool) → is_lt (word_order pair.0 from) ≡ b
        → find word_order key (drop (below from pairs) pairs) ≡ cond (is_le (word_order from key)) (find word_order key pairs) None
        → find word_order key (drop (below from (pair ∷ pairs)) (pair ∷ pairs)) ≡ cond (is_le (word_order from key)) (find word_order key (pair ∷ pairs)) None
    by_first true is rest =
        let lower = ltb-true pair.0 from (sym (is_lt_word pair.0 from) ∙ is) in
        ap (λ b. find word_order key (drop (length (cond b (pair.0 ∷ filter (λ other. is_lt (word_order other from)) (map (λ (e : ℕ × ℕ). e.0) pairs)) (filter (λ other. is_lt (word_order other from))
        (map (λ (e : ℕ × ℕ). e.0) pairs)))) (pair ∷ pairs))) is
        ∙ rest
        ∙ ⊎_elim
        (λ (same : key ≡ pair.0). let past = is_le_word from key ∙ lt-leb from key (omega (arith, same, lower)) in
        ap (λ b. cond b (find word_order key pairs) None) past ∙ sym (ap (λ b. cond b (find word_order key (pair ∷ pairs)) None) past))
        (λ apart. ap (λ (o : Option ℕ). cond (is_le (word_order from key)) o None) (sym (find-apart key pair pairs apart)))
        (same_or key pair.0)
    by_first false is rest =
        let first : from ≤ pair.0 = not_lower is in
        ap (λ n. find word_order key (drop n (pair ∷ pairs))) (none_below from pair.0 (pair ∷ pairs) first (omega arith, up.1))
        ∙ sym (at_least from key (find word_order key (pair ∷ pairs)) (λ under. find-below key pair.0 (pair ∷ pairs) (omega (arith, under, first)) (omega arith, up.1)))

bounded : (words low top key : ℕ) (pairs : Pairs) → IsMap words low top pairs → IsTrue (is_some (find word_order key pairs)) → key < top
bounded words low top key [] map here = absurd cc
bounded words low top key (pair ∷ pairs) map here = ⊎_elim
    (λ (same : key ≡ pair.0). let less = map.1 in omega (arith, same, less))
    (λ apart. bounded words (pair.0 + 1) top key pairs map.3 (subst (λ (o : Option ℕ). IsTrue (is_some o)) (find-apart key pair pairs apart) here))
    (same_or key pair.0)

pub is_from : (words from : ℕ) (pairs : Pairs) → IsMap words 0 (256 ^ 8) pairs → (rest : Pairs) → rest ≡ drop (counts.rank (map_of pairs) from) (entries (map_of pairs))
    → IsFrom from (map_of pairs) rest
is_from words from pairs map rest is = record {
  up = subst (Ascends 0) (sym is) (from_all (counts.rank (map_of pairs) from) (entries (map_of pairs)) (entries_ascend (map_of pairs)));
  found = λ key. ap (find word_order key) (is ∙ ap (λ n. drop n (entries (map_of pairs))) (rank-is (map_of pairs) from))
      ∙ find-from from 0 key (entries (map_of pairs)) (entries_ascend (map_of pairs))
      ∙ ap (λ (o : Option ℕ). cond (is_le (word_order from key)) o None) (sym (get-entries (map_of pairs) key));
}
  where
    from_all : (n : ℕ) (all : Pairs) → Ascends 0 all → Ascends 0 (drop n all)
    from_all n all up = subst (Ascends 0) (append-nil (drop n all)) (ascends-drop 0 n all [] (subst (Ascends 0) (sym (append-nil all)) up))

pub are_words : (words : ℕ) (pairs : Pairs) → IsMap words 0 (256 ^ 8) pairs → AreWords (map_of pairs)
are_words words pairs map key here =
    let less = bounded words 0 (256 ^ 8) key pairs map (subst (λ (o : Option ℕ). IsTrue (is_some o))
    (get-entries (map_of pairs) key ∙ ap (find word_order key) (entries_are words (256 ^ 8) pairs map)) here) in
    omega (arith, less)
