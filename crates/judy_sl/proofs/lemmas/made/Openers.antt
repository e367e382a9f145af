-- The pairs whose strings open a first piece, and the others: all there are.
use Rattle.std.proofs.Common.{◌≡◌, ℕ, ◌+◌, ◌<◌, nat_le, nat_lt, ltb-true, Bool, true, false, ◌&&◌, true≢false, if◌then◌else◌, List, [], ◌∷◌, ◌++◌, length, get_or, drop, ◌⊎◌, inl}
use Rattle.std.proofs.Common.{inr, ⊎_elim, refl, sym, ap, ◌∙◌}
use Rattle.std.specs.Borrow.{Bor}
use Rattle.std.proofs.lemmas.List.{at_drop_more}
use Rattle.std.specs.FinMap.{FinMap, insert}
use Rattle.judy_model.specs.Keys.{byte_order}
use Rattle.judy_model.proofs.lemmas.maps.Ascending.{Among}
use Rattle.judy_sl.specs.Pieces.{piece_of}
use Rattle.judy_sl.specs.Planted.{opens, openers, followers}
use Rattle.judy_sl.specs.Sorted.{pairs_in, with_pairs}

abbrev Pair : Type 0
Pair = List ℕ × ℕ

among_front : (xs ys : List Pair) (pair : Pair) → Among xs pair → Among (xs ++ ys) pair
among_front [] ys pair here = absurd here
among_front (x ∷ xs) ys pair here = ⊎_elim (λ e. inl e) (λ later. inr (among_front xs ys pair later)) here

among_back : (xs ys : List Pair) (pair : Pair) → Among ys pair → Among (xs ++ ys) pair
among_back [] ys pair here = here
among_back (x ∷ xs) ys pair here = inr (among_back xs ys pair here)

among_either : (xs ys : List Pair) (pair : Pair) → Among (xs ++ ys) pair → Among xs pair ⊎ Among ys pair
among_either [] ys pair here = inr here
among_either (x ∷ xs) ys pair here = ⊎_elim (λ e. inl (inl e)) (λ later. ⊎_elim (λ front. inl (inr front)) (λ back. inr back) (among_either xs ys pair later)) here

-- Each pair opens a first piece, or is one of the others,
pub opens_or_follows : (pairs : List Pair) (low : ℕ) (pair : Pair) → Among pairs pair → Among (openers low pairs ++ followers low pairs) pair
opens_or_follows [] low pair here = absurd here
opens_or_follows (one ∷ pairs) low pair here =
    elim (opens low one.0) as (λ b. Among ((if b then one ∷ openers (piece_of one.0) pairs else openers low pairs) ++
    (if b then followers (piece_of one.0) pairs else one ∷ followers low pairs)) pair) [
      | true ↦ ⊎_elim (λ e. inl e) (λ later. inr (opens_or_follows pairs (piece_of one.0) pair later)) here
      | false ↦ ⊎_elim
          (λ e. among_back (openers low pairs) (one ∷ followers low pairs) pair (inl e))
          (λ later. ⊎_elim
          (λ front. among_front (openers low pairs) (one ∷ followers low pairs) pair front)
          (λ back. among_back (openers low pairs) (one ∷ followers low pairs) pair (inr back))
          (among_either (openers low pairs) (followers low pairs) pair (opens_or_follows pairs low pair later)))
          here
    ]

-- and there are no further ones.
pub opener_or_follower : (pairs : List Pair) (low : ℕ) (pair : Pair) → Among (openers low pairs ++ followers low pairs) pair → Among pairs pair
opener_or_follower [] low pair here = here
opener_or_follower (one ∷ pairs) low pair here =
    elim (opens low one.0) as (λ b. Among ((if b then one ∷ openers (piece_of one.0) pairs else openers low pairs) ++
    (if b then followers (piece_of one.0) pairs else one ∷ followers low pairs)) pair → Among (one ∷ pairs) pair) [
      | true ↦ λ among. ⊎_elim (λ e. inl e) (λ later. inr (opener_or_follower pairs (piece_of one.0) pair later)) among
      | false ↦ λ among. ⊎_elim
          (λ front. inr (opener_or_follower pairs low pair (among_front (openers low pairs) (followers low pairs) pair front)))
          (λ back. ⊎_elim
          (λ e. inl e)
          (λ later. inr (opener_or_follower pairs low pair (among_back (openers low pairs) (followers low pairs) pair later)))
          back)
          (among_either (openers low pairs) (one ∷ followers low pairs) pair among)
    ] here

-- To write pairs and then others is to write them all.
pub written-append : (pairs others : List Pair) (map : FinMap byte_order ℕ) → with_pairs map (pairs ++ others) ≡ with_pairs (with_pairs map pairs) others
written-append [] others map = refl
written-append (pair ∷ pairs) others map = written-append pairs others (insert map pair.0 pair.1)

-- ---- the pair at a place, where those before it are done

pub opens-above : (low : ℕ) (key : List ℕ) → opens low key ≡ true → low < piece_of key
opens-above low key is = ltb-true low (piece_of key) (second (nat_le 8 (length key)) (nat_lt low (piece_of key)) is)
  where
    second : (a b : Bool) → (a && b) ≡ true → b ≡ true
    second true b both = both
    second false b both = absurd (true≢false (sym both))

module _ (pairs : List (Bor (List ℕ) × ℕ)) (at : ℕ) (default : Bor (List ℕ) × ℕ) (within : at < length pairs) (low : ℕ) where
  abbrev one : Bor (List ℕ) × ℕ
  one = get_or pairs at default

  abbrev rest : List Pair
  rest = pairs_in (drop (at + 1) pairs)

  -- It opens a first piece,
  module _ (is : opens low one.0.now ≡ true) where
    pub opened : (map : FinMap byte_order ℕ) → with_pairs (insert map one.0.now one.1) (openers (piece_of one.0.now) rest) ≡ with_pairs map (openers low (pairs_in (drop at pairs)))
    opened map =
        sym (ap (with_pairs map) (
        at_drop_more (λ (left : List (Bor (List ℕ) × ℕ)). openers low (pairs_in left)) pairs at default within
        ∙ ap (λ b. if b then (one.0.now, one.1) ∷ openers (piece_of one.0.now) rest else openers low rest) is
        ))

  -- or is another one.
  module _ (is : opens low one.0.now ≡ false) where
    pub passed : openers low rest ≡ openers low (pairs_in (drop at pairs))
    passed =
        sym (
        at_drop_more (λ (left : List (Bor (List ℕ) × ℕ)). openers low (pairs_in left)) pairs at default within
        ∙ ap (λ b. if b then (one.0.now, one.1) ∷ openers (piece_of one.0.now) rest else openers low rest) is
        )
