-- Lists of strings that ascend as far as they were read.
use Rattle.std.proofs.Common.{◌≡◌, ◌≢◌, ℕ, zero, suc, ◌+◌, ◌<◌, ◌≤◌, ⊎_elim, true, false, List, [], ◌∷◌, length, drop, get_or, slice_get, option_map, Option, Some, Ordering, Less}
use Rattle.std.proofs.Common.{Equal, Greater, nat_cmp, nat_lt, lt-ltb, refl, sym, ap, subst, ◌∙◌, arith}
use Rattle.std.specs.Cmp.{nat_cmp_is}
use Rattle.std.specs.Ordering.{is_lt, ordering_then}
use Rattle.std.proofs.lemmas.Bool.{cases_lt, le-ltb}
use Rattle.std.proofs.lemmas.List.{drop_all, length-drop}
use Rattle.std.specs.Borrow.{Bor}
use Rattle.std.proofs.lemmas.Option.{same_Some, slice_get-map, slice_get-get_or}
use Rattle.judy_model.specs.Keys.{byte_order}
use Rattle.judy_model.proofs.lemmas.dumps.EntryLemmas.{Ascends}
use Rattle.judy_sl.specs.Pieces.{piece_of, IsText}
use Rattle.judy_sl.proofs.lemmas.pieces.PieceLemmas.{order-piece}
use Rattle.judy_sl.specs.Sorted.{pairs_in, strings_in, GoesOn, Ascend, AscendTo}

module _ (IsKey : List ℕ → Type 0) where
  -- So many of the first strings are keys that strictly ascend, from behind one on and up to a last one.
  abbrev pub Run : Option (List ℕ) → List (List ℕ) → ℕ → Option (List ℕ) → Type 0
  Run before keys zero last = before ≡ last
  Run before [] (suc count) last = ⊥
  Run before (key ∷ keys) (suc count) last = GoesOn IsKey before key × Run (Some key) keys count last

  run-suc : (before : Option (List ℕ)) (keys : List (List ℕ)) (count : ℕ) (last : Option (List ℕ)) (key : List ℕ) → Run before keys count last → slice_get keys count ≡ Some key →
      GoesOn IsKey last key → Run before keys (suc count) (Some key)
  run-suc before [] zero last key run there goes = cc
  run-suc before (one ∷ keys) zero last key run there goes =
      (subst (λ first. GoesOn IsKey first one) (sym run) (subst (GoesOn IsKey last) (sym (same_Some one key there)) goes), there)
  run-suc before [] (suc count) last key run there goes = absurd run
  run-suc before (one ∷ keys) (suc count) last key run there goes = (run.0, run-suc (Some one) keys count last key run.1 there goes)

  -- The next one goes on.
  pub run-more : (before : Option (List ℕ)) (keys : List (List ℕ)) (count : ℕ) (last : Option (List ℕ)) (key : List ℕ) → Run before keys count last →
      slice_get keys count ≡ Some key → GoesOn IsKey last key → Run before keys (count + 1) (Some key)
  run-more before keys count last key run there goes =
      let one_more : suc count ≡ count + 1 = omega arith in
      subst (λ more. Run before keys more (Some key)) one_more (run-suc before keys count last key run there goes)

  -- The next one is so to the last.
  pub run-to : (Is : Option (List ℕ) → List ℕ → Type 0) (before : Option (List ℕ)) (keys : List (List ℕ)) (count : ℕ) (last : Option (List ℕ)) (key : List ℕ) →
      Run before keys count last → slice_get keys count ≡ Some key → Is last key → AscendTo IsKey Is before keys count
  run-to Is before [] zero last key run there is = cc
  run-to Is before (one ∷ keys) zero last key run there is =
      subst (λ first. Is first one) (sym run) (subst (Is last) (sym (same_Some one key there)) is)
  run-to Is before [] (suc count) last key run there is = absurd run
  run-to Is before (one ∷ keys) (suc count) last key run there is = (run.0, run-to Is (Some one) keys count last key run.1 there is)

  -- There is none further.
  pub run-all : (before : Option (List ℕ)) (keys : List (List ℕ)) (count : ℕ) (last : Option (List ℕ)) → Run before keys count last → length keys ≤ count → Ascend IsKey before keys
  run-all before [] count last run all = tt
  run-all before (key ∷ keys) zero last run all = absurd (omega (arith, all))
  run-all before (key ∷ keys) (suc count) last run all = (run.0, run-all (Some key) keys count last run.1 (omega (arith, all)))

-- The string of the pair at a place.
pub string-at : (pairs : List (Bor (List ℕ) × ℕ)) (at : ℕ) (default : Bor (List ℕ) × ℕ) → at < length pairs → slice_get (strings_in pairs) at ≡ Some (get_or pairs at default).0.now
string-at pairs at default within =
    slice_get-map (λ (one : Bor (List ℕ) × ℕ). one.0.now) pairs at
    ∙ ap (option_map (λ (one : Bor (List ℕ) × ℕ). one.0.now)) (slice_get-get_or pairs at default within)

module _ (IsKey : List ℕ → Type 0) where
  -- The pairs ascend as their strings do.
  pub pairs-ascend : (before : Option (List ℕ)) (pairs : List (Bor (List ℕ) × ℕ)) → Ascend IsKey before (strings_in pairs) → Ascends byte_order before (pairs_in pairs)
  pairs-ascend before [] up = tt
  pairs-ascend before (pair ∷ pairs) up = (up.0.1, pairs-ascend (Some pair.0.now) pairs up.1)

  -- Each of their strings is a key.
  pub each-key : (before : Option (List ℕ)) (pairs : List (Bor (List ℕ) × ℕ)) → Ascend IsKey before (strings_in pairs) → (at : ℕ) (default : Bor (List ℕ) × ℕ) →
      at < length pairs → IsKey (get_or pairs at default).0.now
  each-key before [] up at default within = absurd (omega (arith, within))
  each-key before (pair ∷ pairs) up zero default within = up.0.0
  each-key before (pair ∷ pairs) up (suc at) default within = each-key (Some pair.0.now) pairs up.1 at default (omega (arith, within))

-- ---- whether a string is below another, piece by piece

-- Of pieces that differ the lesser one decides.
piece-decides : (p q : ℕ) (later : Ordering) → p ≢ q → nat_lt p q ≡ is_lt (ordering_then (nat_cmp p q) later)
piece-decides p q later differ = ⊎_elim
    (λ less. lt-ltb p q less ∙ ap (λ order. is_lt (ordering_then order later)) (nat_cmp_is p q Less less))
    (λ least. le-ltb p q least ∙ ap (λ order. is_lt (ordering_then order later)) (nat_cmp_is p q Greater (omega (arith, least, differ))))
    (cases_lt p q)

pub below-first : (left right : List ℕ) (p q : ℕ) → IsText left → IsText right → p ≡ piece_of left → q ≡ piece_of right → p ≢ q → nat_lt p q ≡ is_lt (byte_order left right)
below-first left right p q one other p_is q_is differ =
    piece-decides p q (byte_order (drop 8 left) (drop 8 right)) differ
    ∙ (λ i. is_lt (ordering_then (nat_cmp (p_is i) (q_is i)) (byte_order (drop 8 left) (drop 8 right))))
    ∙ ap is_lt (sym (order-piece left right one other))

-- Where they are one, what stands behind them does.
pub behind-first : (left right : List ℕ) (p q : ℕ) → IsText left → IsText right → p ≡ piece_of left → q ≡ piece_of right → p ≡ q → byte_order left right ≡ byte_order (drop 8 left) (drop 8 right)
behind-first left right p q one other p_is q_is same =
    order-piece left right one other
    ∙ ap (λ order. ordering_then order (byte_order (drop 8 left) (drop 8 right))) (sym (nat_cmp_is (piece_of left) (piece_of right) Equal (sym p_is ∙ same ∙ q_is)))

none-below : (bytes : List ℕ) → 0 < length bytes → is_lt (byte_order [] bytes) ≡ true
none-below [] some = absurd (omega (arith, some))
none-below (byte ∷ bytes) some = refl

below-none : (bytes : List ℕ) → is_lt (byte_order bytes []) ≡ false
below-none [] = refl
below-none (byte ∷ bytes) = refl

-- Nothing stands behind the first piece of one of them.
pub left-ends : (left right : List ℕ) → length left ≤ 8 → nat_lt 8 (length right) ≡ is_lt (byte_order (drop 8 left) (drop 8 right))
left-ends left right short =
    let more = length-drop 8 right in
    ⊎_elim
    (λ long. lt-ltb 8 (length right) long ∙ sym (none-below (drop 8 right) (omega (arith, long, more))))
    (λ few. le-ltb 8 (length right) few ∙ (λ i. is_lt (byte_order [] (sym (drop_all 8 right few) i))))
    (cases_lt 8 (length right))
    ∙ (λ i. is_lt (byte_order (sym (drop_all 8 left short) i) (drop 8 right)))

pub right-ends : (left right : List ℕ) → length right ≤ 8 → false ≡ is_lt (byte_order (drop 8 left) (drop 8 right))
right-ends left right short = sym (below-none (drop 8 left)) ∙ (λ i. is_lt (byte_order (drop 8 left) (sym (drop_all 8 right short) i)))
