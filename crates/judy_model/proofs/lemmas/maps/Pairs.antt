-- Pairs whose keys strictly ascend: where a key stands among them, and what a put or a removal there leaves.
use Rattle.std.proofs.Common.{◌≡◌, ℕ, zero, suc, ◌<◌, cond, T, List, [], ◌∷◌, length, get_or, Some, Less, Equal, Greater, sym, ap, ◌∙◌, arith}
use Rattle.std.specs.declared.cmp.Ordering.{Ordering}
use Rattle.std.specs.Ordering.{is_eq, ordering_reverse}
use Rattle.std.specs.Cmp.{IsTotalOrder, alike_right, tied_back}
use Rattle.std.specs.FinMap.Entries.{find, is_sorted, below_all}
use Rattle.judy_model.proofs.lemmas.maps.Tests.{left_of, right_of, is_Less}

module _ {K X : Type 0} (order : K → K → Ordering) where
  -- The first key of pairs in order is below the others.
  pub first_below : (pair : K × X) (pairs : List (K × X)) → T (is_sorted order (pair ∷ pairs)) → T (below_all order pair.0 pairs)
  first_below pair pairs h = left_of _ _ h

  -- The others are in order too.
  pub rest_sorted : (pair : K × X) (pairs : List (K × X)) → T (is_sorted order (pair ∷ pairs)) → T (is_sorted order pairs)
  rest_sorted pair pairs h = right_of _ _ h

module _ {K : Type 0} (order : K → K → Ordering) (total : IsTotalOrder order) where
  -- A comparison turned round.
  pub turned_Less : (k q : K) → order k q ≡ Less → order q k ≡ Greater
  turned_Less k q e = total.antisymm q k ∙ ap ordering_reverse e

  -- And the other way.
  pub turned_Greater : (k q : K) → order k q ≡ Greater → order q k ≡ Less
  turned_Greater k q e = total.antisymm q k ∙ ap ordering_reverse e

module _ {K X : Type 0} (order : K → K → Ordering) (total : IsTotalOrder order) where
  -- A key below all the keys of a list is below the one at each place.
  pub below_all-at : (k : K) (pairs : List (K × X)) (at : ℕ) (d : K × X) → T (below_all order k pairs) → at < length pairs → order k (get_or pairs at d).0 ≡ Less
  below_all-at k [] at d h within = absurd (omega arith)
  below_all-at k (pair ∷ pairs) zero d h within = is_Less _ (left_of _ _ h)
  below_all-at k (pair ∷ pairs) (suc at) d h within = below_all-at k pairs at d (right_of _ _ h) (omega arith)

  -- Where the key stands further on, the first pair has a smaller one.
  pub head_below : (key : K) (pair : K × X) (pairs : List (K × X)) (at : ℕ) (d : K × X) → T (is_sorted order (pair ∷ pairs)) → at < length pairs →
      order (get_or pairs at d).0 key ≡ Equal → order key pair.0 ≡ Greater
  head_below key pair pairs at d h within e =
      turned_Less order total pair.0 key (sym (alike_right total (get_or pairs at d).0 key pair.0 e) ∙ below_all-at pair.0 pairs at d (left_of _ _ h) within)

  -- The key at a place is found, with the value that stands there.
  pub find-at : (pairs : List (K × X)) (key : K) (at : ℕ) (d : K × X) → T (is_sorted order pairs) → at < length pairs → order (get_or pairs at d).0 key ≡ Equal →
      find order key pairs ≡ Some (get_or pairs at d).1
  find-at [] key at d h within e = absurd (omega arith)
  find-at (pair ∷ pairs) key zero d h within e =
      ap (λ r. cond (is_eq r) (Some pair.1) (find order key pairs)) (tied_back total pair.0 key e)
  find-at (pair ∷ pairs) key (suc at) d h within e =
      let inside : at < length pairs = omega arith in
      ap (λ r. cond (is_eq r) (Some pair.1) (find order key pairs)) (head_below key pair pairs at d h inside e)
      ∙ find-at pairs key at d (right_of _ _ h) inside e
