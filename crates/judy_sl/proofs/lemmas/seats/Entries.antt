-- What a change of an entry, or of a tail, makes of the look-ups.
use Rattle.std.proofs.Common.{◌≡◌, ◌≢◌, ℕ, suc, List, [], ◌∷◌, ◌++◌, Option, None, Some, inl, inr, refl, sym, ap, subst, ◌∙◌}
use Rattle.std.proofs.lemmas.List.{append_assoc}
use Rattle.std.proofs.lemmas.Bool.{cases_eq}
use Rattle.std.specs.FinMap.{FinMap, get}
use Rattle.judy_model.specs.Keys.{word_order}
use Rattle.judy_sl.specs.Pieces.{ArePieces, AreInner, IsFinal}
use Rattle.judy_sl.specs.World.{World, gone, tail, level, at_entry, lookup, walk}
use Rattle.judy_sl.specs.WorldInvariants.{IsWorld, FitsBehind}
use Rattle.judy_sl.proofs.lemmas.pieces.Ways.{look_in, tail-same, tail-other}
use Rattle.judy_sl.proofs.lemmas.seats.Frames.{frame-below}
use Rattle.judy_sl.proofs.lemmas.seats.Changes.{changes, longer}
use Rattle.judy_sl.specs.Grown.{IsChange}

module _ (world other : World) (behind : ℕ → List ℕ) (is : IsWorld world behind) (root : FinMap word_order ℕ) (root_is : world 0 ≡ level root) (front : List ℕ)
    (inner : AreInner front) (seat : ℕ) (way : walk world 0 front ≡ Some seat) (apart : (at : ℕ) → world at ≢ gone → behind at ≢ front → other at ≡ world at) where
  -- A tail with another value.
  pub changes_tail : (piece : ℕ) (held : List ℕ) (was value : ℕ) → world seat ≡ tail (piece ∷ held) was → other seat ≡ tail (piece ∷ held) value →
      IsChange world other (front ++ piece ∷ held) (Some value)
  changes_tail piece held was value before after =
      changes world other behind is root root_is front inner seat way apart piece held (Some value) (ap (λ node. look_in other node (piece ∷ held)) after ∙
      tail-same other (piece ∷ held) value (λ e. cc)) (λ p rest are ne.
      ap (λ node. look_in other node (p ∷ rest)) after
      ∙ tail-other other (piece ∷ held) (p ∷ rest) value (λ e. ne (sym e))
      ∙ sym (ap (λ node. look_in world node (p ∷ rest)) before ∙ tail-other world (piece ∷ held) (p ∷ rest) was (λ e. ne (sym e))))

  -- A level whose entries differ under one piece.
  module _ (behind_is : behind seat ≡ front) (map changed : FinMap word_order ℕ) (before : world seat ≡ level map) (after : other seat ≡ level changed) (piece : ℕ)
      (same : (p : ℕ) → p ≢ piece → get changed p ≡ get map p) where
    entry-other : (p : ℕ) (rest : List ℕ) → ArePieces (p ∷ rest) → p ≢ piece → look_in other (other seat) (p ∷ rest) ≡ look_in world (world seat) (p ∷ rest)
    entry-other p rest are ne =
        let fits : FitsBehind world behind front map = subst (λ place. FitsBehind world behind place map) behind_is (is.levels seat map before) in
        ap (λ node. look_in other node (p ∷ rest)) after
        ∙ ap (λ o. at_entry o rest (λ at. lookup other (suc at) rest)) (same p ne)
        ∙ frame-below world other behind is (λ place. place ≡ front) apart front map fits p rest are
        (λ some more e hit. longer front (p ∷ some) (λ nil. cc) (sym (append_assoc front (p ∷ []) some) ∙ hit))
        ∙ sym (ap (λ node. look_in world node (p ∷ rest)) before)

    -- A value under a final piece.
    pub changes_value : (value : Option ℕ) → IsFinal piece → get changed piece ≡ value → IsChange world other (front ++ piece ∷ []) value
    changes_value value final entry =
        changes world other behind is root root_is front inner seat way apart piece [] value (ap (λ node. look_in other node (piece ∷ [])) after ∙
        ap (λ o. at_entry o [] (λ at. lookup other (suc at) [])) entry ∙ at-end value) (λ p rest are ne. elim (cases_eq p piece) [
          | inl e ↦ absurd (only p rest are ne e)
          | inr off ↦ entry-other p rest are off
        ])
      where
        at-end : (o : Option ℕ) → at_entry o [] (λ at. lookup other (suc at) []) ≡ o
        at-end None = refl
        at-end (Some v) = refl

        only : (p : ℕ) (rest : List ℕ) → ArePieces (p ∷ rest) → p ∷ rest ≢ piece ∷ [] → p ≡ piece → ⊥
        only p [] are ne e = ne (λ i. e i ∷ [])
        only p (next ∷ rest) are ne e = are.0 (subst IsFinal (sym e) final)

    -- Another answer behind an inner piece, for one key.
    pub changes_behind : (held : List ℕ) (new : Option ℕ) → held ≢ [] → look_in other (level changed) (piece ∷ held) ≡ new →
        ((rest : List ℕ) → ArePieces (piece ∷ rest) → rest ≢ held → look_in other (level changed) (piece ∷ rest) ≡ look_in world (level map) (piece ∷ rest)) →
        IsChange world other (front ++ piece ∷ held) new
    changes_behind held new some found others =
        changes world other behind is root root_is front inner seat way apart piece held new (ap (λ node. look_in other node (piece ∷ held)) after ∙ found) (λ p rest are ne. elim (cases_eq p piece) [
          | inl e ↦
              let are_here : ArePieces (piece ∷ rest) = subst (λ q. ArePieces (q ∷ rest)) e are in
              let off : rest ≢ held = (λ same_rest. ne (λ i. e i ∷ same_rest i)) in
              ap (λ q. look_in other (other seat) (q ∷ rest)) e
              ∙ ap (λ node. look_in other node (piece ∷ rest)) after
              ∙ others rest are_here off
              ∙ sym (ap (λ node. look_in world node (piece ∷ rest)) before)
              ∙ ap (λ q. look_in world (world seat) (q ∷ rest)) (sym e)
          | inr off ↦ entry-other p rest are off
        ])
