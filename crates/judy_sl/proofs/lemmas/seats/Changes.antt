-- What a change at one seat makes of the look-ups.
use Rattle.std.proofs.Common.{◌≡◌, ◌≢◌, ℕ, suc, List, [], ◌∷◌, ◌++◌, Option, Some, ◌⊎◌, inl, inr, refl, sym, ap, subst, ◌∙◌}
use Rattle.std.proofs.lemmas.List.{append-nil, append_assoc, append_cancel_left}
use Rattle.std.proofs.lemmas.Bool.{cases_eq}
use Rattle.std.specs.FinMap.{FinMap}
use Rattle.judy_model.specs.Keys.{word_order}
use Rattle.judy_sl.specs.Pieces.{ArePieces, AreInner}
use Rattle.judy_sl.specs.World.{World, gone, level, lookup, step_node, step_entry, walk}
use Rattle.judy_sl.specs.WorldInvariants.{IsWorld}
use Rattle.judy_sl.specs.Grown.{IsChange}
use Rattle.judy_sl.proofs.lemmas.pieces.Ways.{look_in, lookup-walk, step-parts}
use Rattle.judy_sl.proofs.lemmas.seats.Frames.{frame}

-- Pieces begin with others, or they don't.
pub split-front : (front ps : List ℕ) → ((rest : List ℕ) × (ps ≡ front ++ rest)) ⊎ ((rest : List ℕ) → ps ≢ front ++ rest)
split-front [] ps = inl (ps, refl)
split-front (first ∷ front) [] = inr (λ rest e. cc)
split-front (first ∷ front) (piece ∷ ps) =
    elim (cases_eq piece first) [
      | inl e ↦ elim (split-front front ps) [
        | inl parts ↦ inl (parts.0, (λ i. e i ∷ parts.1 i))
        | inr off ↦ inr (λ rest same. off rest (cc))
      ]
      | inr apart ↦ inr (λ rest same. apart (cc))
    ]

-- Behind inner pieces stand pieces.
pub pieces-behind : (front rest : List ℕ) → AreInner front → ArePieces (front ++ rest) → ArePieces rest
pieces-behind [] rest inner are = are
pieces-behind (first ∷ []) [] inner are = inner.0 are
pieces-behind (first ∷ []) (piece ∷ rest) inner are = are.1
pieces-behind (first ∷ second ∷ front) rest inner are = pieces-behind (second ∷ front) rest inner.1 are.1

-- No list is itself and more.
pub longer : (front more : List ℕ) → more ≢ [] → front ++ more ≢ front
longer front more some e = some (append_cancel_left front more [] (e ∙ sym (append-nil front)))

module _ (world other : World) (behind : ℕ → List ℕ) (is : IsWorld world behind) (root : FinMap word_order ℕ) (root_is : world 0 ≡ level root) (front : List ℕ)
    (inner : AreInner front) (seat : ℕ) (way : walk world 0 front ≡ Some seat) (apart : (at : ℕ) → world at ≢ gone → behind at ≢ front → other at ≡ world at) where
  -- A way to the seat of the change stays.
  walk-stays : (at : ℕ) (rest : List ℕ) → behind at ++ rest ≡ front → AreInner rest → (end : ℕ) → walk world at rest ≡ Some end → walk other at rest ≡ Some end
  walk-stays at [] e are end on = on
  walk-stays at (piece ∷ rest) e are end on =
      let step = step-parts (world at) piece (λ found. walk world (suc found) rest) end on in
      let some : world at ≢ gone = (λ none. cc (step.is)) in
      let short : behind at ≢ front = (λ same. longer (behind at) (piece ∷ rest) (λ nil. cc) (e ∙ sym same)) in
      let leads = (is.levels at step.map step.is).leads piece step.found step.entry are.0 in
      ap (λ node. step_node node piece (λ found. walk other (suc found) rest)) (apart at some short ∙ step.is)
      ∙ ap (λ o. step_entry o (λ found. walk other (suc found) rest)) step.entry
      ∙ walk-stays (suc step.found) rest (ap (λ place. place ++ rest) leads.0 ∙ append_assoc (behind at) (piece ∷ []) rest ∙ e) are.1 end step.goes

  pub way-stays : walk other 0 front ≡ Some seat
  way-stays = walk-stays 0 front (ap (λ place. place ++ front) is.first) inner seat way

  -- What is not behind the pieces of the seat is found as before.
  off-front : (ps : List ℕ) → ArePieces ps → ((rest : List ℕ) → ps ≢ front ++ rest) → lookup other 0 ps ≡ lookup world 0 ps
  off-front ps are off =
      frame world other behind is (λ place. place ≡ front) apart 0 ps are (λ none. cc (root_is)) (λ some rest e hit. off rest
      (e ∙ ap (λ place. place ++ rest) (sym (ap (λ place. place ++ some) is.first) ∙ hit)))

  -- The seat alone decides the change.
  pub changes : (piece : ℕ) (held : List ℕ) (new : Option ℕ) → look_in other (other seat) (piece ∷ held) ≡ new →
      ((p : ℕ) (rest : List ℕ) → ArePieces (p ∷ rest) → p ∷ rest ≢ piece ∷ held → look_in other (other seat) (p ∷ rest) ≡ look_in world (world seat) (p ∷ rest)) →
      IsChange world other (front ++ piece ∷ held) new
  changes piece held new found same = record {
    at_key = lookup-walk other 0 front seat piece held way-stays ∙ found;
    elsewhere = λ ps are ne. elim (split-front front ps) [
      | inl parts ↦ behind-front parts.0 ps parts.1 are ne
      | inr off ↦ off-front ps are off
    ];
  } where
    behind-front : (rest ps : List ℕ) → ps ≡ front ++ rest → ArePieces ps → ps ≢ front ++ piece ∷ held → lookup other 0 ps ≡ lookup world 0 ps
    behind-front [] ps e are ne = absurd (pieces-behind front [] inner (subst ArePieces e are))
    behind-front (p ∷ rest) ps e are ne =
        ap (lookup other 0) e
        ∙ lookup-walk other 0 front seat p rest way-stays
        ∙ same p rest (pieces-behind front (p ∷ rest) inner (subst ArePieces e are)) (λ same_rest. ne (e ∙ ap (λ l. front ++ l) same_rest))
        ∙ sym (lookup-walk world 0 front seat p rest way)
        ∙ sym (ap (lookup world 0) e)
