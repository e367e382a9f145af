-- What stays where one seat changes.
use Rattle.std.proofs.Common.{◌≡◌, ◌≢◌, ℕ, suc, List, [], ◌∷◌, ◌++◌, Option, None, Some, refl, sym, ap, subst, ◌∙◌}
use Rattle.std.proofs.lemmas.List.{append-nil, append_assoc}
use Rattle.std.specs.FinMap.{FinMap, get}
use Rattle.judy_model.specs.Keys.{word_order}
use Rattle.judy_sl.specs.Pieces.{ArePieces}
use Rattle.judy_sl.specs.World.{World, Node, gone, tail, level, at_entry, lookup}
use Rattle.judy_sl.specs.WorldInvariants.{IsWorld, FitsBehind}
use Rattle.judy_sl.proofs.lemmas.pieces.Ways.{look_in}

module _ (world other : World) (behind : ℕ → List ℕ) (is : IsWorld world behind) (Hit : List ℕ → Type 0)
    (apart : (seat : ℕ) → world seat ≢ gone → (Hit (behind seat) → ⊥) → other seat ≡ world seat) where
  -- No level on the way of the pieces from there is hit.
  abbrev pub Misses : List ℕ → List ℕ → Type 0
  Misses place ps = (front rest : List ℕ) → ps ≡ front ++ rest → Hit (place ++ front) → ⊥

  here : (place ps : List ℕ) → Misses place ps → Hit place → ⊥
  here place ps misses hit = misses [] ps refl (subst Hit (sym (append-nil place)) hit)

  below : (place : List ℕ) (piece : ℕ) (ps : List ℕ) → Misses place (piece ∷ ps) → Misses (place ++ piece ∷ []) ps
  below place piece ps misses front rest e hit = misses (piece ∷ front) rest (ap (λ l. piece ∷ l) e) (subst Hit (append_assoc place (piece ∷ []) front) hit)

  -- Behind an entry of a level the same is found, where that holds behind each seat to which it may lead.
  on-entry : (place : List ℕ) (map : FinMap word_order ℕ) → FitsBehind world behind place map → (piece : ℕ) (rest : List ℕ) → ArePieces (piece ∷ rest) →
      ((at : ℕ) → ArePieces rest → behind (suc at) ≡ place ++ piece ∷ [] → world (suc at) ≢ gone → lookup other (suc at) rest ≡ lookup world (suc at) rest) →
      (entry : Option ℕ) → get map piece ≡ entry → at_entry entry rest (λ at. lookup other (suc at) rest) ≡ at_entry entry rest (λ at. lookup world (suc at) rest)
  on-entry place map fits piece rest are goes None e = refl
  on-entry place map fits piece [] are goes (Some at) e = refl
  on-entry place map fits piece (next ∷ rest) are goes (Some at) e =
      let leads = fits.leads piece at e are.0 in
      goes at are.1 leads.0 leads.1

  -- The same at a node.
  on-node : (seat : ℕ) (node : Node) → world seat ≡ node → (piece : ℕ) (rest : List ℕ) → ArePieces (piece ∷ rest) →
      ((at : ℕ) → ArePieces rest → behind (suc at) ≡ behind seat ++ piece ∷ [] → world (suc at) ≢ gone → lookup other (suc at) rest ≡ lookup world (suc at) rest) →
      look_in other node (piece ∷ rest) ≡ look_in world node (piece ∷ rest)
  on-node seat gone e piece rest are goes = refl
  on-node seat (tail held value) e piece rest are goes = refl
  on-node seat (level map) e piece rest are goes = on-entry (behind seat) map (is.levels seat map e) piece rest are goes (get map piece) refl

  -- A look-up that misses what changes finds the same.
  pub frame : (seat : ℕ) (ps : List ℕ) → ArePieces ps → world seat ≢ gone → Misses (behind seat) ps → lookup other seat ps ≡ lookup world seat ps
  frame seat [] are some misses = refl
  frame seat (piece ∷ rest) are some misses =
      ap (λ node. look_in other node (piece ∷ rest)) (apart seat some (here (behind seat) (piece ∷ rest) misses))
      ∙ on-node seat (world seat) refl piece rest are (λ at more leads some_at. frame (suc at) rest more some_at (subst (λ p. Misses p rest) (sym leads) (below (behind seat) piece rest misses)))

  -- The same behind the entries of a level that is hit itself.
  pub frame-below : (place : List ℕ) (map : FinMap word_order ℕ) → FitsBehind world behind place map → (piece : ℕ) (rest : List ℕ) → ArePieces (piece ∷ rest) →
      Misses (place ++ piece ∷ []) rest → look_in other (level map) (piece ∷ rest) ≡ look_in world (level map) (piece ∷ rest)
  frame-below place map fits piece rest are misses =
      on-entry place map fits piece rest are (λ at more leads some. frame (suc at) rest more some (subst (λ p. Misses p rest) (sym leads) misses)) (get map piece) refl
