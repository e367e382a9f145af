-- The seats with another node at one of them.
use Rattle.std.proofs.Common.{◌≡◌, ◌≢◌, ℕ, zero, suc, ◌==◌, cond, List, ◌++◌, inl, inr, sym, ap, subst, ◌∙◌, arith, eq-eqb}
use Rattle.std.proofs.lemmas.Bool.{cases_eq, ne_eqb}
use Rattle.std.specs.FinMap.{FinMap, empty}
use Rattle.judy_model.specs.Keys.{word_order}
use Rattle.judy_sl.specs.Pieces.{SpellKey}
use Rattle.judy_sl.specs.World.{World, Node, gone, tail, level}
use Rattle.judy_sl.specs.WorldInvariants.{IsWorld, FitsBehind}

-- The seats with another node at one of them.
abbrev pub set_node : World → ℕ → Node → World
set_node world at node = λ seat. cond (seat == at) node (world seat)

-- The pieces that lead to each seat, with others at one of them.
abbrev pub set_behind : (ℕ → List ℕ) → ℕ → List ℕ → ℕ → List ℕ
set_behind behind at place = λ seat. cond (seat == at) place (behind seat)

module _ {A : Type 0} (f : ℕ → A) (at : ℕ) (x : A) where
  pub cond-same : (seat : ℕ) → seat ≡ at → cond (seat == at) x (f seat) ≡ x
  cond-same seat e = ap (λ b. cond b x (f seat)) (eq-eqb seat at e)

  pub cond-other : (seat : ℕ) → seat ≢ at → cond (seat == at) x (f seat) ≡ f seat
  cond-other seat ne = ap (λ b. cond b x (f seat)) (ne_eqb seat at ne)

-- What a node must be behind the pieces of a place.
abbrev pub NodeFits : World → (ℕ → List ℕ) → List ℕ → Node → Type 0
NodeFits world behind place gone = ⊥
NodeFits world behind place (tail held value) = SpellKey (place ++ held)
NodeFits world behind place (level map) = FitsBehind world behind place map

-- A level is used, but for the first.
abbrev pub IsUsed : ℕ → Node → Type 0
IsUsed zero node = Unit {0}
IsUsed (suc at) gone = Unit {0}
IsUsed (suc at) (tail held value) = Unit {0}
IsUsed (suc at) (level map) = map ≢ empty

fits-some : (world : World) (behind : ℕ → List ℕ) (place : List ℕ) (node : Node) → NodeFits world behind place node → node ≢ gone
fits-some world behind place gone fits e = fits
fits-some world behind place (tail held value) fits e = cc
fits-some world behind place (level map) fits e = cc

-- Another node that fits at a seat.
module _ (world : World) (behind : ℕ → List ℕ) (is : IsWorld world behind) (at : ℕ) (node : Node) (fits : NodeFits world behind (behind at) node) (used : IsUsed at node) where
  pub fits-set : (place : List ℕ) (map : FinMap word_order ℕ) → FitsBehind world behind place map → FitsBehind (set_node world at node) behind place map
  fits-set place map has = record {
    leads = λ piece found entry inner. let leads = has.leads piece found entry inner in (
      leads.0,
      elim (cases_eq (suc found) at) [
        | inl e ↦ λ none. fits-some world behind (behind at) node fits (sym (cond-same world at node (suc found) e) ∙ none)
        | inr ne ↦ λ none. leads.1 (sym (cond-other world at node (suc found) ne) ∙ none)
      ],
    );
    ends = has.ends;
    short = has.short;
  }

  fits_of : (n : Node) → NodeFits world behind (behind at) n → (map : FinMap word_order ℕ) → n ≡ level map → FitsBehind world behind (behind at) map
  fits_of gone has map e = absurd has
  fits_of (tail held value) has map e = absurd (cc)
  fits_of (level m) has map e = let same : m ≡ map = cc in subst (FitsBehind world behind (behind at)) same has

  spells_of : (n : Node) → NodeFits world behind (behind at) n → (held : List ℕ) (value : ℕ) → n ≡ tail held value → SpellKey (behind at ++ held)
  spells_of gone has held value e = absurd has
  spells_of (tail h v) has held value e = let same : h ≡ held = cc in subst (λ l. SpellKey (behind at ++ l)) same has
  spells_of (level m) has held value e = absurd (cc)

  used_of : (place : ℕ) (n : Node) → IsUsed (suc place) n → (map : FinMap word_order ℕ) → n ≡ level map → map ≢ empty
  used_of place gone has map e = absurd (cc)
  used_of place (tail h v) has map e = absurd (cc)
  used_of place (level m) has map e = let same : m ≡ map = cc in subst (λ (l : FinMap word_order ℕ). l ≢ empty) same has

  pub keeps : IsWorld (set_node world at node) behind
  keeps = record {
    first = is.first;
    levels = λ seat map e. elim (cases_eq seat at) [
      | inl here ↦ subst (λ s. FitsBehind (set_node world at node) behind (behind s) map) (sym here) (fits-set (behind at) map (fits_of node fits map (sym (cond-same world at node seat here) ∙ e)))
      | inr off ↦ fits-set (behind seat) map (is.levels seat map (sym (cond-other world at node seat off) ∙ e))
    ];
    used = λ place map e. elim (cases_eq (suc place) at) [
      | inl here ↦ used_of place node (subst (λ s. IsUsed s node) (sym here) used) map (sym (cond-same world at node (suc place) here) ∙ e)
      | inr off ↦ is.used place map (sym (cond-other world at node (suc place) off) ∙ e)
    ];
    tails = λ seat held value e. elim (cases_eq seat at) [
      | inl here ↦ subst (λ s. SpellKey (behind s ++ held)) (sym here) (spells_of node fits held value (sym (cond-same world at node seat here) ∙ e))
      | inr off ↦ is.tails seat held value (sym (cond-other world at node seat off) ∙ e)
    ];
  }

-- A node that is put where nothing was.
module _ (world : World) (behind : ℕ → List ℕ) (is : IsWorld world behind) (to : ℕ) (none : world (suc to) ≡ gone) (place : List ℕ) where
  -- What fits before fits after.
  pub fits-put : (node : Node) → node ≢ gone → (front : List ℕ) (map : FinMap word_order ℕ) → FitsBehind world behind front map →
      FitsBehind (set_node world (suc to) node) (set_behind behind (suc to) place) front map
  fits-put node some front map has = record {
    leads = λ piece found entry inner.
        let leads = has.leads piece found entry inner in
        let off : suc found ≢ suc to = (λ e. leads.1 (ap world e ∙ none)) in
        (cond-other behind (suc to) place (suc found) off ∙ leads.0, λ no_node. leads.1 (sym (cond-other world (suc to) node (suc found) off) ∙ no_node));
    ends = has.ends;
    short = has.short;
  }

  -- The other seats stay.
  pub put : IsWorld world (set_behind behind (suc to) place)
  put = record {
    first = cond-other behind (suc to) place 0 (λ e. omega arith) ∙ is.first;
    levels = λ seat map e.
        let off : seat ≢ suc to = (λ here. let g : level map ≡ gone = sym e ∙ ap world here ∙ none in cc) in
        let has = is.levels seat map e in
        subst (λ p. FitsBehind world (set_behind behind (suc to) place) p map) (sym (cond-other behind (suc to) place seat off)) (record {
          leads = λ piece found entry inner.
              let leads = has.leads piece found entry inner in
              (cond-other behind (suc to) place (suc found) (λ e. leads.1 (ap world e ∙ none)) ∙ leads.0, leads.1);
          ends = has.ends;
          short = has.short;
        });
    used = is.used;
    tails = λ seat held value e.
        let off : seat ≢ suc to = (λ here. let g : tail held value ≡ gone = sym e ∙ ap world here ∙ none in cc) in
        subst (λ p. SpellKey (p ++ held)) (sym (cond-other behind (suc to) place seat off)) (is.tails seat held value e);
  }
