-- Where a key is cut off, level by level on its way.
use Rattle.std.proofs.Common.{◌≡◌, ℕ, suc, ◌<◌, ◌≤◌, ◌⊎◌, List, [], ◌∷◌, ◌++◌, length, drop, Option, None, Some, inl, inr, refl, sym, ap, subst, ◌∙◌, arith}
use Rattle.std.proofs.lemmas.List.{length-drop}
use Rattle.std.specs.FinMap.{FinMap, get, len}
use Rattle.judy_model.specs.Keys.{word_order}
use Rattle.judy_sl.specs.declared.arena.Place.{Place}
use Rattle.judy_sl.specs.declared.shrink.Cut.{Cut}
use Rattle.judy_sl.specs.Pieces.{pieces, piece_of, IsText, IsInner, IsFinal}
use Rattle.judy_sl.specs.World.{World, tail, level}
use Rattle.judy_sl.specs.Ways.{IsOnWay, LeadsTo, seat_of, piece_at, place_in, seat_in}
use Rattle.judy_sl.specs.Shrunk.{EntryLone, NodeLone, IsLone, IsWide, IsCutChild, IsCutWhere, IsDeeper}
use Rattle.judy_sl.proofs.lemmas.pieces.PieceLemmas.{piece-IsFinal, piece-IsInner, text-drop}
use Rattle.judy_sl.proofs.lemmas.pieces.Ways.{pieces_short, pieces_long}
use Rattle.judy_sl.proofs.lemmas.pieces.OnWay.{pieces-head, left-on}
use Rattle.judy_sl.proofs.lemmas.seats.Lone.{only-entry}

-- The cut on the way so far: none at the first level; then one, which holds where at the child stands one key alone.
abbrev pub IsCutSoFar : World → List ℕ → Option ℕ → List ℕ → Option Cut → Type 0
IsCutSoFar world key None rest None = Unit {0}
IsCutSoFar world key None rest (Some cut) = ⊥
IsCutSoFar world key (Some at) rest None = ⊥
IsCutSoFar world key (Some at) rest (Some cut) = IsCutWhere (IsLone world at (pieces rest)) world key cut

place-seat : (child : Option ℕ) (piece : ℕ) → seat_of (place_in child piece) ≡ seat_in child
place-seat None piece = refl
place-seat (Some at) piece = refl

place-piece : (child : Option ℕ) (piece : ℕ) → piece_at (place_in child piece) ≡ piece
place-piece None piece = refl
place-piece (Some at) piece = refl

first-seat : (world : World) (key : List ℕ) (child : Option ℕ) (rest : List ℕ) (before : Option Cut) → IsCutSoFar world key child rest before → before ≡ None → seat_in child ≡ 0
first-seat world key None rest before is none = refl
first-seat world key (Some at) rest None is none = absurd is
first-seat world key (Some at) rest (Some cut) is none = absurd (cc)

-- A condition that is met more seldom.
child-weaker : (world : World) (key : List ℕ) (map : FinMap word_order ℕ) (piece : ℕ) (rest : List ℕ) (below : Option ℕ) (left : ℕ) (holds less : Type 0) →
    (less → holds) → IsCutChild world key map piece rest below left holds → IsCutChild world key map piece rest below left less
child-weaker world key map piece rest None left holds less weaker is = is
child-weaker world key map piece rest (Some at) left holds less weaker is = (is.0, is.1, is.2, is.3, is.4, λ l. is.5 (weaker l))

pub cut-weaker : (world : World) (key : List ℕ) (cut : Cut) (holds less : Type 0) → (less → holds) → IsCutWhere holds world key cut → IsCutWhere less world key cut
cut-weaker world key cut holds less weaker is = record {
  rest = is.rest;
  leads = is.leads;
  deep = is.deep;
  map = is.map;
  is_level = is.is_level;
  wide = is.wide;
  child = child-weaker world key is.map (piece_at cut.place) is.rest cut.below cut.left holds less weaker is.child;
}

-- The cut before, at a level with one entry.
still : (world : World) (key : List ℕ) (child : Option ℕ) (rest : List ℕ) (before : Option Cut) (cut : Cut) (less : Type 0) → IsCutSoFar world key child rest before →
    before ≡ Some cut → ((at : ℕ) → child ≡ Some at → less → IsLone world at (pieces rest)) → IsCutWhere less world key cut
still world key None rest None cut less is e weaker = absurd (cc)
still world key None rest (Some before) cut less is e weaker = absurd is
still world key (Some at) rest None cut less is e weaker = absurd is
still world key (Some at) rest (Some before) cut less is e weaker =
    let same : before ≡ cut = cc in
    cut-weaker world key cut (IsLone world at (pieces rest)) less (weaker at refl) (subst (λ c. IsCutWhere (IsLone world at (pieces rest)) world key c) same is)

module _ (world : World) (key : List ℕ) (child : Option ℕ) (map : FinMap word_order ℕ) (rest : List ℕ) (on : IsOnWay world key (seat_in child) map rest)
    (is_text : IsText key) (before : Option Cut) (so_far : IsCutSoFar world key child rest before) where
  abbrev leads-here : (place : Place) → seat_of place ≡ seat_in child → piece_at place ≡ piece_of rest → (ps : List ℕ) → pieces rest ≡ piece_of rest ∷ ps →
      LeadsTo world key (seat_of place) (piece_at place ∷ ps)
  leads-here place seat piece ps e = record {
    front = on.leads.front;
    inner = on.leads.inner;
    way = on.leads.way ∙ ap (λ s. Some s) (sym seat);
    parts = on.leads.parts ∙ ap (λ l. on.leads.front ++ l) (e ∙ ap (λ p. p ∷ ps) (sym piece));
  }

  wide-here : (place : Place) → seat_of place ≡ seat_in child → (before ≡ None) ⊎ (2 ≤ len map) → IsWide (seat_of place) map
  wide-here place seat (inl none) = inl (seat ∙ first-seat world key child rest before so_far none)
  wide-here place seat (inr many) = inr many

  -- The one key at a child goes on under the piece.
  lone-here : (at : ℕ) → child ≡ Some at → (entry : ℕ) → get map (piece_of rest) ≡ Some entry → len map ≤ 1 → (ps : List ℕ) → pieces rest ≡ piece_of rest ∷ ps →
      EntryLone (Some entry) ps (λ found. IsLone world found ps) → IsLone world at (pieces rest)
  lone-here at is entry there small ps e goes =
      let node : world (suc at) ≡ level map = ap (λ c. world (seat_in c)) (sym is) ∙ on.is_level in
      subst (IsLone world at) (sym e) (subst (λ n. NodeLone n (piece_of rest) ps (λ found. IsLone world found ps)) (sym node)
      (only-entry map (piece_of rest) entry small there, subst (λ o. EntryLone o ps (λ found. IsLone world found ps)) (sym there) goes))

  entry-on : (at : ℕ) (ps : List ℕ) → IsLone world at ps → EntryLone (Some at) ps (λ found. IsLone world found ps)
  entry-on at [] lone = absurd lone
  entry-on at (piece ∷ ps) lone = lone

  module _ (piece : ℕ) (piece_is : piece ≡ piece_of rest) (place : Place) (place_is : place ≡ place_in child piece) (depth : ℕ) (deep_is : depth ≡ length on.leads.front) where
    seat-is : seat_of place ≡ seat_in child
    seat-is = ap seat_of place_is ∙ place-seat child piece

    at-is : piece_at place ≡ piece_of rest
    at-is = ap piece_at place_is ∙ place-piece child piece ∙ piece_is

    is-level : world (seat_of place) ≡ level map
    is-level = ap world seat-is ∙ on.is_level

    -- The way goes on.
    pub cut-on : (at : ℕ) (cut : Cut) → 8 ≤ length rest → get map piece ≡ Some at → IsDeeper before map
        (record { place = place; below = Some at; left = length (drop 8 rest); depth = depth }) cut → IsCutWhere (IsLone world at (pieces (drop 8 rest))) world key cut
    cut-on at cut long entry (inl deeper) =
        let left = left-on world key (seat_in child) map rest on long in
        let l = length-drop 8 rest in
        let within = on.within in
        subst (λ c. IsCutWhere (IsLone world at (pieces (drop 8 rest))) world key c) (sym deeper.0) (record {
          rest = pieces (drop 8 rest);
          leads = leads-here place seat-is at-is (pieces (drop 8 rest)) (pieces_long rest long);
          deep = deep_is;
          map = map;
          is_level = is-level;
          wide = wide-here place seat-is deeper.1;
          child = (
            ap (get map) (at-is ∙ sym piece_is) ∙ entry,
            subst IsInner (sym at-is) (piece-IsInner rest (on.text is_text) long),
            subst IsText left (text-drop 8 rest (on.text is_text)),
            ap pieces left,
            omega (arith, l, within),
            λ lone. lone,
          );
        })
    cut-on at cut long entry (inr before_is) =
        still world key child rest before cut (IsLone world at (pieces (drop 8 rest))) so_far before_is.0
        (λ k is lone. lone-here k is at (ap (get map) (sym piece_is) ∙ entry) before_is.1 (pieces (drop 8 rest)) (pieces_long rest long) (entry-on at (pieces (drop 8 rest)) lone))

    -- The key ends here.
    pub cut-last : (value : ℕ) (cut : Cut) → length rest < 8 → get map piece ≡ Some value → IsDeeper before map (record { place = place; below = None; left = 0; depth = depth }) cut →
        IsCutWhere (Unit {0}) world key cut
    cut-last value cut short entry (inl deeper) = subst (λ c. IsCutWhere (Unit {0}) world key c) (sym deeper.0) (record {
      rest = [];
      leads = leads-here place seat-is at-is [] (pieces_short rest short);
      deep = deep_is;
      map = map;
      is_level = is-level;
      wide = wide-here place seat-is deeper.1;
      child = (refl, subst IsFinal (sym at-is) (piece-IsFinal rest (on.text is_text) short), (value, ap (get map) (at-is ∙ sym piece_is) ∙ entry));
    })
    cut-last value cut short entry (inr before_is) =
        still world key child rest before cut (Unit {0}) so_far before_is.0 (λ k is yes. lone-here k is value (ap (get map) (sym piece_is) ∙ entry) before_is.1 [] (pieces_short rest short) tt)

-- The key ends in a tail.
pub cut-tail : (world : World) (key : List ℕ) (at : ℕ) (rest held : List ℕ) (value : ℕ) (cut : Cut) → world (suc at) ≡ tail (pieces held) value → held ≡ rest →
    IsCutWhere (IsLone world at (pieces rest)) world key cut → IsCutWhere (Unit {0}) world key cut
cut-tail world key at rest held value cut is same so_far =
    let h = pieces-head rest in
    let lone : IsLone world at (pieces rest) = subst (IsLone world at) (sym h.1) (subst (λ n. NodeLone n (piece_of rest) h.0 (λ found. IsLone world found h.0)) (sym is) (ap pieces same ∙ h.1)) in
    cut-weaker world key cut (IsLone world at (pieces rest)) (Unit {0}) (λ _. lone) so_far
