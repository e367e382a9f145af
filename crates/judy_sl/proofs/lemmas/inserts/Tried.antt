-- A key that is tried as one whose first piece leads nowhere.
use Rattle.std.proofs.Common.{◌≡◌, ℕ, ◌-◌, ◌<◌, ◌≤◌, List, length, drop, Option, None, Result, Ok, Err, refl, sym, ap, subst, ◌∙◌, arith}
use Rattle.std.specs.FinMap.{get, insert}
use Rattle.std.specs.Result.{IsErrAnd}
use Rattle.judy_model.specs.Keys.{word_order}
use Rattle.judy_model.specs.Arrays.{ArrayOf, with_map}
use Rattle.judy_sl.specs.declared.arena.Arena.{Arena}
use Rattle.judy_sl.specs.declared.arena.Place.TheVariants.{Root, Below}
use Rattle.judy_sl.specs.declared.arena.Place.{Place}
use Rattle.judy_sl.specs.Pieces.{piece_of}
use Rattle.judy_sl.specs.Arenas.{world_of, map_of, IsArena}
use Rattle.judy_sl.specs.Children.{Tail}
use Rattle.judy_sl.specs.Places.{place_with}
use Rattle.judy_sl.specs.Ways.{IsGap}
use Rattle.judy_sl.specs.Grown.{IsPut, IsAdded, IfShown}
use Rattle.judy_sl.proofs.lemmas.pieces.PieceLemmas.{text_of_key}
use Rattle.judy_sl.proofs.lemmas.pieces.OnWay.{on-start, on-gap}
use Rattle.judy_sl.proofs.lemmas.seats.Keeping.{gap-none}
use Rattle.judy_sl.proofs.lemmas.seats.Maps.{get-map}
use Rattle.judy_sl.proofs.lemmas.inserts.Filled.{fills-last}
use Rattle.judy_sl.proofs.lemmas.inserts.Tailed.{filled-tail}
use Rattle.judy_sl.specs.Strings.{IsString}

-- Where memory is refused it shows what it would have shown.
pub shown-refused : {E : Type 0} (Fails : E → Type 0) {Holds : Type 0} (result : Result (Option Place) E) → IsErrAnd result Fails → Holds → IfShown result Holds
shown-refused Fails (Ok found) fails holds = absurd fails
shown-refused Fails (Err error) fails holds = holds

module _ (arena : Arena) (is : IsArena arena) (key : List ℕ) (is_key : IsString key) (piece : ℕ) (piece_is : piece ≡ piece_of key) (none : get arena.root.map piece ≡ None) where
  -- Its way ends in the first level,
  pub first-gap : IsGap (world_of arena) key (Root piece) (length key)
  first-gap = on-gap (world_of arena) key arena.root.map key None piece (Root piece) (on-start (world_of arena) key arena.root.map refl) refl piece_is none (text_of_key key is_key)

  -- so it is absent,
  pub first-absent : get (map_of arena) key ≡ None
  first-absent = get-map arena key is_key ∙ gap-none (world_of arena) key (Root piece) (length key) first-gap

  -- and with the piece it is there, where that is its only one,
  pub short-added : (words : ArrayOf word_order) → words ≡ with_map arena.root (insert arena.root.map piece 0) → length key < 8 → IsAdded arena (record arena { root = words }) key (Root piece)
  short-added words words_is short =
      subst (λ (root : ArrayOf word_order). IsAdded arena (record arena { root = root }) key (Root piece)) (sym words_is)
      (fills-last arena is key is_key (Root piece) (length key) first-gap short)

  -- or with the piece and its tail. The piece came first, but the order is free: the tail could have been put in before it.
  module _ (words : ArrayOf word_order) (after : Arena) (at : ℕ) (rest : List ℕ × ℕ) (words_is : words ≡ with_map arena.root (insert arena.root.map piece at))
      (put : IsPut (record arena { root = words }) after (Tail rest) at) where
    abbrev pub placed : Arena
    placed = record after { root = arena.root }

    pub put-first : IsPut arena placed (Tail rest) at
    put-first = record { was_free = put.was_free; here = put.here; elsewhere = put.elsewhere; root = refl }

    pub after-first : after ≡ place_with placed (Root piece) at
    after-first = ap (λ root. record after { root = root }) (put.root ∙ words_is)

    pub first-added : 8 ≤ length key → rest.0 ≡ drop 8 key → rest.1 ≡ 0 → IsAdded arena after key (Below at 0)
    first-added long bytes value =
        let whole : length key - length key ≡ 0 = omega arith in
        filled-tail arena placed after key (Root piece) (length key) at rest is is_key first-gap long put-first after-first (bytes ∙ ap (λ n. drop 8 (drop n key)) (sym whole)) value
