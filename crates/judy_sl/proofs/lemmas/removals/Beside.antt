-- Where a key was taken out, whether others begin with its first piece.
use Rattle.std.proofs.Common.{◌≡◌, ℕ, List, [], ◌∷◌, ◌++◌, is_some, Option, None, sym, ap, ◌∙◌}
use Rattle.std.specs.FinMap.{get}
use Rattle.judy_model.specs.Keys.{word_order}
use Rattle.judy_model.specs.Arrays.{ArrayOf}
use Rattle.judy_sl.specs.declared.arena.Arena.{Arena}
use Rattle.judy_sl.specs.declared.arena.Place.{Place}
use Rattle.judy_sl.specs.declared.arena.Place.TheVariants.{Root, Below}
use Rattle.judy_sl.specs.declared.shrink.Cut.{Cut}
use Rattle.judy_sl.specs.Pieces.{piece_of}
use Rattle.judy_sl.specs.Arenas.{world_of, child_at, IsArena}
use Rattle.judy_sl.specs.Ways.{LeadsTo, seat_of, piece_at, is_below}
use Rattle.judy_sl.specs.Shrunk.{child_without, place_without, IsCutWhere, IsLeft}
use Rattle.judy_sl.proofs.lemmas.pieces.OnWay.{pieces-head}
use Rattle.judy_sl.proofs.lemmas.seats.Linked.{root-with_child}
use Rattle.judy_sl.proofs.lemmas.inserts.Written.{behind-leads}
use Rattle.judy_sl.proofs.lemmas.seats.Lone.{get-remove_here}
use Rattle.judy_sl.proofs.lemmas.counts.FirstWays.{leads_below}

module _ (before mid after : Arena) (is : IsArena before) (key : List ℕ) (left : IsLeft mid after) where
  -- The first level is the one that stood once the entry was taken out.
  first-left : (place : Place) → mid ≡ place_without before place → (piece : ℕ) → get after.root.map piece ≡ get (place_without before place).root.map piece
  first-left place mid_is piece = ap (λ (words : ArrayOf word_order). get words.map piece) (left.root ∙ ap (λ (arena : Arena). arena.root) mid_is)

  -- An entry of the first level is that of the key's first piece, and is gone.
  root-left : (piece : ℕ) (rest : List ℕ) → LeadsTo (world_of before) key 0 (piece ∷ rest) → mid ≡ place_without before (Root piece) → get after.root.map (piece_of key) ≡ None
  root-left piece rest leads mid_is =
      let none : [] ≡ leads.front = sym is.is_world.first ∙ behind-leads (world_of before) is.behind is.is_world key 0 (piece ∷ rest) leads in
      let parts = leads.parts ∙ ap (λ front. front ++ piece ∷ rest) (sym none) in
      let head = pieces-head key in
      let both : piece_of key ∷ head.0 ≡ piece ∷ rest = sym head.1 ∙ parts in
      let one : piece_of key ≡ piece = cc in
      ap (get after.root.map) one ∙ first-left (Root piece) mid_is piece ∙ get-remove_here before.root.map piece

  -- With another entry the first level stays, which has one for that piece.
  place-left : (place : Place) (rest : List ℕ) → LeadsTo (world_of before) key (seat_of place) (piece_at place ∷ rest) → mid ≡ place_without before place →
      is_below place ≡ is_some (get after.root.map (piece_of key))
  place-left (Root piece) rest leads mid_is = sym (ap (λ (found : Option ℕ). is_some found) (root-left piece rest leads mid_is))
  place-left (Below at piece) rest leads mid_is =
      let same = ap (λ (words : ArrayOf word_order). get words.map (piece_of key)) (root-with_child before at (child_without (child_at before at) piece)) in
      sym (ap (λ (found : Option ℕ). is_some found) (first-left (Below at piece) mid_is (piece_of key) ∙ same) ∙ leads_below before is key at (piece ∷ rest) leads)

  -- A key that was cut off below the first level leaves others that begin with its first piece, and one cut off there none.
  pub beside-left : (cut : Cut) → IsCutWhere (Unit {0}) (world_of before) key cut → mid ≡ place_without before cut.place → is_below cut.place ≡ is_some (get after.root.map (piece_of key))
  beside-left cut cut_is mid_is = place-left cut.place cut_is.rest cut_is.leads mid_is
