use Rattle.std.proofs.Common.{ℕ, List, [], ◌∷◌, ◌++◌, sym, ap, subst, ◌∙◌}
use Rattle.std.proofs.lemmas.List.{take_rest}
use Rattle.judy_sl.specs.Arenas.{map_of}
use Rattle.judy_sl.specs.Pieces.{IsText}
use Rattle.judy_sl.specs.Places.{place_with}
use Rattle.judy_sl.specs.declared.arena.Place.TheVariants.{Below}
use Rattle.judy_sl.specs.Planted.{planted, IsPlanted}
use Rattle.judy_sl.proofs.lemmas.pieces.PieceLemmas.{text_of_key, text-drop}
use Rattle.judy_sl.proofs.lemmas.made.PlantedKeys.{planted-map, planted-more}
use Rattle.judy_sl.proofs.planting.plant.Goals as goal

pub put_tail-requires : goal.put_tail-requires
put_tail-requires c = record {
  text = subst IsText (sym (take_rest c.args.key.now 8)) (text-drop 8 c.args.key.now (text_of_key c.args.key.now c.requires.is_key));
}

pub returns-clause-planted : goal.returns-clause-planted
returns-clause-planted c =
    let items = c.in_ok-push.ensures.items ∙ ap (λ (piece : ℕ). c.args.entries.now.items ++ (piece, c.in_ok-at.at) ∷ []) c.first_piece.ensures in
    subst (IsPlanted (place_with c.put_tail.new.self (Below c.in_ok-at.at 0) c.args.value)) (sym items)
    (planted-more c.args.arena.now c.args.entries.now.items c.requires.planted c.args.key.now
    c.requires.is_key c.requires.long c.requires.above c.put_tail.new.self c.in_ok-at.at _
    (take_rest c.args.key.now 8) c.in_ok-at.ensures.put c.args.value)

pub returns-clause-map : goal.returns-clause-map
returns-clause-map c =
    let items = c.in_ok-push.ensures.items ∙ ap (λ (piece : ℕ). c.args.entries.now.items ++ (piece, c.in_ok-at.at) ∷ []) c.first_piece.ensures in
    ap (λ (entries : List (ℕ × ℕ)). map_of (planted (place_with c.put_tail.new.self (Below c.in_ok-at.at 0) c.args.value) entries)) items
    ∙ planted-map c.args.arena.now c.args.entries.now.items c.requires.planted c.args.key.now
    c.requires.is_key c.requires.long c.requires.above c.put_tail.new.self c.in_ok-at.at _
    (take_rest c.args.key.now 8) c.in_ok-at.ensures.put c.args.value
