-- A key that is followed piece by piece as it is read.
use Rattle.std.proofs.Common.{subst, ◌≡◌, ◌≢◌, ℕ, suc, List, drop, Option, None, Some, IfSome, refl, sym, ap, ◌∙◌}
use Rattle.std.specs.Option.{option_map}
use Rattle.std.specs.FinMap.{FinMap, get}
use Rattle.judy_model.specs.Keys.{word_order}
use Rattle.judy_sl.specs.declared.arena.Arena.{Arena}
use Rattle.judy_sl.specs.Pieces.{piece_of, pieces, IsText, IsFinal, IsInner}
use Rattle.judy_sl.specs.World.{World, tail, level, lookup}
use Rattle.judy_sl.specs.Arenas.{world_of, map_of}
use Rattle.judy_sl.specs.Strings.{IsString}
use Rattle.judy_sl.specs.Scans.{value_found}
use Rattle.judy_sl.specs.TextsLeft.{left_behind}
use Rattle.judy_sl.specs.Readers.{found_from}
use Rattle.judy_sl.proofs.lemmas.pieces.Ways.{look_in, lookup-in, tail-same, tail-other, pieces_short, pieces_long}
use Rattle.judy_sl.proofs.lemmas.pieces.OnWay.{pieces-head, pieces-some}
use Rattle.judy_sl.proofs.lemmas.pieces.PieceLemmas.{text_of_key, text-drop, pieces_are, pieces_same}
use Rattle.judy_sl.proofs.lemmas.scans.ScanLevels.{lookup_final, lookup_inner, lookup_absent}
use Rattle.judy_sl.proofs.lemmas.seats.Maps.{get-map}
use Rattle.judy_sl.proofs.lemmas.readers.TextSteps.{some_left, final_short, inner_long, behind_long}

-- The value of a string is what is found from the first level.
pub found_first : (arena : Arena) (left : Option (List ℕ)) → IfSome left IsString → value_found (map_of arena) left ≡ found_from (world_of arena) 0 left
found_first arena None is = refl
found_first arena (Some key) is = get-map arena key is

-- A piece of what is left is looked up in the level to which the key has led.
module _ (arena : Arena) (first left : Option (List ℕ)) (seat : ℕ) (words : FinMap word_order ℕ) (here : world_of arena seat ≡ level words)
    (found : found_from (world_of arena) 0 first ≡ found_from (world_of arena) seat left) (piece : ℕ) (read : Some piece ≡ option_map piece_of left) (is : IfSome left IsString) where
  abbrev W : World
  W = world_of arena

  its : (text : List ℕ) × (left ≡ Some text) × (piece ≡ piece_of text)
  its = some_left left piece read

  text : IsText its.0
  text = text_of_key its.0 (subst (λ (one : Option (List ℕ)). IfSome one IsString) its.1 is)

  found_here : found_from W 0 first ≡ lookup W seat (pieces its.0)
  found_here = found ∙ ap (found_from W seat) its.1

  -- Where the level has no entry, nothing is found.
  pub follow_none : get words piece ≡ None → found_from W 0 first ≡ None
  follow_none none =
      let head = pieces-head its.0 in
      found_here ∙ ap (lookup W seat) head.1 ∙ lookup_absent W seat words here (piece_of its.0) head.0 (ap (get words) (sym its.2) ∙ none)

  -- Under a final piece stands the value,
  pub follow_final : IsFinal piece → (value : ℕ) → get words piece ≡ Some value → found_from W 0 first ≡ Some value
  follow_final final value entry =
      found_here
      ∙ ap (lookup W seat) (pieces_short its.0 (final_short its.0 text (subst IsFinal its.2 final)))
      ∙ lookup_final W seat words here (piece_of its.0) value (ap (get words) (sym its.2) ∙ entry)

  -- and an inner one leads on.
  pub follow_inner : IsInner piece → (at : ℕ) → get words piece ≡ Some at → (later : Option (List ℕ)) → later ≡ left_behind left → found_from W 0 first ≡ found_from W (suc at) later
  follow_inner inner at entry later behind =
      let long = inner_long its.0 text (subst IsInner its.2 inner) in
      found_here
      ∙ ap (lookup W seat) (pieces_long its.0 long)
      ∙ lookup_inner W seat words here (piece_of its.0) at (pieces (drop 8 its.0)) (ap (get words) (sym its.2) ∙ entry) (pieces_are (drop 8 its.0) (text-drop 8 its.0 text))
      ∙ ap (found_from W (suc at)) (sym (behind ∙ ap left_behind its.1 ∙ behind_long its.0 long))

module _ (world : World) (seat : ℕ) (held : List ℕ) (value : ℕ) (here : world seat ≡ tail (pieces held) value) where
  -- A tail has the value of its own text,
  pub follow_same : (left : Option (List ℕ)) → left ≡ Some held → found_from world seat left ≡ Some value
  follow_same left same =
      ap (found_from world seat) same
      ∙ lookup-in world seat (pieces held)
      ∙ ap (λ node. look_in world node (pieces held)) here
      ∙ tail-same world (pieces held) value (pieces-some held)

  -- and of no other.
  pub follow_other : IsText held → (left : Option (List ℕ)) → IfSome left IsText → left ≢ Some held → found_from world seat left ≡ None
  follow_other own None text other = refl
  follow_other own (Some key) text other =
      lookup-in world seat (pieces key)
      ∙ ap (λ node. look_in world node (pieces key)) here
      ∙ tail-other world (pieces held) (pieces key) value (λ same. other (ap (λ (bytes : List ℕ). Some bytes) (sym (pieces_same held key own text same))))
