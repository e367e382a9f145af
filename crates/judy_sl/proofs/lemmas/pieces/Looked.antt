-- A look-up reads a key once: bytes that are found are a key.
use Rattle.std.proofs.Common.{◌≡◌, ℕ, suc, ◌+◌, ◌-◌, ◌<◌, ◌≤◌, List, length, drop, get_or, Option, None, Some, refl, sym, ap, subst, ◌∙◌, arith}
use Rattle.std.proofs.lemmas.List.{length-drop, get_or-drop}
use Rattle.std.proofs.lemmas.Option.{slice_get_within, slice_get-get_or, get_or_from_slice_get}
use Rattle.std.specs.FinMap.{FinMap, get}
use Rattle.judy_model.specs.Keys.{word_order}
use Rattle.judy_sl.specs.declared.arena.Arena.{Arena}
use Rattle.judy_sl.specs.Pieces.{pieces, piece_of, IsText, IsFinal, IsInner, EndsWell}
use Rattle.judy_sl.specs.World.{World, tail}
use Rattle.judy_sl.specs.Ways.{IsOnWay}
use Rattle.judy_sl.specs.Arenas.{world_of, map_of, IsArena}
use Rattle.judy_sl.proofs.lemmas.pieces.PieceLemmas.{piece-IsInner}
use Rattle.judy_sl.proofs.lemmas.pieces.Exact.{AreBytes, exact}
use Rattle.judy_sl.proofs.lemmas.pieces.OnWay.{spelled-tail, spelled-last, found-last}
use Rattle.judy_sl.proofs.lemmas.seats.Maps.{get-map, get-map_none}
use Rattle.judy_sl.specs.Strings.{IsString}

-- Bytes end as those that they are the end of.
ends-drop : (n : ℕ) (bytes : List ℕ) → EndsWell bytes → EndsWell (drop n bytes)
ends-drop n bytes ends last =
    let end = length (drop n bytes) - 1 in
    let within = slice_get_within (drop n bytes) end 0 last in
    let l = length-drop n bytes in
    let same : n + end ≡ length bytes - 1 = omega arith in
    let byte : get_or bytes (length bytes - 1) 0 ≡ 0 = ap (λ k. get_or bytes k 0) (sym same) ∙ sym (get_or-drop n bytes end 0) ∙ get_or_from_slice_get (drop n bytes) end 0 0 last in
    ends (slice_get-get_or bytes (length bytes - 1) 0 (omega arith) ∙ ap (λ b. Some b) byte)

module _ (world : World) (key : List ℕ) (seat : ℕ) (map : FinMap word_order ℕ) (rest : List ℕ) (on : IsOnWay world key seat map rest) where
  -- No whole piece of a key is final.
  pub never-final : 8 ≤ length rest → IsFinal (piece_of rest) → IsText key → ⊥
  never-final long final text = piece-IsInner rest (on.text text) long final

  -- What is left of bytes ends as they do.
  pub ends-on : EndsWell key → EndsWell (drop 8 rest)
  ends-on ends = ends-drop 8 rest (subst EndsWell (sym on.is_left) (ends-drop (length key - length rest) key ends))

module _ (arena : Arena) (is : IsArena arena) (key : List ℕ) (small : AreBytes key) (ends : EndsWell key) (seat : ℕ) (map : FinMap word_order ℕ) (rest : List ℕ)
    (on : IsOnWay (world_of arena) key seat map rest) where
  -- What a tail's key is found for is that key,
  pub key-tail : 8 ≤ length rest → IsInner (piece_of rest) → (at : ℕ) → get map (piece_of rest) ≡ Some at → (held : List ℕ) (value : ℕ) →
      world_of arena (suc at) ≡ tail (pieces held) value → held ≡ drop 8 rest → IsString key
  key-tail long whole at entry held value tailed e = exact key small ends (spelled-tail (world_of arena) is.behind is.is_world key seat map rest on long whole at entry held value tailed e)

  -- and so is what has an entry under its last piece.
  pub key-last : length rest < 8 → (value : ℕ) → get map (piece_of rest) ≡ Some value → IsString key
  key-last short value entry = exact key small ends (spelled-last (world_of arena) is.behind is.is_world key seat map rest on short value entry)

  -- The last piece decides.
  pub last-value : length rest < 8 → get map (piece_of rest) ≡ get (map_of arena) key
  last-value short = by (get map (piece_of rest)) refl
    where
      by : (found : Option ℕ) → get map (piece_of rest) ≡ found → found ≡ get (map_of arena) key
      by None none = sym (get-map_none arena key (λ is_key. found-last arena is key seat map rest on short ∙ none))
      by (Some value) some = sym (get-map arena key (key-last short value some) ∙ found-last arena is key seat map rest on short ∙ some)
