-- What a level holds, by the keys that begin with the bytes behind which it stands.
use Rattle.std.proofs.Common.{◌≡◌, ◌≢◌, ℕ, zero, suc, ◌+◌, ◌*◌, ◌^◌, ◌%◌, ◌<◌, ◌≤◌, IsTrue, ⊎_elim, List, [], ◌∷◌, ◌++◌, length, drop, Option, Some, None, is_some, sym, refl, ap, ◌∙◌, subst, arith}
use Rattle.std.specs.FinMap.{FinMap, get, contains_key}
use Rattle.std.proofs.lemmas.List.{append_assoc, append-nil, append_cancel_left, length-append, length-drop, drop-append-le}
use Rattle.std.proofs.lemmas.List.Elements.{All-append}
use Rattle.std.proofs.lemmas.Option.{none-some}
use Rattle.judy_model.specs.Keys.{word_order}
use Rattle.judy_model.proofs.lemmas.maps.TableLemmas.{get-table}
use Rattle.judy_sl.specs.declared.arena.Arena.{Arena}
use Rattle.judy_sl.specs.Children.{IsTaken}
use Rattle.judy_records.specs.Texts.{spelled}
use Rattle.judy_sl.specs.Pieces.{piece_of, pieces, spelling, AreInner, ArePieces, IsText, SpellKey}
use Rattle.judy_sl.specs.World.{World, tail, level, lookup, walk}
use Rattle.judy_sl.specs.Arenas.{world_of, child_at, map_of, IsArena}
use Rattle.judy_sl.specs.Levels.{IsLevelOf, HasBranch}
use Rattle.judy_sl.proofs.lemmas.pieces.Ways.{pieces_short, pieces_long, lookup-walk, walk-more, walk-behind}
use Rattle.judy_sl.proofs.lemmas.seats.Linked.{taken_of}
use Rattle.judy_sl.proofs.lemmas.pieces.OnWay.{pieces-head}
use Rattle.judy_sl.proofs.lemmas.pieces.PieceLemmas.{text_of_key, pieces_are, pieces_same, piece-IsInner, piece-IsFinal, text-drop}
use Rattle.judy_sl.proofs.lemmas.pieces.PieceBytes.{spelling-pieces, spelling-append}
use Rattle.judy_sl.proofs.lemmas.scans.ScanLevels.{lookup_inner, lookup_absent, lookup_final, held_from_lookup, tail_only, pieces_rest}
use Rattle.judy_sl.proofs.lemmas.scans.ScanWays.{AreInner-more}
use Rattle.judy_sl.proofs.lemmas.scans.ScanEnds.{begins, are_behind}
use Rattle.judy_sl.proofs.lemmas.scans.ScanMaps.{held_found}
use Rattle.judy_sl.proofs.lemmas.pieces.Strings.{all_strings-all}
use Rattle.judy_sl.specs.Strings.{IsString}

no_bytes : IsText []
no_bytes = λ k d within. let never : ⊥ = omega arith in absurd never

-- What comes behind the first bytes changes nothing of the number that they spell.
spelled-front : (width : ℕ) (bytes more : List ℕ) → width ≤ length bytes → spelled width (bytes ++ more) ≡ spelled width bytes
spelled-front zero bytes more long = refl
spelled-front (suc width) [] more long = let never : ⊥ = omega arith in absurd never
spelled-front (suc width) (byte ∷ bytes) more long = ap (λ rest. byte * 256 ^ width + rest) (spelled-front width bytes more (omega arith))

-- Nor of the piece.
pub piece-front : (bytes more : List ℕ) → 8 ≤ length bytes → piece_of (bytes ++ more) ≡ piece_of bytes
unfolding piece_of
piece-front bytes more long = spelled-front 8 bytes more long

pub pieces-front : (bytes more : List ℕ) → 8 ≤ length bytes → pieces (bytes ++ more) ≡ piece_of bytes ∷ pieces (drop 8 bytes ++ more)
pieces-front bytes more long =
    let both = length-append bytes more in
    pieces_long (bytes ++ more) (omega arith) ∙ (λ t. piece-front bytes more long t ∷ pieces (drop-append-le 8 bytes more long t))

-- How far the way down the bytes has come.
pub record OnLevel (world : World) (at : List ℕ) (map : FinMap word_order ℕ) (rest : List ℕ) : Type 0 where
  pub front : List ℕ
  pub seat : ℕ
  pub way : walk world 0 front ≡ Some seat
  pub inner : AreInner front
  pub is_level : world seat ≡ level map
  pub split : (more : List ℕ) → pieces (at ++ more) ≡ front ++ pieces (rest ++ more)
  pub text : IsText rest
  pub whole : length rest % 8 ≡ 0
  pub fits : length rest ≤ length at

module _ (arena : Arena) (at : List ℕ) (is_key : IsString at) where
  pub level_start : (map : FinMap word_order ℕ) → world_of arena 0 ≡ level map → length at % 8 ≡ 0 → OnLevel (world_of arena) at map at
  level_start map is whole = record { front = []; seat = 0; way = refl; inner = tt; is_level = is; split = λ more. refl; text = text_of_key at is_key; whole = whole; fits = omega arith }

  module _ (map : FinMap word_order ℕ) (rest : List ℕ) (on : OnLevel (world_of arena) at map rest) where
    module _ (long : 8 ≤ length rest) where
      pub level_moved : (found : ℕ) (below : FinMap word_order ℕ) → get map (piece_of rest) ≡ Some found → world_of arena (suc found) ≡ level below → OnLevel (world_of arena) at below (drop 8 rest)
      level_moved found below is leads =
          let shorter = length-drop 8 rest in
          let whole = on.whole in
          let fits = on.fits in
          record {
            front = on.front ++ piece_of rest ∷ [];
            seat = suc found;
            way = walk-more (world_of arena) 0 on.front on.seat map (piece_of rest) found on.way on.is_level is;
            inner = AreInner-more on.front (piece_of rest) on.inner (piece-IsInner rest on.text long);
            is_level = leads;
            split = λ more. on.split more ∙ ap (λ ps. on.front ++ ps) (pieces-front rest more long) ∙ sym (append_assoc on.front (piece_of rest ∷ []) (pieces (drop 8 rest ++ more)));
            text = text-drop 8 rest on.text;
            whole = omega arith;
            fits = omega arith;
          }

      -- Something stands where an entry leads.
      pub level_taken : IsArena arena → (found : ℕ) → get map (piece_of rest) ≡ Some found → IsTaken (child_at arena found)
      level_taken is_arena found entry = taken_of arena found ((is_arena.is_world.levels on.seat map on.is_level).leads (piece_of rest) found entry (piece-IsInner rest on.text long)).1

      -- Two keys that begin with the bytes are found behind the level.
      found_here : (more : List ℕ) → IsTrue (contains_key (map_of arena) (at ++ more)) → (value : ℕ) × IsString (at ++ more) ×
          (lookup (world_of arena) on.seat (piece_of rest ∷ pieces (drop 8 rest ++ more)) ≡ Some value)
      found_here more held =
          let there = held_found arena (at ++ more) held in
          let parts = on.split more ∙ ap (λ ps. on.front ++ ps) (pieces-front rest more long) in
          (there.0, there.1, sym (lookup-walk (world_of arena) 0 on.front on.seat (piece_of rest) (pieces (drop 8 rest ++ more)) on.way) ∙ ap (lookup (world_of arena) 0) (sym parts) ∙ there.2)

      -- So they don't both begin where one key at most goes on.
      pub no_branch : ((ps qs : List ℕ) (value other : ℕ) → ArePieces ps → ArePieces qs → lookup (world_of arena) on.seat (piece_of rest ∷ ps) ≡ Some value →
          lookup (world_of arena) on.seat (piece_of rest ∷ qs) ≡ Some other → ps ≡ qs) → HasBranch (map_of arena) at → ⊥
      no_branch alone branch = ⊎_elim
          (λ e. let none = ap length e in let fits = on.fits in let never : ⊥ = omega arith in never)
          (λ two.
          let one = found_here two.0 two.3 in
          let other = found_here two.1 two.4 in
          let are : (more : List ℕ) (key : IsString (at ++ more)) → ArePieces (pieces (drop 8 rest ++ more)) =
          (λ more key. pieces_rest (piece_of rest) (pieces (drop 8 rest ++ more)) (piece-IsInner rest on.text long)
          (are_behind on.front (piece_of rest) (pieces (drop 8 rest ++ more)) (subst ArePieces (on.split more ∙ ap (λ ps. on.front ++ ps) (pieces-front rest more long))
          (pieces_are (at ++ more) (text_of_key (at ++ more) key))))) in
          let same = alone (pieces (drop 8 rest ++ two.0)) (pieces (drop 8 rest ++ two.1)) one.0 other.0 (are two.0 one.1) (are two.1 other.1) one.2 other.2 in
          let keys = on.split two.0 ∙ ap (λ ps. on.front ++ ps) (pieces-front rest two.0 long ∙ ap (λ ps. piece_of rest ∷ ps) same ∙ sym (pieces-front rest two.1 long)) ∙ sym (on.split two.1) in
          two.2 (append_cancel_left at two.0 two.1 (pieces_same (at ++ two.0) (at ++ two.1) (text_of_key (at ++ two.0) one.1) (text_of_key (at ++ two.1) other.1) keys)))
          branch

      pub alone_absent : get map (piece_of rest) ≡ None → HasBranch (map_of arena) at → ⊥
      alone_absent none = no_branch (λ ps qs value other are also found there. absurd (none-some value (sym (lookup_absent (world_of arena) on.seat map on.is_level (piece_of rest) ps none) ∙ found)))

      pub alone_tail : (found value : ℕ) (held : List ℕ) → get map (piece_of rest) ≡ Some found → world_of arena (suc found) ≡ tail held value → HasBranch (map_of arena) at → ⊥
      alone_tail found value held is tailed = no_branch (λ ps qs one other are also here there.
          sym (tail_only (world_of arena) (suc found) held value tailed ps one (sym (lookup_inner (world_of arena) on.seat map on.is_level (piece_of rest) found ps is are) ∙ here))
          ∙ tail_only (world_of arena) (suc found) held value tailed qs other (sym (lookup_inner (world_of arena) on.seat map on.is_level (piece_of rest) found qs is also) ∙ there))

    module _ (is_arena : IsArena arena) (ended : rest ≡ []) where
      ends_here : (more : List ℕ) → pieces (at ++ more) ≡ on.front ++ pieces more
      ends_here more = on.split more ∙ ap (λ left. on.front ++ pieces (left ++ more)) ended

      at_spelled : at ≡ spelling on.front
      at_spelled =
          sym (spelling-pieces at (text_of_key at is_key)) ∙ ap (λ bytes. spelling (pieces bytes)) (sym (append-nil at)) ∙ ap spelling (ends_here []) ∙
          spelling-append on.front (pieces []) ∙ ap (λ none. spelling on.front ++ none) (spelling-pieces [] no_bytes) ∙ append-nil (spelling on.front)

      behind_is : is_arena.behind on.seat ≡ on.front
      behind_is = walk-behind (world_of arena) is_arena.behind is_arena.is_world 0 on.front on.seat on.inner on.way ∙ ap (λ place. place ++ on.front) is_arena.is_world.first

      -- Behind each piece of the level a key goes on.
      goes_on : (piece : ℕ) → IsTrue (contains_key map piece) → (more : List ℕ) × IsTrue (contains_key (map_of arena) (at ++ more)) × (piece ≡ piece_of more)
      goes_on piece held =
          let begun = begins is_arena.is_world on.seat map piece on.is_level held in
          let key = subst (λ place. SpellKey (place ++ piece ∷ begun.rest)) behind_is begun.spelled in
          let more = spelling (piece ∷ begun.rest) in
          let one : key.key ≡ at ++ more = sym (spelling-pieces key.key (text_of_key key.key key.is_key)) ∙ ap spelling key.spells ∙ spelling-append on.front (piece ∷ begun.rest) ∙
          ap (λ bytes. bytes ++ more) (sym at_spelled) in
          let its : pieces more ≡ piece ∷ begun.rest = append_cancel_left on.front (pieces more) (piece ∷ begun.rest) (sym (ends_here more) ∙ ap pieces (sym one) ∙ key.spells) in
          let head = pieces-head more in
          let both : piece ∷ begun.rest ≡ piece_of more ∷ head.0 = sym its ∙ head.1 in
          let has = get-table all_strings-all (λ k. lookup (world_of arena) 0 (pieces k)) key.key key.is_key ∙ ap (lookup (world_of arena) 0) key.spells ∙
          lookup-walk (world_of arena) 0 on.front on.seat piece begun.rest on.way ∙ begun.found in
          (more, subst (λ k. IsTrue (contains_key (map_of arena) k)) one (ap (λ (entry : Option ℕ). is_some entry) has), (let same : piece ≡ piece_of more = cc in same))

      comes_next : (piece : ℕ) → (more : List ℕ) × IsTrue (contains_key (map_of arena) (at ++ more)) × (piece ≡ piece_of more) → IsTrue (contains_key map piece)
      comes_next piece next =
          let there = held_found arena (at ++ next.0) next.1 in
          let head = pieces-head next.0 in
          let here = sym (lookup-walk (world_of arena) 0 on.front on.seat (piece_of next.0) head.0 on.way) ∙
          ap (lookup (world_of arena) 0) (sym (ends_here next.0 ∙ ap (λ ps. on.front ++ ps) head.1)) ∙ there.2 in
          subst (λ p. IsTrue (contains_key map p)) (sym next.2) (held_from_lookup (world_of arena) on.seat map on.is_level (piece_of next.0) there.0 head.0 here)

      pub level_ended : IsLevelOf (map_of arena) at map
      level_ended = record {
        pieces = λ piece. (goes_on piece, comes_next piece);
        ends = λ more value text short entry.
            let final = piece-IsFinal more text short in
            let key = subst (λ place. SpellKey (place ++ piece_of more ∷ [])) behind_is ((is_arena.is_world.levels on.seat map on.is_level).ends (piece_of more) value entry final) in
            let its : pieces (at ++ more) ≡ on.front ++ piece_of more ∷ [] = ends_here more ∙ ap (λ ps. on.front ++ ps) (pieces_short more short) in
            let one = pieces_same key.key (at ++ more) (text_of_key key.key key.is_key) (All-append (λ b. (b < 256) × (b ≢ 0)) at more (text_of_key at is_key) text) (key.spells ∙ sym its) in
            get-table all_strings-all (λ k. lookup (world_of arena) 0 (pieces k)) (at ++ more) (subst IsString one key.is_key) ∙ ap (lookup (world_of arena) 0) its ∙
            lookup-walk (world_of arena) 0 on.front on.seat (piece_of more) [] on.way ∙ lookup_final (world_of arena) on.seat map on.is_level (piece_of more) value entry;
      }
