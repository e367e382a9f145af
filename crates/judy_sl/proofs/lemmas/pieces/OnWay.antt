-- The way of a key, level by level.
use Rattle.std.proofs.Common.{◌≡◌, ◌≢◌, ℕ, zero, suc, ◌-◌, ◌+◌, ◌/◌, ◌<◌, ◌≤◌, List, [], ◌∷◌, ◌++◌, length, drop, get_or, Option, None, Some, refl, sym, ap, subst, ◌∙◌, arith}
use Rattle.std.proofs.lemmas.List.{append_assoc, length-append, length-drop, drop-drop, get_or_past}
use Rattle.std.specs.FinMap.{FinMap, get}
use Rattle.judy_model.specs.Keys.{word_order}
use Rattle.judy_sl.specs.Children.{IsTaken}
use Rattle.judy_sl.specs.declared.arena.Arena.{Arena}
use Rattle.judy_sl.specs.declared.arena.Place.{Place}
use Rattle.judy_sl.specs.declared.arena.Place.TheVariants.{Below}
use Rattle.judy_sl.specs.Pieces.{pieces, pieces_in, piece_of, IsText, IsInner, IsFinal, AreInner, SpellKey}
use Rattle.judy_sl.specs.World.{World, tail, level, lookup, at_entry}
use Rattle.judy_sl.specs.WorldInvariants.{IsWorld}
use Rattle.judy_sl.specs.Arenas.{world_of, child_at, IsArena}
use Rattle.judy_sl.specs.Ways.{IsOnWay, LeadsTo, HasValue, IsFound, IsGap, IsClash, place_in, seat_in, seat_of, piece_at, left_of}
use Rattle.judy_sl.proofs.lemmas.pieces.PieceLemmas.{text-drop, pieces_same, length-pieces}
use Rattle.judy_records.proofs.Spelling.{spelled-more}
use Rattle.judy_sl.proofs.lemmas.seats.Linked.{taken_of}
use Rattle.judy_sl.proofs.lemmas.pieces.Ways.{look_in, lookup-in, lookup-walk, lookup-level, walk-more, walk-behind, pieces_short, pieces_long, tail-same, tail-other}

-- It begins at the first level.
pub on-start : (world : World) (key : List ℕ) (map : FinMap word_order ℕ) → world 0 ≡ level map → IsOnWay world key 0 map key
on-start world key map is = record {
  leads = record { front = []; inner = tt; way = refl; parts = refl };
  is_level = is;
  text = λ text. text;
  is_left = (let e : length key - length key ≡ 0 = omega arith in ap (λ n. drop n key) (sym e));
  within = omega arith;
}

-- No piece deep.
pub start-deep : (world : World) (key : List ℕ) (map : FinMap word_order ℕ) (is : world 0 ≡ level map) → length (on-start world key map is).leads.front ≡ 0
unfolding on-start
start-deep world key map is = refl

pieces_in-head : (count : ℕ) (bytes : List ℕ) → (rest : List ℕ) × (pieces_in count bytes ≡ piece_of bytes ∷ rest)
pieces_in-head zero bytes = ([], refl)
pieces_in-head (suc count) bytes = (pieces_in count (drop 8 bytes), refl)

-- Pieces begin with the first.
pub pieces-head : (bytes : List ℕ) → (rest : List ℕ) × (pieces bytes ≡ piece_of bytes ∷ rest)
unfolding pieces
pieces-head bytes = pieces_in-head (length bytes / 8) bytes

pub inner-more : (front : List ℕ) (piece : ℕ) → AreInner front → IsInner piece → AreInner (front ++ piece ∷ [])
inner-more [] piece inner last = (last, tt)
inner-more (first ∷ front) piece inner last = (inner.0, inner-more front piece inner.1 last)

module _ (world : World) (key : List ℕ) (seat : ℕ) (map : FinMap word_order ℕ) (rest : List ℕ) (on : IsOnWay world key seat map rest) where
  -- It goes on under a whole piece.
  pub leads-on : (at : ℕ) → 8 ≤ length rest → IsInner (piece_of rest) → get map (piece_of rest) ≡ Some at → LeadsTo world key (suc at) (pieces (drop 8 rest))
  leads-on at long whole entry = record {
    front = on.leads.front ++ piece_of rest ∷ [];
    inner = inner-more on.leads.front (piece_of rest) on.leads.inner whole;
    way = walk-more world 0 on.leads.front seat map (piece_of rest) at on.leads.way on.is_level entry;
    parts = on.leads.parts ∙ ap (λ ps. on.leads.front ++ ps) (pieces_long rest long) ∙ sym (append_assoc on.leads.front (piece_of rest ∷ []) (pieces (drop 8 rest)));
  }

  pub left-on : 8 ≤ length rest → drop 8 rest ≡ left_of key (length (drop 8 rest))
  left-on long =
      let l = length-drop 8 rest in
      let k = length-drop (length key - length rest) key in
      let e : (length key - length rest) + 8 ≡ length key - length (drop 8 rest) = omega (arith, l, on.within) in
      ap (drop 8) on.is_left ∙ drop-drop 8 (length key - length rest) key ∙ ap (λ n. drop n key) e

  pub on-moved : (at : ℕ) (next : FinMap word_order ℕ) → 8 ≤ length rest → IsInner (piece_of rest) → get map (piece_of rest) ≡ Some at → world (suc at) ≡ level next →
      IsOnWay world key (suc at) next (drop 8 rest)
  on-moved at next long whole entry is = record {
    leads = leads-on at long whole entry;
    is_level = is;
    text = λ text. text-drop 8 rest (on.text text);
    is_left = left-on long;
    within = omega (arith, length-drop 8 rest, on.within);
  }

  -- It is one piece deeper then.
  pub moved-deep : (at : ℕ) (next : FinMap word_order ℕ) (long : 8 ≤ length rest) (whole : IsInner (piece_of rest)) (entry : get map (piece_of rest) ≡ Some at)
      (is : world (suc at) ≡ level next) → length (on-moved at next long whole entry is).leads.front ≡ suc (length on.leads.front)
  unfolding on-moved leads-on
  moved-deep at next long whole entry is = let sum = length-append on.leads.front (piece_of rest ∷ []) in omega (arith, sum)

  -- It has come down no more levels than the key has whole pieces.
  pub on-short : length on.leads.front ≤ length key / 8
  on-short =
      let all = ap (λ (ps : List ℕ). length ps) on.leads.parts in
      let sum = length-append on.leads.front (pieces rest) in
      let whole = length-pieces key in
      let left = length-pieces rest in
      omega (arith, all, sum, whole, left)

  -- What is found so far.
  pub on-found : lookup world 0 (pieces key) ≡ look_in world (level map) (pieces rest)
  on-found =
      let h = pieces-head rest in
      ap (lookup world 0) (on.leads.parts ∙ ap (λ ps. on.leads.front ++ ps) h.1)
      ∙ lookup-walk world 0 on.leads.front seat (piece_of rest) h.0 on.leads.way
      ∙ lookup-level world seat map (piece_of rest ∷ h.0) on.is_level
      ∙ ap (look_in world (level map)) (sym h.1)

-- The place of a piece in the level that the way has come to.
pub at-place : (child : Option ℕ) (piece : ℕ) (place : Place) → place ≡ place_in child piece → (seat_in child ≡ seat_of place) × (piece ≡ piece_at place)
at-place None piece place e = (ap seat_of (sym e), ap piece_at (sym e))
at-place (Some at) piece place e = (ap seat_of (sym e), ap piece_at (sym e))

-- The level has no entry.
pub on-gap : (world : World) (key : List ℕ) (map : FinMap word_order ℕ) (rest : List ℕ) (child : Option ℕ) (piece : ℕ) (place : Place) → IsOnWay world key (seat_in child) map rest →
    place ≡ place_in child piece → piece ≡ piece_of rest → get map piece ≡ None → IsText key → IsGap world key place (length rest)
on-gap world key map rest child piece place on e is none is_text =
    let here = at-place child piece place e in
    record {
      within = on.within;
      leads = subst (λ r. LeadsTo world key (seat_of place) (pieces r)) on.is_left (subst (λ seat. LeadsTo world key seat (pieces rest)) here.0 on.leads);
      text = subst IsText on.is_left (on.text is_text);
      map = map;
      is_level = ap world (sym here.0) ∙ on.is_level;
      next = sym here.1 ∙ is ∙ ap piece_of on.is_left;
      absent = ap (get map) (sym here.1) ∙ none;
    }

-- Of fewer than eight bytes the lowest of a piece is missing.
pub short-IsFinal : (bytes : List ℕ) → length bytes < 8 → IsFinal (piece_of bytes)
unfolding piece_of
short-IsFinal bytes short =
    let e = spelled-more 7 bytes in
    let none : get_or bytes 7 0 ≡ 0 = get_or_past bytes 7 0 (omega arith) in
    omega arith

-- The level has the last piece.
pub on-last : (world : World) (key : List ℕ) (map : FinMap word_order ℕ) (rest : List ℕ) (child : Option ℕ) (piece : ℕ) (place : Place) → IsOnWay world key (seat_in child) map rest →
    place ≡ place_in child piece → piece ≡ piece_of rest → length rest < 8 → (value : ℕ) → get map piece ≡ Some value → IsFound world key place
on-last world key map rest child piece place on e is short value entry =
    let here = at-place child piece place e in
    record {
      rest = pieces rest;
      leads = subst (λ seat. LeadsTo world key seat (pieces rest)) here.0 on.leads;
      value = value;
      has =
          subst (λ p. HasValue (world (seat_of place)) p (pieces rest) value) here.1 (subst (λ node. HasValue node piece (pieces rest) value)
          (sym (ap world (sym here.0) ∙ on.is_level)) (pieces_short rest short ∙ ap (λ p. p ∷ []) (sym is), subst IsFinal (sym is) (short-IsFinal rest short), entry));
    }

pub pieces-some : (bytes : List ℕ) → pieces bytes ≢ []
pieces-some bytes e = let h = pieces-head bytes in (let g : piece_of bytes ∷ h.0 ≡ [] = sym h.1 ∙ e in cc)

module _ (world : World) (key : List ℕ) (seat : ℕ) (map : FinMap word_order ℕ) (rest : List ℕ) (on : IsOnWay world key seat map rest) (long : 8 ≤ length rest)
    (whole : IsInner (piece_of rest)) (at : ℕ) (entry : get map (piece_of rest) ≡ Some at) (held : List ℕ) (value : ℕ) (is : world (suc at) ≡ tail (pieces held) value) where
  -- The way comes to the key's own tail.
  pub on-tail : held ≡ drop 8 rest → IsFound world key (Below at 0)
  on-tail e = record {
    rest = pieces (drop 8 rest);
    leads = leads-on world key seat map rest on at long whole entry;
    value = value;
    has = subst (λ node. HasValue node 0 (pieces (drop 8 rest)) value) (sym is) (ap pieces e, pieces-some (drop 8 rest), refl);
  }

  -- The way comes to another's.
  pub on-clash : IsText held → held ≢ drop 8 rest → IsText key → (from : Place) → (seat ≡ seat_of from) × (piece_of rest ≡ piece_at from) → IsClash world key from at (length (drop 8 rest))
  on-clash text ne is_text from here =
      let left = left-on world key seat map rest on long in
      record {
        map = map;
        is_level = ap world (sym here.0) ∙ on.is_level;
        inner = subst IsInner here.1 whole;
        entry = ap (get map) (sym here.1) ∙ entry;
        leads_from =
            subst (λ r. LeadsTo world key (seat_of from) (piece_at from ∷ pieces r)) left (subst (λ ps. LeadsTo world key (seat_of from) ps)
            (pieces_long rest long ∙ ap (λ p. p ∷ pieces (drop 8 rest)) here.1) (subst (λ s. LeadsTo world key s (pieces rest)) here.0 on.leads));
        within = omega (arith, length-drop 8 rest, on.within);
        leads = subst (λ r. LeadsTo world key (suc at) (pieces r)) left (leads-on world key seat map rest on at long whole entry);
        text = subst IsText left (text-drop 8 rest (on.text is_text));
        held = pieces held;
        value = value;
        is_tail = is;
        other = subst (λ r. pieces held ≢ pieces r) left (λ e. ne (pieces_same held (drop 8 rest) text (text-drop 8 rest (on.text is_text)) e));
      }

  -- What is found there.
  found-there : lookup world 0 (pieces key) ≡ look_in world (world (suc at)) (pieces (drop 8 rest))
  found-there =
      ap (lookup world 0) (leads-on world key seat map rest on at long whole entry).parts
      ∙ (let h = pieces-head (drop 8 rest) in
      let to = leads-on world key seat map rest on at long whole entry in
      ap (λ ps. lookup world 0 (to.front ++ ps)) h.1
      ∙ lookup-walk world 0 to.front (suc at) (piece_of (drop 8 rest)) h.0 to.way
      ∙ lookup-in world (suc at) (piece_of (drop 8 rest) ∷ h.0)
      ∙ ap (look_in world (world (suc at))) (sym h.1))

  pub found-tail : held ≡ drop 8 rest → lookup world 0 (pieces key) ≡ Some value
  found-tail e =
      found-there
      ∙ ap (λ node. look_in world node (pieces (drop 8 rest))) (is ∙ ap (λ l. tail (pieces l) value) e)
      ∙ tail-same world (pieces (drop 8 rest)) value (pieces-some (drop 8 rest))

  pub found-clash : IsText held → held ≢ drop 8 rest → IsText key → lookup world 0 (pieces key) ≡ None
  found-clash text ne is_text =
      found-there
      ∙ ap (λ node. look_in world node (pieces (drop 8 rest))) is
      ∙ tail-other world (pieces held) (pieces (drop 8 rest)) value (λ e. ne (pieces_same held (drop 8 rest) text (text-drop 8 rest (on.text is_text)) e))

module _ (arena : Arena) (is : IsArena arena) (key : List ℕ) (seat : ℕ) (map : FinMap word_order ℕ) (rest : List ℕ) (on : IsOnWay (world_of arena) key seat map rest) where
  -- Something stands where an entry leads.
  pub on-taken : IsInner (piece_of rest) → (at : ℕ) → get map (piece_of rest) ≡ Some at → IsTaken (child_at arena at)
  on-taken whole at entry = taken_of arena at ((is.is_world.levels seat map on.is_level).leads (piece_of rest) at entry whole).1

  -- The level has no entry, so the key isn't there.
  pub found-none : get map (piece_of rest) ≡ None → lookup (world_of arena) 0 (pieces key) ≡ None
  found-none none =
      let h = pieces-head rest in
      on-found (world_of arena) key seat map rest on
      ∙ ap (look_in (world_of arena) (level map)) h.1
      ∙ ap (λ o. at_entry o h.0 (λ at. lookup (world_of arena) (suc at) h.0)) none

  -- The last piece decides.
  pub found-last : length rest < 8 → lookup (world_of arena) 0 (pieces key) ≡ get map (piece_of rest)
  found-last short =
      on-found (world_of arena) key seat map rest on
      ∙ ap (look_in (world_of arena) (level map)) (pieces_short rest short)
      ∙ at-end (get map (piece_of rest))
    where
      at-end : (o : Option ℕ) → at_entry o [] (λ at. lookup (world_of arena) (suc at) []) ≡ o
      at-end None = refl
      at-end (Some v) = refl

-- Where something is found, these are the pieces of a key.
module _ (world : World) (behind : ℕ → List ℕ) (is : IsWorld world behind) (key : List ℕ) (seat : ℕ) (map : FinMap word_order ℕ) (rest : List ℕ) (on : IsOnWay world key seat map rest) where
  leads-behind : (end : ℕ) (ps : List ℕ) (leads : LeadsTo world key end ps) → behind end ++ ps ≡ pieces key
  leads-behind end ps leads =
      ap (λ place. place ++ ps) (walk-behind world behind is 0 leads.front end leads.inner leads.way ∙ ap (λ place. place ++ leads.front) is.first) ∙ sym leads.parts

  pub spelled-tail : 8 ≤ length rest → IsInner (piece_of rest) → (at : ℕ) → get map (piece_of rest) ≡ Some at → (held : List ℕ) (value : ℕ) →
      world (suc at) ≡ tail (pieces held) value → held ≡ drop 8 rest → SpellKey (pieces key)
  spelled-tail long whole at entry held value tailed e =
      subst SpellKey (ap (λ bytes. behind (suc at) ++ pieces bytes) e ∙ leads-behind (suc at) (pieces (drop 8 rest)) (leads-on world key seat map rest on at long whole entry))
      (is.tails (suc at) (pieces held) value tailed)

  pub spelled-last : length rest < 8 → (value : ℕ) → get map (piece_of rest) ≡ Some value → SpellKey (pieces key)
  spelled-last short value entry =
      subst SpellKey (ap (λ ps. behind seat ++ ps) (sym (pieces_short rest short)) ∙ leads-behind seat (pieces rest) on.leads)
      ((is.levels seat map on.is_level).ends (piece_of rest) value entry (short-IsFinal rest short))
