-- The way down from an entry to the first of the keys behind it.
use Rattle.std.proofs.Common.{◌≡◌, ◌≢◌, ℕ, zero, suc, ◌+◌, ◌*◌, ◌^◌, ◌%◌, ◌≤◌, IsTrue, IsFalse, inl, ⊎_elim, List, [], ◌∷◌, ◌++◌, length, take, drop, Option, Some, None, is_some, sym}
use Rattle.std.proofs.Common.{refl, ap, ◌∙◌, subst, arith, true≢false}
use Rattle.std.specs.FinMap.{FinMap, nat_cmp-IsAntisymmetric, keys, get, contains_key, empty, empty_of_len, same_map, get-empty}
use Rattle.std.specs.Cmp.{nat_cmp_total}
use Rattle.std.proofs.lemmas.Bool.{cases_eq, cases_lt}
use Rattle.std.proofs.lemmas.List.{append_assoc, append-nil, length-append, length-drop}
use Rattle.judy_model.specs.Keys.{IsWord, word_order}
use Rattle.judy_model.proofs.lemmas.maps.Ascending.{Among}
use Rattle.judy_model.proofs.lemmas.maps.KeysLemmas.{length-keys, contains_key-from_among}
use Rattle.judy_sl.specs.declared.arena.Place.TheVariants.{Below}
use Rattle.judy_sl.specs.declared.scans.Look.{Look}
use Rattle.judy_sl.specs.declared.scans.Turn.{Turn}
use Rattle.judy_sl.specs.Pieces.{piece_of, pieces, piece_bytes, spelling, IsFinal, IsInner, AreInner, ArePieces, IsText, SpellKey}
use Rattle.judy_sl.specs.World.{World, Node, gone, tail, level, lookup, walk}
use Rattle.judy_sl.specs.Ways.{seat_in, place_in, HasValue, IsFound}
use Rattle.judy_sl.specs.WorldInvariants.{IsWorld}
use Rattle.judy_sl.specs.Scans.{IsFirstEntry, IsNear, IsEnd, IsTurnOf, IsNeighbour}
use Rattle.judy_sl.proofs.lemmas.pieces.Ways.{pieces_short, pieces_long, lookup-walk, walk-more, walk-behind}
use Rattle.judy_sl.proofs.lemmas.pieces.PieceLemmas.{text_of_key, pieces_are, piece_of-lt, text-drop}
use Rattle.judy_sl.proofs.lemmas.pieces.PieceBytes.{spelling-pieces, spelling-append}
use Rattle.judy_sl.proofs.lemmas.scans.ScanLevels.{pieces_rest, at_tail, lookup_final, lookup_inner, end_final, end_tail, end_level}
use Rattle.judy_sl.proofs.lemmas.scans.ScanWays.{AreInner-more}
use Rattle.judy_sl.proofs.lemmas.pieces.OnWay.{pieces-head, pieces-some}
use Rattle.judy_model.specs.declared.keys.TheConstants.{LONGEST_STRING}
use Rattle.judy_sl.specs.Strings.{IsString}

-- ---- each entry begins a key

not_nil : (front : List ℕ) (piece : ℕ) (rest : List ℕ) → [] ≢ front ++ piece ∷ rest
not_nil [] piece rest e = cc
not_nil (first ∷ front) piece rest e = cc

-- A text with these pieces, no longer than a key may be.
pub record TextBehind (ps : List ℕ) : Type 0 where
  pub bytes : List ℕ
  pub text : IsText bytes
  pub spells : pieces bytes ≡ ps
  pub within : length bytes ≤ LONGEST_STRING

-- What stands behind the first pieces of a text are the pieces of one.
pub text_behind : (front : List ℕ) (piece : ℕ) (rest bytes : List ℕ) → IsText bytes → length bytes ≤ LONGEST_STRING → pieces bytes ≡ front ++ piece ∷ rest → TextBehind (piece ∷ rest)
text_behind [] piece rest bytes text within is = record { bytes = bytes; text = text; spells = is; within = within }
text_behind (first ∷ front) piece rest bytes text within is = ⊎_elim
    (λ short. let both : piece_of bytes ∷ [] ≡ first ∷ front ++ piece ∷ rest = sym (pieces_short bytes short) ∙ is in let none : [] ≡ front ++ piece ∷ rest = cc in
    absurd (not_nil front piece rest none))
    (λ long. let both : piece_of bytes ∷ pieces (drop 8 bytes) ≡ first ∷ front ++ piece ∷ rest = sym (pieces_long bytes long) ∙ is in
    let others : pieces (drop 8 bytes) ≡ front ++ piece ∷ rest = cc in
    let left = length-drop 8 bytes in
    text_behind front piece rest (drop 8 bytes) (text-drop 8 bytes text) (omega arith) others)
    (cases_lt (length bytes) 8)

-- The first of them is the piece with which it begins.
pub text_begins : (piece : ℕ) (rest : List ℕ) (text : TextBehind (piece ∷ rest)) → piece_of text.bytes ≡ piece
text_begins piece rest text = let head = pieces-head text.bytes in let both : piece_of text.bytes ∷ head.0 ≡ piece ∷ rest = sym head.1 ∙ text.spells in cc

-- A map that holds no key is empty.
pub empty_from_none : (map : FinMap word_order ℕ) → ((key : ℕ) → IsFalse (contains_key map key)) → map ≡ empty
empty_from_none map none = same_map nat_cmp_total nat_cmp-IsAntisymmetric map empty (λ key. absent (get map key) (none key) ∙ sym (get-empty word_order key))
  where
    absent : (found : Option ℕ) → IsFalse (is_some found) → found ≡ None
    absent None e = refl
    absent (Some value) e = absurd (true≢false e)

pub value_held : (map : FinMap word_order ℕ) (piece : ℕ) → IsTrue (contains_key map piece) → (value : ℕ) × (get map piece ≡ Some value)
value_held map piece held = by (get map piece) refl held
  where
    by : (found : Option ℕ) → get map piece ≡ found → IsTrue (is_some found) → (value : ℕ) × (get map piece ≡ Some value)
    by None is so = absurd (true≢false (sym so))
    by (Some value) is so = (value, is)

-- A map that isn't empty has an entry.
some_entry : (map : FinMap word_order ℕ) → map ≢ empty → (piece : ℕ) × (value : ℕ) × (get map piece ≡ Some value)
some_entry map used = by (keys map) refl
  where
    by : (all : List ℕ) → keys map ≡ all → (piece : ℕ) × (value : ℕ) × (get map piece ≡ Some value)
    by [] is = absurd (used (empty_of_len map (sym (length-keys map) ∙ ap length is)))
    by (piece ∷ others) is =
        let held = value_held map piece (contains_key-from_among nat_cmp_total nat_cmp-IsAntisymmetric map piece (subst (λ all. Among all piece) (sym is) (inl refl))) in
        (piece, held.0, held.1)

length-more : (place : List ℕ) (piece : ℕ) → length (place ++ piece ∷ []) ≡ length place + 1
length-more place piece = length-append place (piece ∷ [])

-- What stands behind others in the pieces of a key are pieces.
pub are_behind : (front : List ℕ) (piece : ℕ) (rest : List ℕ) → ArePieces (front ++ piece ∷ rest) → ArePieces (piece ∷ rest)
are_behind [] piece rest are = are
are_behind (first ∷ []) piece rest are = are.1
are_behind (first ∷ second ∷ front) piece rest are = are_behind (second ∷ front) piece rest are.1

-- So pieces of a key do.
key_behind : (front : List ℕ) (piece : ℕ) (rest : List ℕ) → SpellKey (front ++ piece ∷ rest) → ArePieces (piece ∷ rest)
key_behind front piece rest key = are_behind front piece rest (subst ArePieces key.spells (pieces_are key.key (text_of_key key.key key.is_key)))

-- A key of the array begins with a place and a piece there.
pub record Begins (world : World) (place : List ℕ) (seat piece : ℕ) : Type 0 where
  pub rest : List ℕ
  pub spelled : SpellKey (place ++ piece ∷ rest)
  pub value : ℕ
  pub found : lookup world seat (piece ∷ rest) ≡ Some value

module _ {world : World} {behind : ℕ → List ℕ} (is_world : IsWorld world behind) where
  -- One begins with a place and an inner piece, where one does so with each entry of the level that it leads to.
  begins_behind : (seat : ℕ) (map : FinMap word_order ℕ) (piece at : ℕ) (is_level : world seat ≡ level map) (entry : get map piece ≡ Some at) (inner : IsInner piece)
      → ((below : FinMap word_order ℕ) (next found : ℕ) → world (suc at) ≡ level below → get below next ≡ Some found → Begins world (behind (suc at)) (suc at) next)
      → (node : Node) → world (suc at) ≡ node → node ≢ gone → behind (suc at) ≡ behind seat ++ piece ∷ [] → Begins world (behind seat) seat piece
  begins_behind seat map piece at is_level entry inner each gone is some leads = absurd (some refl)
  begins_behind seat map piece at is_level entry inner each (tail held value) is some leads =
      let key = subst SpellKey (ap (λ ps. ps ++ held) leads ∙ append_assoc (behind seat) (piece ∷ []) held) (is_world.tails (suc at) held value is) in
      let are = pieces_rest piece held inner (key_behind (behind seat) piece held key) in
      record { rest = held; spelled = key; value = value; found = lookup_inner world seat map is_level piece at held entry are ∙ at_tail world (suc at) held value is are }
  begins_behind seat map piece at is_level entry inner each (level below) is some leads =
      let first = some_entry below (is_world.used at below is) in
      let begun = each below first.0 first.1 is first.2 in
      let key = subst SpellKey (ap (λ ps. ps ++ first.0 ∷ begun.rest) leads ∙ append_assoc (behind seat) (piece ∷ []) (first.0 ∷ begun.rest)) begun.spelled in
      let are = pieces_rest piece (first.0 ∷ begun.rest) inner (key_behind (behind seat) piece (first.0 ∷ begun.rest) key) in
      record { rest = first.0 ∷ begun.rest; spelled = key; value = begun.value; found = lookup_inner world seat map is_level piece at (first.0 ∷ begun.rest) entry are ∙ begun.found }

  begins_entry : (seat : ℕ) (map : FinMap word_order ℕ) (piece at : ℕ) → world seat ≡ level map → get map piece ≡ Some at
      → ((below : FinMap word_order ℕ) (next found : ℕ) → length (behind (suc at)) ≡ length (behind seat) + 1 → 8 * length (behind (suc at)) ≤ LONGEST_STRING →
      world (suc at) ≡ level below → get below next ≡ Some found → Begins world (behind (suc at)) (suc at) next)
      → Begins world (behind seat) seat piece
  begins_entry seat map piece at is entry each = ⊎_elim
      (λ final. record { rest = []; spelled = (is_world.levels seat map is).ends piece at entry final; value = at; found = lookup_final world seat map is piece at entry })
      (λ inner.
      let leads = (is_world.levels seat map is).leads piece at entry inner in
      begins_behind seat map piece at is entry inner (λ below next found also there. each below next found (ap length leads.0 ∙ length-more (behind seat) piece)
      (is_world.levels (suc at) below also).short also there) (world (suc at)) refl leads.1 leads.0)
      (cases_eq (piece % 256) 0)

  begins_within : (fuel seat : ℕ) (map : FinMap word_order ℕ) (piece at : ℕ) → 2 ^ 60 ≤ length (behind seat) + fuel → world seat ≡ level map → get map piece ≡ Some at →
      Begins world (behind seat) seat piece
  begins_within zero seat map piece at deep is entry = begins_entry seat map piece at is entry (λ below next found longer short also there. let never : ⊥ = omega arith in absurd never)
  begins_within (suc fuel) seat map piece at deep is entry =
      begins_entry seat map piece at is entry (λ below next found longer short also there. begins_within fuel (suc at) below next found (omega arith) also there)

  -- A key begins with a place and each entry there.
  pub begins : (seat : ℕ) (map : FinMap word_order ℕ) (piece : ℕ) → world seat ≡ level map → IsTrue (contains_key map piece) → Begins world (behind seat) seat piece
  begins seat map piece is held = let value = value_held map piece held in begins_within (2 ^ 60) seat map piece value.0 (omega arith) is value.1

  -- The entries of a level are words.
  pub level_words : (seat : ℕ) (map : FinMap word_order ℕ) → world seat ≡ level map → (piece : ℕ) → IsTrue (contains_key map piece) → IsWord piece
  level_words seat map is piece held =
      let key = begins seat map piece is held in
      let text = text_behind (behind seat) piece key.rest key.spelled.key (text_of_key key.spelled.key key.spelled.is_key) key.spelled.is_key.is_bytes_key.within_limit key.spelled.spells in
      subst IsWord (text_begins piece key.rest text) (piece_of-lt text.bytes text.text)

-- ---- the way down

-- How far a scan has come: behind the pieces that the buffer spells the level has an entry, and the first of the
-- keys behind it is met first of all.
pub record OnFollow (look : Look) (world : World) (key : List ℕ) (map : FinMap word_order ℕ) (piece : ℕ) (bytes : List ℕ) : Type 0 where
  pub front : List ℕ
  pub seat : ℕ
  pub way : walk world 0 front ≡ Some seat
  pub inner : AreInner front
  pub spells : bytes ≡ spelling front
  pub is_level : world seat ≡ level map
  pub held : IsTrue (contains_key map piece)
  pub near : (rest : List ℕ) → IsEnd look world seat piece rest → IsNear look world 0 (pieces key) (front ++ piece ∷ rest)

-- The same of the level of a child or the first one, where the entry has the value.
pub record Following (look : Look) (world : World) (key : List ℕ) (child : Option ℕ) (piece value : ℕ) (bytes : List ℕ) : Type 0 where
  pub map : FinMap word_order ℕ
  pub on : OnFollow look world key map piece bytes
  pub stands : on.seat ≡ seat_in child
  pub entry : get map piece ≡ Some value

-- At the turn.
pub follow_start : (look : Look) (world : World) (key : List ℕ) (turn : Turn) → IsTurnOf look world key turn → Following look world key turn.child turn.piece turn.value (take turn.depth key)
follow_start look world key turn at = record {
  map = at.map;
  on = record {
    front = at.front;
    seat = seat_in turn.child;
    way = at.way;
    inner = at.inner;
    spells = at.deep;
    is_level = at.is_level;
    held = ap (λ (found : Option ℕ). is_some found) at.held;
    near = at.near;
  };
  stands = refl;
  entry = at.held;
}

module _ {look : Look} {world : World} {behind : ℕ → List ℕ} (is_world : IsWorld world behind) (key : List ℕ) (map : FinMap word_order ℕ) (piece : ℕ) (bytes : List ℕ)
    (on : OnFollow look world key map piece bytes) where
  pub place_is : behind on.seat ≡ on.front
  place_is = walk-behind world behind is_world 0 on.front on.seat on.inner on.way ∙ ap (λ place. place ++ on.front) is_world.first

  -- A key that begins so is what its pieces spell.
  pub key_spelled : (rest : List ℕ) (key : SpellKey (on.front ++ piece ∷ rest)) → key.key ≡ (bytes ++ piece_bytes piece) ++ spelling rest
  key_spelled rest key = sym (spelling-pieces key.key (text_of_key key.key key.is_key)) ∙ ap spelling key.spells ∙ spelling-append on.front (piece ∷ rest)
      ∙ ap (λ front. front ++ (piece_bytes piece ++ spelling rest)) (sym on.spells) ∙ sym (append_assoc bytes (piece_bytes piece) (spelling rest))

  -- The buffer has room for the bytes of the piece.
  pub follow_room : length bytes + length (piece_bytes piece) ≤ LONGEST_STRING
  follow_room =
      let begun = begins is_world on.seat map piece on.is_level on.held in
      let spelled = subst (λ place. SpellKey (place ++ piece ∷ begun.rest)) place_is begun.spelled in
      let long = ap length (key_spelled begun.rest spelled) ∙ length-append (bytes ++ piece_bytes piece) (spelling begun.rest) in
      let parts = length-append bytes (piece_bytes piece) in
      let within = spelled.is_key.is_bytes_key.within_limit in
      omega arith

  -- Its pieces are then those of the buffer.
  pub its_pieces : (rest after : List ℕ) → SpellKey (on.front ++ piece ∷ rest) → after ≡ (bytes ++ piece_bytes piece) ++ spelling rest → pieces after ≡ on.front ++ piece ∷ rest
  its_pieces rest after spelled is = ap pieces (is ∙ sym (key_spelled rest spelled)) ∙ spelled.spells

  -- A key whose bytes the buffer then has, and whose value was found, is the neighbour.
  finish : (rest : List ℕ) (value : ℕ) (after : List ℕ) → SpellKey (on.front ++ piece ∷ rest) → IsEnd look world on.seat piece rest → lookup world on.seat (piece ∷ rest) ≡ Some value →
      after ≡ (bytes ++ piece_bytes piece) ++ spelling rest → IsNeighbour look world key after (Some value)
  finish rest value after spelled end found is =
      let one : after ≡ spelled.key = is ∙ sym (key_spelled rest spelled) in
      let its = its_pieces rest after spelled is in (
        subst (IsNear look world 0 (pieces key)) (sym its) (on.near rest end),
        subst IsString (sym one) spelled.is_key,
        ap (lookup world 0) its ∙ lookup-walk world 0 on.front on.seat piece rest on.way ∙ found,
      )

  -- Where a key ends.
  pub follow_last : (value : ℕ) → IsFinal piece → get map piece ≡ Some value → IsNeighbour look world key (bytes ++ piece_bytes piece) (Some value)
  follow_last value final is = finish [] value (bytes ++ piece_bytes piece)
      (subst (λ place. SpellKey (place ++ piece ∷ [])) place_is ((is_world.levels on.seat map on.is_level).ends piece value is final))
      (end_final look world on.seat map on.is_level piece value final is)
      (lookup_final world on.seat map on.is_level piece value is)
      (sym (append-nil (bytes ++ piece_bytes piece)))

  -- Its value stands in the level.
  pub follow_place : (child : Option ℕ) (value : ℕ) → on.seat ≡ seat_in child → IsFinal piece → get map piece ≡ Some value → IsFound world (bytes ++ piece_bytes piece) (place_in child piece)
  follow_place child value stands final is = by child stands
    where
      its : pieces (bytes ++ piece_bytes piece) ≡ on.front ++ piece ∷ []
      its = its_pieces [] (bytes ++ piece_bytes piece)
          (subst (λ place. SpellKey (place ++ piece ∷ [])) place_is ((is_world.levels on.seat map on.is_level).ends piece value is final))
          (sym (append-nil (bytes ++ piece_bytes piece)))

      by : (child : Option ℕ) → on.seat ≡ seat_in child → IsFound world (bytes ++ piece_bytes piece) (place_in child piece)
      by None stands = record {
        rest = piece ∷ [];
        leads = record { front = on.front; inner = on.inner; way = on.way ∙ ap (λ s. Some s) stands; parts = its };
        value = value;
        has = subst (λ node. HasValue node piece (piece ∷ []) value) (sym on.is_level ∙ ap world stands) (refl, final, is);
      }
      by (Some at) stands = record {
        rest = piece ∷ [];
        leads = record { front = on.front; inner = on.inner; way = on.way ∙ ap (λ s. Some s) stands; parts = its };
        value = value;
        has = subst (λ node. HasValue node piece (piece ∷ []) value) (sym on.is_level ∙ ap world stands) (refl, final, is);
      }

  module _ (at : ℕ) (is : get map piece ≡ Some at) (inner : IsInner piece) where
    pub leads : (behind (suc at) ≡ on.front ++ piece ∷ []) × (world (suc at) ≢ gone)
    leads = let there = (is_world.levels on.seat map on.is_level).leads piece at is inner in (there.0 ∙ ap (λ place. place ++ piece ∷ []) place_is, there.1)

    -- It leads on.
    pub follow_on : world (suc at) ≢ gone
    follow_on = leads.1

    -- To a tail.
    module _ (held : List ℕ) (value : ℕ) (tailed : world (suc at) ≡ tail (pieces held) value) (text : IsText held) where
      pub tail_key : SpellKey (on.front ++ piece ∷ pieces held)
      tail_key = subst SpellKey (ap (λ place. place ++ pieces held) leads.0 ∙ append_assoc on.front (piece ∷ []) (pieces held)) (is_world.tails (suc at) (pieces held) value tailed)

      -- The buffer has room for it.
      pub follow_tail_room : length (bytes ++ piece_bytes piece) + length held ≤ LONGEST_STRING
      follow_tail_room =
          let long = ap length (key_spelled (pieces held) tail_key) ∙ length-append (bytes ++ piece_bytes piece) (spelling (pieces held)) in
          let same = ap length (spelling-pieces held text) in
          let within = tail_key.is_key.is_bytes_key.within_limit in
          omega arith

      -- And its key is the neighbour.
      pub follow_tail : IsNeighbour look world key ((bytes ++ piece_bytes piece) ++ held) (Some value)
      follow_tail =
          let end = end_tail look world on.seat map on.is_level piece at value (pieces held) is inner tailed (pieces_are held text) in
          finish (pieces held) value ((bytes ++ piece_bytes piece) ++ held) tail_key end (lookup_inner world on.seat map on.is_level piece at (pieces held) is (pieces_are held text) ∙
          at_tail world (suc at) (pieces held) value tailed (pieces_are held text)) (ap (λ more. (bytes ++ piece_bytes piece) ++ more) (sym (spelling-pieces held text)))

      -- Its value stands in the tail.
      pub follow_tail_place : IsFound world ((bytes ++ piece_bytes piece) ++ held) (Below at 0)
      follow_tail_place = record {
        rest = pieces held;
        leads = record {
          front = on.front ++ piece ∷ [];
          inner = AreInner-more on.front piece on.inner inner;
          way = walk-more world 0 on.front on.seat map piece at on.way on.is_level is;
          parts =
              its_pieces (pieces held) ((bytes ++ piece_bytes piece) ++ held) tail_key (ap (λ more. (bytes ++ piece_bytes piece) ++ more) (sym (spelling-pieces held text))) ∙
              sym (append_assoc on.front (piece ∷ []) (pieces held));
        };
        value = value;
        has = subst (λ node. HasValue node 0 (pieces held) value) (sym tailed) (refl, pieces-some held, refl);
      }

    -- To a level, which has a first entry.
    module _ (below : FinMap word_order ℕ) (is_below : world (suc at) ≡ level below) where
      pub follow_some : IsFirstEntry look.side below None → ⊥
      follow_some none = is_world.used at below is_below (empty_from_none below none)

      unfoldable pub follow_level : (next : ℕ) → IsFirstEntry look.side below (Some next) → OnFollow look world key below next (bytes ++ piece_bytes piece)
      follow_level next first = record {
        front = on.front ++ piece ∷ [];
        seat = suc at;
        way = walk-more world 0 on.front on.seat map piece at on.way on.is_level is;
        inner = AreInner-more on.front piece on.inner inner;
        spells = ap (λ front. front ++ piece_bytes piece) on.spells ∙ ap (λ more. spelling on.front ++ more) (sym (append-nil (piece_bytes piece))) ∙ sym (spelling-append on.front (piece ∷ []));
        is_level = is_below;
        held = first.0;
        near =
            λ rest end. subst (IsNear look world 0 (pieces key)) (sym (append_assoc on.front (piece ∷ []) (next ∷ rest)))
            (on.near (next ∷ rest) (end_level look world on.seat map on.is_level piece at next rest below is inner is_below first end));
      }

      pub follow_down : (next : ℕ × ℕ) → IsFirstEntry look.side below (Some next.0) → get below next.0 ≡ Some next.1 → Following look world key (Some at) next.0 next.1 (bytes ++ piece_bytes piece)
      unfolding follow_level
      follow_down next first entry = record { map = below; on = follow_level next.0 first; stands = refl; entry = entry }
