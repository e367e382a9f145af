-- The two ways of a scan: down the pieces of a key, and down from the entry where it turns.
use Rattle.std.proofs.Common.{◌≡◌, ℕ, suc, ◌+◌, ◌-◌, ◌*◌, ◌<◌, ◌≤◌, false, IsTrue, List, [], ◌∷◌, ◌++◌, length, take, drop, Option, Some, None, IfSome, sym, refl, ap, ◌∙◌, subst, arith}
use Rattle.std.specs.FinMap.{FinMap, get}
use Rattle.std.proofs.lemmas.List.{append_assoc, take-append-drop, take_at, length-append, length-drop, append-nil}
use Rattle.judy_model.specs.Keys.{word_order}
use Rattle.judy_sl.specs.declared.scans.Look.{Look}
use Rattle.judy_sl.specs.declared.scans.Turn.{Turn}
use Rattle.judy_sl.specs.Pieces.{piece_of, pieces, piece_bytes, spelling, IsInner, AreInner, IsText}
use Rattle.judy_sl.specs.World.{World, tail, level, walk}
use Rattle.judy_sl.specs.Ways.{seat_in}
use Rattle.judy_sl.specs.Scans.{IsNearestEntry, piece_in, IsEntryOf, turn_or, meets, IsNone, IsNear, IsEnd, IsTurn, IsTurnOf}
use Rattle.judy_sl.proofs.lemmas.pieces.Ways.{pieces_short, pieces_long, walk-more}
use Rattle.judy_sl.proofs.lemmas.pieces.PieceLemmas.{text-drop, piece-IsFinal, piece-IsInner}
use Rattle.judy_sl.proofs.lemmas.pieces.PieceBytes.{bytes-piece, spelling-append}
use Rattle.judy_sl.proofs.lemmas.pieces.OnWay.{pieces-head}
use Rattle.judy_sl.proofs.lemmas.scans.ScanLevels.{NoneBehind, none_child, moved_near, turned_near, turned_none, last_near, last_none, tail_end}

pub AreInner-more : (front : List ℕ) (piece : ℕ) → AreInner front → IsInner piece → AreInner (front ++ piece ∷ [])
AreInner-more [] piece inner also = (also, tt)
AreInner-more (first ∷ front) piece inner also = (inner.0, AreInner-more front piece inner.1 also)

-- How far a scan has come down a key: behind the front of its pieces is this level, that of a child or the first one, the rest
-- of the key is left, and what is met first behind this level is met first of all.
pub record OnScan (look : Look) (world : World) (key : List ℕ) (child : Option ℕ) (map : FinMap word_order ℕ) (rest : List ℕ) : Type 0 where
  pub front : List ℕ
  pub way : walk world 0 front ≡ Some (seat_in child)
  pub inner : AreInner front
  pub is_level : world (seat_in child) ≡ level map
  pub cut : key ≡ spelling front ++ rest
  pub parts : pieces key ≡ front ++ pieces rest
  pub long : length key ≡ 8 * length front + length rest
  pub text : IsText rest
  pub near : (near : List ℕ) → IsNear look world (seat_in child) (pieces rest) near → IsNear look world 0 (pieces key) (front ++ near)

-- Where nothing is met behind the level, what is met first is where the turn is.
pub record OnTurn (look : Look) (world : World) (key : List ℕ) (child : Option ℕ) (map : FinMap word_order ℕ) (rest : List ℕ) (turn : Option Turn) : Type 0 where
  pub scan : OnScan look world key child map rest
  pub none : IsNone look world (seat_in child) (pieces rest) → IsTurn look world key turn

module _ (look : Look) (world : World) (key : List ℕ) where
  -- At the beginning.
  pub scan_start : (map : FinMap word_order ℕ) → world 0 ≡ level map → IsText key → OnScan look world key None map key
  scan_start map is text = record {
    front = [];
    way = refl;
    inner = tt;
    is_level = is;
    cut = refl;
    parts = refl;
    long = omega arith;
    text = text;
    near = λ near h. h;
  }

  pub on_start : (map : FinMap word_order ℕ) → world 0 ≡ level map → IsText key → OnTurn look world key None map key None
  unfolding scan_start
  on_start map is text = record { scan = scan_start map is text; none = λ h. h }

  module _ (child : Option ℕ) (map : FinMap word_order ℕ) (rest : List ℕ) (on : OnScan look world key child map rest) where
    -- The front of the key is what has been passed.
    passed : take (length key - length rest) key ≡ spelling on.front
    passed =
        ap (take (length key - length rest)) on.cut ∙ take_at (spelling on.front) rest (length key - length rest) (let long = ap length on.cut ∙ length-append (spelling on.front) rest in omega arith)

    -- Where what is met first is behind an entry, the turn is there.
    turned : (piece value : ℕ) → get map piece ≡ Some value → ((others : List ℕ) → IsEnd look world (seat_in child) piece others → IsNear look world (seat_in child) (pieces rest) (piece ∷ others))
        → IsTurnOf look world key (record { child = child; piece = piece; value = value; depth = length key - length rest })
    turned piece value is near = record {
      front = on.front;
      way = on.way;
      inner = on.inner;
      deep = passed;
      long = (let so = on.long in omega (arith, so));
      within = omega arith;
      parts = (let head = pieces-head rest in (piece_of rest, head.0, on.parts ∙ ap (λ ps. on.front ++ ps) head.1));
      map = map;
      is_level = on.is_level;
      held = is;
      near = λ others end. on.near (piece ∷ others) (near others end);
    }

    -- At the key's last piece what is met first is behind the entry that is.
    near_last : length rest < 8 → (found : ℕ) → IsNearestEntry look.side look.itself map (piece_of rest) (Some found) → (others : List ℕ) →
        IsEnd look world (seat_in child) found others → IsNear look world (seat_in child) (pieces rest) (found ∷ others)
    near_last short found nearest others end =
        subst (λ from. IsNear look world (seat_in child) from (found ∷ others)) (sym (pieces_short rest short))
        (last_near look world (seat_in child) map on.is_level (piece_of rest) found others (piece-IsFinal rest on.text short) nearest end)

    pub scan_last : (entry : Option (ℕ × ℕ)) → length rest < 8 → IsNearestEntry look.side look.itself map (piece_of rest) (piece_in entry) → IsEntryOf map entry →
        IfSome (turn_or child entry (length key - length rest) None) (IsTurnOf look world key)
    scan_last None short nearest value = tt
    scan_last (Some entry) short nearest value = turned entry.0 entry.1 value (near_last short entry.0 nearest)

    module _ (long : 8 ≤ length rest) where
      -- So it is where nothing behind the piece is met, beyond the piece.
      near_left : NoneBehind look world (seat_in child) (piece_of rest) (pieces (drop 8 rest)) → (found : ℕ) → IsNearestEntry look.side false map (piece_of rest) (Some found) →
          (others : List ℕ) → IsEnd look world (seat_in child) found others → IsNear look world (seat_in child) (pieces rest) (found ∷ others)
      near_left none found nearest others end =
          subst (λ from. IsNear look world (seat_in child) from (found ∷ others)) (sym (pieces_long rest long))
          (turned_near look world (seat_in child) map on.is_level (piece_of rest) found (pieces (drop 8 rest)) others none nearest end)

      pub scan_left : (entry : Option (ℕ × ℕ)) → IsNearestEntry look.side false map (piece_of rest) (piece_in entry) → IsEntryOf map entry →
          NoneBehind look world (seat_in child) (piece_of rest) (pieces (drop 8 rest)) → IfSome (turn_or child entry (length key - length rest) None) (IsTurnOf look world key)
      scan_left None nearest value none = tt
      scan_left (Some entry) nearest value none = turned entry.0 entry.1 value (near_left none entry.0 nearest)

      -- One level further down.
      pub scan_moved : (found : ℕ) (below : FinMap word_order ℕ) → get map (piece_of rest) ≡ Some found → world (suc found) ≡ level below → OnScan look world key (Some found) below (drop 8 rest)
      scan_moved found below is leads =
          let inner = piece-IsInner rest on.text long in
          let one = pieces_long rest long in
          record {
            front = on.front ++ piece_of rest ∷ [];
            way = walk-more world 0 on.front (seat_in child) map (piece_of rest) found on.way on.is_level is;
            inner = AreInner-more on.front (piece_of rest) on.inner inner;
            is_level = leads;
            cut =
                on.cut ∙ ap (λ bytes. spelling on.front ++ bytes) (sym (take-append-drop 8 rest) ∙ ap (λ bytes. bytes ++ drop 8 rest)
                (sym (bytes-piece rest on.text) ∙ sym (append-nil (piece_bytes (piece_of rest)))))
                ∙ sym (append_assoc (spelling on.front) (spelling (piece_of rest ∷ [])) (drop 8 rest))
                ∙ ap (λ bytes. bytes ++ drop 8 rest) (sym (spelling-append on.front (piece_of rest ∷ [])));
            parts = on.parts ∙ ap (λ ps. on.front ++ ps) one ∙ sym (append_assoc on.front (piece_of rest ∷ []) (pieces (drop 8 rest)));
            long = (let so = on.long in let more = length-append on.front (piece_of rest ∷ []) in let left = length-drop 8 rest in omega (arith, so, more, left));
            text = text-drop 8 rest on.text;
            near = λ near h. subst (IsNear look world 0 (pieces key)) (sym (append_assoc on.front (piece_of rest ∷ []) near))
                (on.near (piece_of rest ∷ near) (subst (λ from. IsNear look world (seat_in child) from (piece_of rest ∷ near)) (sym one)
                (moved_near look world (seat_in child) map on.is_level (piece_of rest) found (pieces (drop 8 rest)) near is inner h)));
          }

      -- A tail that is met.
      pub scan_tail : (found value : ℕ) (held : List ℕ) → get map (piece_of rest) ≡ Some found → world (suc found) ≡ tail held value → IsTrue (meets look world (pieces (drop 8 rest)) held)
          → IsTurnOf look world key (record { child = child; piece = piece_of rest; value = found; depth = length key - length rest })
      scan_tail found value held is tailed met =
          let inner = piece-IsInner rest on.text long in
          turned (piece_of rest) found is (λ others end. subst (λ from. IsNear look world (seat_in child) from (piece_of rest ∷ others)) (sym (pieces_long rest long))
          (moved_near look world (seat_in child) map on.is_level (piece_of rest) found (pieces (drop 8 rest)) others is inner
          (tail_end look world (seat_in child) map on.is_level (piece_of rest) found value held (pieces (drop 8 rest)) others is inner tailed met end)))

  module _ (child : Option ℕ) (map : FinMap word_order ℕ) (rest : List ℕ) (turn : Option Turn) (on : OnTurn look world key child map rest turn) where
    -- Where nothing is met but behind the entry that is met first, the turn is there; and else where it was.
    turns : (entry : Option (ℕ × ℕ)) → IsEntryOf map entry → ((found : ℕ) → piece_in entry ≡ Some found → (others : List ℕ) → IsEnd look world (seat_in child) found others →
        IsNear look world (seat_in child) (pieces rest) (found ∷ others))
        → (piece_in entry ≡ None → IsNone look world (seat_in child) (pieces rest))
        → IsTurn look world key (turn_or child entry (length key - length rest) turn)
    turns None value near none = on.none (none refl)
    turns (Some entry) value near none = turned child map rest on.scan entry.0 entry.1 value (near entry.0 refl)

    -- At the key's last piece.
    pub on_last : (entry : Option (ℕ × ℕ)) → length rest < 8 → IsNearestEntry look.side look.itself map (piece_of rest) (piece_in entry) → IsEntryOf map entry →
        IsTurn look world key (turn_or child entry (length key - length rest) turn)
    on_last entry short nearest value =
        let final = piece-IsFinal rest on.scan.text short in
        turns entry value
        (λ found is. near_last child map rest on.scan short found (subst (IsNearestEntry look.side look.itself map (piece_of rest)) is nearest))
        (λ is. subst (IsNone look world (seat_in child)) (sym (pieces_short rest short)) (last_none look world (seat_in child) map on.scan.is_level (piece_of rest) final
        (subst (IsNearestEntry look.side look.itself map (piece_of rest)) is nearest)))

    module _ (long : 8 ≤ length rest) where
      -- Where nothing behind the piece is met.
      pub on_left : (entry : Option (ℕ × ℕ)) → IsNearestEntry look.side false map (piece_of rest) (piece_in entry) → IsEntryOf map entry →
          NoneBehind look world (seat_in child) (piece_of rest) (pieces (drop 8 rest)) → IsTurn look world key (turn_or child entry (length key - length rest) turn)
      on_left entry nearest value none =
          turns entry value
          (λ found is. near_left child map rest on.scan long none found (subst (IsNearestEntry look.side false map (piece_of rest)) is nearest))
          (λ is. subst (IsNone look world (seat_in child)) (sym (pieces_long rest long)) (turned_none look world (seat_in child) map on.scan.is_level (piece_of rest)
          (pieces (drop 8 rest)) none (subst (IsNearestEntry look.side false map (piece_of rest)) is nearest)))

      -- One level further down.
      pub on_moved : (entry : Option (ℕ × ℕ)) (found : ℕ) (below : FinMap word_order ℕ) → IsNearestEntry look.side false map (piece_of rest) (piece_in entry) →
          IsEntryOf map entry → get map (piece_of rest) ≡ Some found → world (suc found) ≡ level below
          → OnTurn look world key (Some found) below (drop 8 rest) (turn_or child entry (length key - length rest) turn)
      unfolding scan_moved
      on_moved entry found below nearest value is leads = record {
        scan = scan_moved child map rest on.scan long found below is leads;
        none =
            λ none. on_left entry nearest value (none_child look world (seat_in child) map on.scan.is_level (piece_of rest) found (pieces (drop 8 rest)) is
            (piece-IsInner rest on.scan.text long) none);
      }

      -- A tail that is met.
      pub on_tail : (found value : ℕ) (held : List ℕ) → get map (piece_of rest) ≡ Some found → world (suc found) ≡ tail held value → IsTrue (meets look world (pieces (drop 8 rest)) held)
          → IsTurn look world key (Some (record { child = child; piece = piece_of rest; value = found; depth = length key - length rest }))
      on_tail found value held is tailed met = scan_tail child map rest on.scan long found value held is tailed met
