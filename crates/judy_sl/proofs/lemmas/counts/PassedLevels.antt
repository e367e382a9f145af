-- The levels that the way of a key passes, by their places.
use Rattle.std.proofs.Common.{◌≡◌, ℕ, zero, suc, ◌+◌, ◌*◌, ◌<◌, ◌≤◌, List, [], ◌∷◌, ◌++◌, length, take, drop, Option, None, Some, inl, inr, refl, sym, ap, subst, ◌∙◌, arith}
use Rattle.std.proofs.lemmas.List.{append-nil, append_assoc, length-append}
use Rattle.std.proofs.lemmas.Option.{none-some}
use Rattle.std.specs.FinMap.{FinMap, get}
use Rattle.judy_model.specs.Keys.{word_order}
use Rattle.judy_sl.specs.Pieces.{pieces, piece_of, ArePieces, AreInner}
use Rattle.judy_sl.specs.World.{World, Node, gone, tail, level, walk, step_node, step_entry}
use Rattle.judy_sl.specs.WorldInvariants.{IsWorld}
use Rattle.judy_sl.specs.Ways.{passed_there, passed_under, passed_from, levels_passed}
use Rattle.judy_sl.specs.Stepped.{entry_under}
use Rattle.judy_sl.specs.Counted.{IsAmong, AreOnce}
use Rattle.judy_sl.proofs.lemmas.pieces.PieceLemmas.{text_of_key, pieces_are, length-pieces}
use Rattle.judy_sl.proofs.lemmas.pieces.Ways.{step-parts, walk-behind, pieces_short, pieces_long}
use Rattle.judy_sl.proofs.lemmas.pieces.OnWay.{pieces-head}
use Rattle.judy_sl.specs.Strings.{IsString}

-- Nothing is left to be noted.
noted-all : (noted left all : List ℕ) → left ≡ [] → noted ++ left ≡ all → noted ≡ all
noted-all noted left all none so_far = sym (append-nil noted) ∙ ap (λ places. noted ++ places) (sym none) ∙ so_far

-- ---- one step

-- A key that ends in an entry passes no level behind it.
under-last : (found : Option ℕ) (go : ℕ → List ℕ) → passed_under found [] go ≡ []
under-last None go = refl
under-last (Some at) go = refl

pub passed-last : (world : World) (seat piece : ℕ) → passed_from world seat (piece ∷ []) ≡ []
passed-last world seat piece = under-last (entry_under (world seat) piece) (λ at. passed_there (world (suc at)) at (passed_from world (suc at) []))

-- Nor does one for which there is none.
pub passed-none : (world : World) (seat piece : ℕ) (rest : List ℕ) → entry_under (world seat) piece ≡ None → passed_from world seat (piece ∷ rest) ≡ []
passed-none world seat piece rest none = ap (λ found. passed_under found rest (λ at. passed_there (world (suc at)) at (passed_from world (suc at) rest))) none

module _ (world : World) (seat piece next : ℕ) (rest : List ℕ) (at : ℕ) (entry : entry_under (world seat) piece ≡ Some at) where
  pub passed-step : passed_from world seat (piece ∷ next ∷ rest) ≡ passed_there (world (suc at)) at (passed_from world (suc at) (next ∷ rest))
  passed-step = ap (λ found. passed_under found (next ∷ rest) (λ to. passed_there (world (suc to)) to (passed_from world (suc to) (next ∷ rest)))) entry

  -- The entry leads to a level,
  pub passed-level : (map : FinMap word_order ℕ) → world (suc at) ≡ level map → passed_from world seat (piece ∷ next ∷ rest) ≡ at ∷ passed_from world (suc at) (next ∷ rest)
  passed-level map is = passed-step ∙ ap (λ node. passed_there node at (passed_from world (suc at) (next ∷ rest))) is

  -- or to a tail.
  pub passed-tail : (held : List ℕ) (value : ℕ) → world (suc at) ≡ tail held value → passed_from world seat (piece ∷ next ∷ rest) ≡ []
  passed-tail held value is = passed-step ∙ ap (λ node. passed_there node at (passed_from world (suc at) (next ∷ rest))) is

-- ---- a step of a way of bytes

module _ (world : World) (seat : ℕ) (map : FinMap word_order ℕ) (is : world seat ≡ level map) (rest : List ℕ) where
  ends-none : get map (piece_of rest) ≡ None → passed_from world seat (pieces rest) ≡ []
  ends-none none =
      let head = pieces-head rest in
      ap (passed_from world seat) head.1 ∙ passed-none world seat (piece_of rest) head.0 (ap (λ node. entry_under node (piece_of rest)) is ∙ none)

  pub ends-last : length rest < 8 → passed_from world seat (pieces rest) ≡ []
  ends-last short = ap (passed_from world seat) (pieces_short rest short) ∙ passed-last world seat (piece_of rest)

  module _ (long : 8 ≤ length rest) (at : ℕ) (entry : get map (piece_of rest) ≡ Some at) where
    abbrev head : (more : List ℕ) × (pieces (drop 8 rest) ≡ piece_of (drop 8 rest) ∷ more)
    head = pieces-head (drop 8 rest)

    parts : pieces rest ≡ piece_of rest ∷ piece_of (drop 8 rest) ∷ head.0
    parts = pieces_long rest long ∙ ap (λ ps. piece_of rest ∷ ps) head.1

    entry-is : entry_under (world seat) (piece_of rest) ≡ Some at
    entry-is = ap (λ node. entry_under node (piece_of rest)) is ∙ entry

    ends-tail : (held : List ℕ) (value : ℕ) → world (suc at) ≡ tail held value → passed_from world seat (pieces rest) ≡ []
    ends-tail held value there = ap (passed_from world seat) parts ∙ passed-tail world seat (piece_of rest) (piece_of (drop 8 rest)) head.0 at entry-is held value there

    pub goes-on : (next : FinMap word_order ℕ) → world (suc at) ≡ level next → passed_from world seat (pieces rest) ≡ at ∷ passed_from world (suc at) (pieces (drop 8 rest))
    goes-on next there =
        ap (passed_from world seat) parts
        ∙ passed-level world seat (piece_of rest) (piece_of (drop 8 rest)) head.0 at entry-is next there
        ∙ ap (λ ps. at ∷ passed_from world (suc at) ps) (sym head.1)

    -- The level to which the way goes is noted behind those before it.
    pub noted-on : (next : FinMap word_order ℕ) → world (suc at) ≡ level next → (noted all : List ℕ) → noted ++ passed_from world seat (pieces rest) ≡ all →
        (noted ++ at ∷ []) ++ passed_from world (suc at) (pieces (drop 8 rest)) ≡ all
    noted-on next there noted all so_far = append_assoc noted (at ∷ []) (passed_from world (suc at) (pieces (drop 8 rest))) ∙ ap (λ places. noted ++ places) (sym (goes-on next there)) ∙ so_far

    -- All are noted where the way comes to a tail,
    pub noted-tail : (held : List ℕ) (value : ℕ) → world (suc at) ≡ tail held value → (noted all : List ℕ) → noted ++ passed_from world seat (pieces rest) ≡ all → noted ≡ all
    noted-tail held value there noted all so_far = noted-all noted (passed_from world seat (pieces rest)) all (ends-tail held value there) so_far

  -- where a level has no entry,
  pub noted-none : get map (piece_of rest) ≡ None → (noted all : List ℕ) → noted ++ passed_from world seat (pieces rest) ≡ all → noted ≡ all
  noted-none none noted all so_far = noted-all noted (passed_from world seat (pieces rest)) all (ends-none none) so_far

  -- and where the key ends.
  pub noted-last : length rest < 8 → (noted all : List ℕ) → noted ++ passed_from world seat (pieces rest) ≡ all → noted ≡ all
  noted-last short noted all so_far = noted-all noted (passed_from world seat (pieces rest)) all (ends-last short) so_far

-- ---- what is passed is on the way

-- A level to which first pieces lead from a seat.
pub record IsPassed (world : World) (seat : ℕ) (ps : List ℕ) (at : ℕ) : Type 0 where
  pub piece : ℕ
  pub front : List ℕ
  pub inner : AreInner (piece ∷ front)
  pub way : walk world seat (piece ∷ front) ≡ Some (suc at)
  pub rest : List ℕ
  pub parts : ps ≡ piece ∷ front ++ rest
  pub map : FinMap word_order ℕ
  pub is_level : world (suc at) ≡ level map

-- An entry that leads on is one of a level.
entry-node : (node : Node) (piece at : ℕ) (go : ℕ → Option ℕ) → entry_under node piece ≡ Some at → step_node node piece go ≡ go at
entry-node gone piece at go entry = absurd (none-some at entry)
entry-node (tail held value) piece at go entry = absurd (none-some at entry)
entry-node (level map) piece at go entry = ap (λ found. step_entry found go) entry

module _ (world : World) where
  among-there : (node : Node) (to at : ℕ) (more : List ℕ) → IsAmong (passed_there node to more) at → (map : FinMap word_order ℕ) × (node ≡ level map) × IsAmong (to ∷ more) at
  among-there gone to at more among = absurd among
  among-there (tail held value) to at more among = absurd among
  among-there (level map) to at more among = (map, refl, among)

  pub among-passed : (seat : ℕ) (ps : List ℕ) (at : ℕ) → ArePieces ps → IsAmong (passed_from world seat ps) at → IsPassed world seat ps at
  among-passed seat [] at are among = absurd among
  among-passed seat (piece ∷ []) at are among = absurd (subst (λ places. IsAmong places at) (passed-last world seat piece) among)
  among-passed seat (piece ∷ next ∷ rest) at are among = by_entry (entry_under (world seat) piece) refl (λ to. among-passed (suc to) (next ∷ rest) at are.1)
    where
      goes : (to : ℕ) → List ℕ
      goes to = passed_there (world (suc to)) to (passed_from world (suc to) (next ∷ rest))

      on : (to : ℕ) → entry_under (world seat) piece ≡ Some to → (front : List ℕ) → walk world seat (piece ∷ front) ≡ walk world (suc to) front
      on to entry front = entry-node (world seat) piece to (λ found. walk world (suc found) front) entry

      here : (to : ℕ) → entry_under (world seat) piece ≡ Some to → (map : FinMap word_order ℕ) → world (suc to) ≡ level map → at ≡ to → IsPassed world seat (piece ∷ next ∷ rest) at
      here to entry map is same = record {
        piece = piece;
        front = [];
        inner = (are.0, tt);
        way = on to entry [] ∙ ap (λ n. Some (suc n)) (sym same);
        rest = next ∷ rest;
        parts = refl;
        map = map;
        is_level = ap (λ n. world (suc n)) same ∙ is;
      }

      further : (to : ℕ) → entry_under (world seat) piece ≡ Some to → IsPassed world (suc to) (next ∷ rest) at → IsPassed world seat (piece ∷ next ∷ rest) at
      further to entry later = record {
        piece = piece;
        front = later.piece ∷ later.front;
        inner = (are.0, later.inner);
        way = on to entry (later.piece ∷ later.front) ∙ later.way;
        rest = later.rest;
        parts = ap (λ ps. piece ∷ ps) later.parts;
        map = later.map;
        is_level = later.is_level;
      }

      by_entry : (found : Option ℕ) → entry_under (world seat) piece ≡ found → ((to : ℕ) → IsAmong (passed_from world (suc to) (next ∷ rest)) at → IsPassed world (suc to) (next ∷ rest) at) →
          IsPassed world seat (piece ∷ next ∷ rest) at
      by_entry None entry on_from = absurd (subst (λ places. IsAmong places at) (passed-none world seat piece (next ∷ rest) entry) among)
      by_entry (Some to) entry on_from =
          let there = among-there (world (suc to)) to at (passed_from world (suc to) (next ∷ rest)) (subst (λ places. IsAmong places at) (passed-step world seat piece next rest to entry) among) in
          elim there.2 [
            | inl same ↦ here to entry there.0 there.1 same
            | inr later ↦ further to entry (on_from to later)
          ]

  -- ---- what is on the way is passed

  passed-first : (seat piece : ℕ) (front : List ℕ) (at next : ℕ) (rest : List ℕ) (map : FinMap word_order ℕ) → walk world seat (piece ∷ front) ≡ Some (suc at) →
      world (suc at) ≡ level map → (count : ℕ) → length front ≤ count → IsAmong (take (suc count) (passed_from world seat (piece ∷ front ++ next ∷ rest))) at
  passed-first seat piece [] at next rest map way is count short =
      let step = step-parts (world seat) piece (λ found. walk world (suc found) []) (suc at) way in
      let same : at ≡ step.found = (let goes : Some (suc step.found) ≡ Some (suc at) = step.goes in cc) in
      let entry : entry_under (world seat) piece ≡ Some step.found = ap (λ node. entry_under node piece) step.is ∙ step.entry in
      subst (λ places. IsAmong (take (suc count) places) at) (sym (passed-level world seat piece next rest step.found entry map (ap (λ n. world (suc n)) (sym same) ∙ is))) (inl same)
  passed-first seat piece (second ∷ front) at next rest map way is zero short = absurd (omega (arith, short))
  passed-first seat piece (second ∷ front) at next rest map way is (suc count) short =
      let step = step-parts (world seat) piece (λ found. walk world (suc found) (second ∷ front)) (suc at) way in
      let then = step-parts (world (suc step.found)) second (λ found. walk world (suc found) front) (suc at) step.goes in
      let entry : entry_under (world seat) piece ≡ Some step.found = ap (λ node. entry_under node piece) step.is ∙ step.entry in
      subst (λ places. IsAmong (take (suc (suc count)) places) at) (sym (passed-level world seat piece second (front ++ next ∷ rest) step.found entry then.map then.is))
      (inr (passed-first (suc step.found) second front at next rest map step.goes is count (omega (arith, short))))

-- The first of some places are some of them.
pub among-front : (count : ℕ) (places : List ℕ) (at : ℕ) → IsAmong (take count places) at → IsAmong places at
among-front zero places at among = absurd among
among-front (suc count) [] at among = absurd among
among-front (suc count) (place ∷ places) at (inl same) = inl same
among-front (suc count) (place ∷ places) at (inr among) = inr (among-front count places at among)

pub once-front : (count : ℕ) (places : List ℕ) → AreOnce places → AreOnce (take count places)
once-front zero places once = tt
once-front (suc count) [] once = tt
once-front (suc count) (place ∷ places) once = (λ among. once.0 (among-front count places place among), once-front count places once.1)

-- Inner pieces aren't all of a key's.
not-all : (front : List ℕ) → AreInner front → ArePieces (front ++ []) → ⊥
not-all [] inner are = are
not-all (piece ∷ []) inner are = inner.0 are
not-all (piece ∷ next ∷ front) inner are = not-all (next ∷ front) inner.1 are.1

-- Nor more than a key has.
passed-short : (world : World) (seat piece : ℕ) (rest : List ℕ) → length (passed_from world seat (piece ∷ rest)) ≤ length rest
passed-short world seat piece [] = let none = ap length (passed-last world seat piece) in omega (arith, none)
passed-short world seat piece (next ∷ rest) = by_entry (entry_under (world seat) piece) refl (λ at. passed-short world (suc at) next rest)
  where
    there-short : (node : Node) (at : ℕ) (more : List ℕ) → length (passed_there node at more) ≤ suc (length more)
    there-short gone at more = omega arith
    there-short (tail held value) at more = omega arith
    there-short (level map) at more = omega arith

    by_entry : (found : Option ℕ) → entry_under (world seat) piece ≡ found → ((at : ℕ) → length (passed_from world (suc at) (next ∷ rest)) ≤ length rest) →
        length (passed_from world seat (piece ∷ next ∷ rest)) ≤ length (next ∷ rest)
    by_entry None entry short_from = let none = ap length (passed-none world seat piece (next ∷ rest) entry) in omega (arith, none)
    by_entry (Some at) entry short_from =
        let same = ap length (passed-step world seat piece next rest at entry) in
        let one = there-short (world (suc at)) at (passed_from world (suc at) (next ∷ rest)) in
        let more = short_from at in
        omega (arith, same, one, more)

-- So the way of a key passes no more than it has whole pieces.
pub passed-few : (world : World) (key : List ℕ) (most : ℕ) → length key < 8 * most + 8 → length (levels_passed world key) ≤ most
passed-few world key most short_key =
    let head = pieces-head key in
    let short = passed-short world 0 (piece_of key) head.0 in
    let same = ap (λ ps. length (passed_from world 0 ps)) head.1 in
    let count = ap (λ (ps : List ℕ). length ps) head.1 in
    let long = length-pieces key in
    omega (arith, short, same, count, long, short_key)

-- ---- the levels of a key

module _ (world : World) (behind : ℕ → List ℕ) (is : IsWorld world behind) where
  once-from : (seat : ℕ) (ps : List ℕ) → ArePieces ps → AreOnce (passed_from world seat ps)
  once-from seat [] are = tt
  once-from seat (piece ∷ []) are = subst AreOnce (sym (passed-last world seat piece)) tt
  once-from seat (piece ∷ next ∷ rest) are = by_entry (entry_under (world seat) piece) refl (λ at. once-from (suc at) (next ∷ rest) are.1)
    where
      -- No way leads back to its seat.
      never : (at : ℕ) → IsPassed world (suc at) (next ∷ rest) at → ⊥
      never at later =
          let back = ap (λ (ps : List ℕ). length ps) (walk-behind world behind is (suc at) (later.piece ∷ later.front) (suc at) later.inner later.way) in
          let long = length-append (behind (suc at)) (later.piece ∷ later.front) in
          omega (arith, back, long)

      there-once : (node : Node) (at : ℕ) → AreOnce (passed_from world (suc at) (next ∷ rest)) → AreOnce (passed_there node at (passed_from world (suc at) (next ∷ rest)))
      there-once gone at once = tt
      there-once (tail held value) at once = tt
      there-once (level map) at once = (λ among. never at (among-passed world (suc at) (next ∷ rest) at are.1 among), once)

      by_entry : (found : Option ℕ) → entry_under (world seat) piece ≡ found → ((at : ℕ) → AreOnce (passed_from world (suc at) (next ∷ rest))) → AreOnce (passed_from world seat (piece ∷ next ∷ rest))
      by_entry None entry once_from = subst AreOnce (sym (passed-none world seat piece (next ∷ rest) entry)) tt
      by_entry (Some at) entry once_from = subst AreOnce (sym (passed-step world seat piece next rest at entry)) (there-once (world (suc at)) at (once_from at))

  module _ (key : List ℕ) (is_key : IsString key) where
    abbrev are : ArePieces (pieces key)
    are = pieces_are key (text_of_key key is_key)

    pub once-passed : AreOnce (levels_passed world key)
    once-passed = once-from 0 (pieces key) are

    pub among-way : (at : ℕ) → IsAmong (levels_passed world key) at → IsPassed world 0 (pieces key) at
    among-way at among = among-passed world 0 (pieces key) at are among

    -- A level to which first pieces lead is one of the first that are passed, and so of all.
    pub way-first : (front rest : List ℕ) (at : ℕ) (map : FinMap word_order ℕ) → AreInner front → walk world 0 front ≡ Some (suc at) → pieces key ≡ front ++ rest →
        world (suc at) ≡ level map → (count : ℕ) → length front ≤ count → IsAmong (take count (levels_passed world key)) at
    way-first [] rest at map inner way parts is count short = let same : 0 ≡ suc at = cc in cc
    way-first (piece ∷ front) [] at map inner way parts is count short = absurd (not-all (piece ∷ front) inner (subst ArePieces parts are))
    way-first (piece ∷ front) (next ∷ rest) at map inner way parts is zero short = absurd (omega (arith, short))
    way-first (piece ∷ front) (next ∷ rest) at map inner way parts is (suc count) short =
        subst (λ ps. IsAmong (take (suc count) (passed_from world 0 ps)) at) (sym parts) (passed-first world 0 piece front at next rest map way is count (omega (arith, short)))

    pub way-among : (front rest : List ℕ) (at : ℕ) (map : FinMap word_order ℕ) → AreInner front → walk world 0 front ≡ Some (suc at) → pieces key ≡ front ++ rest →
        world (suc at) ≡ level map → IsAmong (levels_passed world key) at
    way-among front rest at map inner way parts is = among-front (length front) (levels_passed world key) at (way-first front rest at map inner way parts is (length front) (omega arith))
