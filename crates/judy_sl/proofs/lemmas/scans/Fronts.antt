-- A key at the front of a buffer, with what stands behind it.
use Rattle.std.proofs.Common.{◌≡◌, ◌≤◌, ◌++◌, ℕ, List, length, take, drop, Bool, subst, Option, Some, None, IfSome, unwrap_or, sym, ap, ◌∙◌, arith, ⊎_elim}
use Rattle.std.proofs.Math.Seq.{take-append_seam}
use Rattle.std.proofs.lemmas.Bool.{cases_lt}
use Rattle.std.proofs.lemmas.List.{length-take-le, take-append-drop, take_all}
use Rattle.judy_model.specs.declared.keys.TheConstants.{LONGEST_KEY}
use Rattle.judy_tails.specs.declared.writer.KeyRoom.{KeyRoom}
use Rattle.judy_tails.specs.Rooms.{bytes_in, IsWhole}
use Rattle.judy_sl.specs.declared.scans.Look.{Look}
use Rattle.judy_sl.specs.declared.arena.Arena.{Arena}
use Rattle.judy_sl.specs.Arenas.{world_of, map_of, AreWithin, AreShort}
use Rattle.judy_tails.specs.Writers.{WasGiven}
use Rattle.judy_sl.specs.declared.runs.LastRun.{LastRun}
use Rattle.judy_sl.specs.Scans.{upward, IsFront, IsNeighbour}
use Rattle.judy_sl.proofs.lemmas.pieces.Strings.{within-found}
use Rattle.judy_sl.specs.Runs.{Levels, IsAbove, IsClimbed, RunLeads, last_run}

-- The buffer ends with the key in front, and what was behind its place is there still.
pub is_front : (key before after : List ℕ) (len : ℕ) → len ≤ length after → take len after ≡ key → drop len after ≡ drop len before → IsFront key before len after
is_front key before after len inside front behind =
    let long : len ≡ length key = sym (length-take-le len after inside) ∙ ap length front in
    (long, sym (take-append-drop len after) ∙ ap (λ bytes. bytes ++ drop len after) front ∙ ap (λ bytes. key ++ bytes) (behind ∙ ap (λ n. drop n before) long))

-- The buffer begins with that key.
pub front-key : (key before after : List ℕ) (len : ℕ) → IsFront key before len after → take len after ≡ key
front-key key before after len is = ap (take len) is.1 ∙ ap (λ n. take n (key ++ drop (length key) before)) is.0 ∙ take-append_seam key (drop (length key) before)

-- What a writer at the front left there.
module _ (before after : List ℕ) (len was name : ℕ) (beyond : (place : ℕ) → len ≤ place →
    ◌≡◌ {A = List ℕ × ℕ × ℕ} (drop place after, length after, name) (drop place before, length before, was)) where
  stays : ◌≡◌ {A = List ℕ × ℕ × ℕ} (drop len after, length after, name) (drop len before, length before, was)
  stays = beyond len (omega arith)

  pub same_owner : name ≡ was
  same_owner = ap (λ all. all.2) stays

  pub same_room : length after ≡ length before
  same_room = ap (λ all. all.1) stays

  pub front-written : (key : List ℕ) → len ≤ length after → take len after ≡ key → IsFront key before len after
  front-written key inside front = is_front key before after len inside front (ap (λ all. all.0) stays)

-- A key that a scan leaves is no longer than a buffer that has room for each, and for the one from which it looked.
pub neighbour-fits : (look : Look) (arena : Arena) (room : ℕ) → AreWithin room (map_of arena) → (key after : List ℕ) (found : Option ℕ) → length key ≤ room →
    IsNeighbour look (world_of arena) key after found → length after ≤ room
neighbour-fits look arena room within key after None fits none = let same = ap length none.1 in omega (arith, same, fits)
neighbour-fits look arena room within key after (Some value) fits some = within-found arena room within after value some.1 some.2

-- Where the neighbour finds room beside the key from which a scan looked, so does what the scan leaves.
pub nearest-fits : (found : Option (List ℕ)) (key : List ℕ) (room : ℕ) → length key ≤ room → IfSome found (λ one. length one ≤ room) → length (unwrap_or found key) ≤ room
nearest-fits None key room fits also = fits
nearest-fits (Some one) key room fits also = also

-- The first elements are no more than that.
few : (count : ℕ) (all : List ℕ) → length (take count all) ≤ count
few count all = ⊎_elim (λ less. let same = ap length (take_all count all (omega (arith, less))) in omega (arith, same, less))
    (λ within. let same = length-take-le count all (omega (arith, within)) in omega (arith, same))
    (cases_lt (length all) count)

-- What an array has of a key that found room is no longer than it.
room-short : (room : KeyRoom) → IsWhole room → length (bytes_in room) ≤ LONGEST_KEY
room-short room whole = let most = few room.len room.bytes in omega (arith, whole, most)

-- The key to which a walk goes on finds room.
pub room-climbed : (itself : Bool) (arena : Arena) → AreShort (map_of arena) → (before : KeyRoom) → IsWhole before → (above : Levels) (last : LastRun) (found : Option ℕ) (room : KeyRoom) →
    WasGiven (λ (key : KeyRoom) bytes. (key.len ≡ length bytes) × (length bytes ≤ LONGEST_KEY → take key.len key.bytes ≡ bytes)) room
    (IsClimbed itself (world_of arena) (bytes_in before) above last found) →
    IsWhole room × IsAbove itself (world_of arena) (bytes_in before) (bytes_in room) found × RunLeads (world_of arena) (bytes_in room) above (last_run last)
room-climbed itself arena short before whole above last found room got =
    let fits = neighbour-fits (upward itself) arena LONGEST_KEY short (bytes_in before) got.bytes found (room-short before whole) got.are.0 in
    let long = got.given.0 in
    let are = sym (got.given.1 fits) in (
      omega (arith, long, fits),
      subst (λ bytes. IsAbove itself (world_of arena) (bytes_in before) bytes found) are got.are.0,
      subst (λ bytes. RunLeads (world_of arena) bytes above (last_run last)) are got.are.1,
    )
