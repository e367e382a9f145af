use Rattle.std.proofs.Common.{◌≡◌, ◌≢◌, ◌≤◌, ◌∙◌, ℕ, List, sym, subst, ap, arith, length, take}
use Rattle.std.specs.List.{All}
use Rattle.std.proofs.lemmas.List.{length-take-le}
use Rattle.judy_sl.specs.Arenas.{world_of, map_of}
use Rattle.judy_sl.specs.Pieces.{IsText}
use Rattle.judy_sl.specs.Scans.{value_in, StandsAt, IsScanned, IsFront, neighbour_along, nearest_key}
use Rattle.judy_sl.proofs.lemmas.scans.Fronts.{same_owner, same_room, front-written, nearest-fits}
use Rattle.judy_sl.proofs.lemmas.scans.ScanMaps.{scanned}
use Rattle.judy_sl.proofs.arena.Arena.nearest_in.Goals as goal

pub neighbour-found-requires-clause-whole : goal.neighbour-found-requires-clause-whole
neighbour-found-requires-clause-whole c = let len = c.new-key.ensures.len in let room = ap length c.new-key.ensures.bytes in omega (arith, len, room, c.requires.inside)

pub neighbour-found-requires-clause-without_zero : goal.neighbour-found-requires-clause-without_zero
neighbour-found-requires-clause-without_zero c =
    subst (λ bytes. All (λ byte. byte ≢ 0) bytes) (λ t. take (sym c.new-key.ensures.len t) (sym c.new-key.ensures.bytes t)) c.requires.without_zero

pub returns : goal.returns
returns c =
    let look = c.args.look in
    let world = world_of c.args.self.now in
    let buffer = c.args.buffer.now in
    let key = take c.args.len.now buffer in
    let before = c.new-key.result in
    let front = c.neighbour-found.new.key in
    let seen : take before.len before.buffer.now ≡ key = λ t. take (c.new-key.ensures.len t) (c.new-key.ensures.bytes t) in
    let got = c.neighbour-found.ensures.found in
    let are = subst (λ bytes. IsScanned look world bytes c.neighbour-found.result got.bytes) seen got.are in
    let text = subst IsText seen c.neighbour-found.ensures.is_text in
    let stays = c.neighbour-found.ensures.beyond in
    let room = same_room before.buffer.now front.buffer.now front.len before.buffer.ghost_name front.buffer.ghost_name stays ∙ ap length c.new-key.ensures.bytes in
    let owner = same_owner before.buffer.now front.buffer.now front.len before.buffer.ghost_name front.buffer.ghost_name stays ∙ c.new-key.ensures.same in
    let from = length-take-le c.args.len.now buffer c.requires.inside in
    let found = scanned look c.args.self.now key text got.bytes (value_in c.neighbour-found.result) are.0 in
    let fits = subst (λ (bytes : List ℕ). length bytes ≤ length buffer) (sym found.0)
    (nearest-fits (neighbour_along look.side look.itself (map_of c.args.self.now) key) key (length buffer) (omega (arith, from, c.requires.inside)) c.requires.room) in
    let written : take front.len front.buffer.now ≡ got.bytes = got.given.1 (omega (arith, fits, room)) in
    let last = c.buffer-1.given.1.1 (sym owner) in
    let nearest = nearest_key look (map_of c.args.self.now) key in
    let long = got.given.0 in
    let is = front-written before.buffer.now front.buffer.now front.len before.buffer.ghost_name front.buffer.ghost_name stays nearest (omega (arith, fits, room, long)) (written ∙ found.0) in
    record {
      key = rw (c.len.ensures, last) (subst (λ all. IsFront nearest all front.len front.buffer.now) c.new-key.ensures.bytes is);
      value = found.1;
      stands = rw (c.len.ensures, last) (subst (λ bytes. StandsAt world bytes c.neighbour-found.result) (sym written) are.1);
    }
