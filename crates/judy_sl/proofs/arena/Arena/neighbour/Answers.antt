use Rattle.std.proofs.Common.{◌≡◌, ◌≤◌, ◌∙◌, List, ℕ, length, Option, Some, refl, subst}
use Rattle.judy_sl.specs.declared.scans.Look.{Look}
use Rattle.judy_sl.specs.declared.scans.Turn.{Turn}
use Rattle.judy_sl.specs.Pieces.{pieces, IsText}
use Rattle.judy_sl.specs.World.{World}
use Rattle.judy_sl.specs.Arenas.{world_of}
use Rattle.judy_sl.specs.Scans.{IsNone, IsTurn, IsTurnOf}
use Rattle.judy_sl.proofs.arena.Arena.neighbour.Goals as goal

pub returns-in_err-turn : goal.returns-in_err-turn
returns-in_err-turn g c =
    let none = subst (IsTurn c.args.look (world_of c.args.self.now) c.as_slice.result.now) c.in_err-turn.was c.turn.ensures.is_turn in
    let stays = subst (λ bytes. IsNone c.args.look (world_of c.args.self.now) 0 (pieces bytes)) c.as_slice.ensures.bytes none in
    record {
      is_text = subst IsText c.as_slice.ensures.bytes c.turn.ensures.is_text;
      within = subst (λ (bytes : List ℕ). length bytes ≤ g.K.KeyHolder.room c.args.key.now) c.as_slice.ensures.bytes c.as_slice.ensures.within;
      found = rw c.from_residual.ensures (record { bytes = g.K.KeyHolder.bytes c.args.key.now; given = c.as_slice.ensures.has; are = ((stays, refl), tt) });
      beyond = λ place behind. refl;
    }

-- The turn that was found.
turn_at : (look : Look) (world : World) (seen key : List ℕ) (found : Option Turn) (turn : Turn) → IsTurn look world seen found → found ≡ Some turn → seen ≡ key → IsTurnOf look world key turn
turn_at look world seen key found turn is was same = subst (λ bytes. IsTurnOf look world bytes turn) same (subst (IsTurn look world seen) was is)

pub cut-requires-clause-within : goal.cut-requires-clause-within
cut-requires-clause-within g c =
    let at = turn_at c.args.look (world_of c.args.self.now) c.as_slice.result.now (g.K.KeyHolder.bytes c.args.key.now) c.turn.result c.in_ok-turn.turn
    c.turn.ensures.is_turn c.in_ok-turn.was c.as_slice.ensures.bytes in
    at.within

pub follow-requires-clause-begun : goal.follow-requires-clause-begun
follow-requires-clause-begun g c =
    let key = g.K.KeyHolder.bytes c.args.key.now in
    let at = turn_at c.args.look (world_of c.args.self.now) c.as_slice.result.now key c.turn.result c.in_ok-turn.turn c.turn.ensures.is_turn c.in_ok-turn.was c.as_slice.ensures.bytes in
    (key, record { at = at; given = c.cut.ensures.has })

pub returns : goal.returns
returns g c =
    let key = g.K.KeyHolder.bytes c.args.key.now in
    let at = turn_at c.args.look (world_of c.args.self.now) c.as_slice.result.now key c.turn.result c.in_ok-turn.turn c.turn.ensures.is_turn c.in_ok-turn.was c.as_slice.ensures.bytes in
    record {
      is_text = subst IsText c.as_slice.ensures.bytes c.turn.ensures.is_text;
      within = subst (λ (bytes : List ℕ). length bytes ≤ g.K.KeyHolder.room c.args.key.now) c.as_slice.ensures.bytes c.as_slice.ensures.within;
      found = c.follow.ensures.found key (record { at = at; given = c.cut.ensures.has });
      beyond = λ place behind. c.follow.ensures.beyond place behind ∙ c.cut.ensures.beyond place;
    }
