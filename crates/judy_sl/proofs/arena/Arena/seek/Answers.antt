use Rattle.std.proofs.Common.{◌≡◌, ◌∙◌, ℕ, Bool, List, take, Option, Some, is_some, sym, ap, refl, subst}
use Rattle.std.specs.FinMap.{FinMap, contains_key}
use Rattle.judy_model.specs.Keys.{word_order}
use Rattle.judy_sl.specs.declared.scans.Look.{Look}
use Rattle.judy_sl.specs.declared.scans.Turn.{Turn}
use Rattle.judy_sl.specs.declared.runs.LastRun.{LastRun}
use Rattle.judy_sl.specs.Pieces.{pieces}
use Rattle.judy_sl.specs.World.{World}
use Rattle.judy_sl.specs.Arenas.{world_of}
use Rattle.judy_sl.specs.Scans.{upward, IsNone, IsTurn, IsTurnOf}
use Rattle.judy_sl.specs.Runs.{IsBegunAbove}
use Rattle.judy_sl.proofs.lemmas.scans.RunWays.{turn_level, turn_begins}
use Rattle.judy_sl.proofs.arena.Arena.seek.Goals as goal

pub returns-in_err-turn : goal.returns-in_err-turn
returns-in_err-turn g c =
    let none = subst (IsTurn c.upward.result (world_of c.args.self.now) c.as_slice.result.now) c.in_err-turn.was c.turn.ensures.is_turn in
    let looked = subst (λ (look : Look). IsNone look (world_of c.args.self.now) 0 (pieces c.as_slice.result.now)) c.upward.ensures none in
    let stays = subst (λ bytes. IsNone (upward c.args.itself) (world_of c.args.self.now) 0 (pieces bytes)) c.as_slice.ensures.bytes looked in
    record {
      found = rw c.from_residual.ensures (record { bytes = g.K.KeyHolder.bytes c.args.key.now; given = c.as_slice.ensures.has; are = ((stays, refl), c.requires.leads) });
      beyond = λ place behind. refl;
    }

-- The turn that was found, above a key.
turn_at : (itself : Bool) (world : World) (seen key : List ℕ) (look : Look) (found : Option Turn) (turn : Turn) → IsTurn look world seen found → found ≡ Some turn →
    look ≡ upward itself → seen ≡ key → IsTurnOf (upward itself) world key turn
turn_at itself world seen key look found turn is was looks same =
    subst (λ bytes. IsTurnOf (upward itself) world bytes turn) same (subst (λ (l : Look). IsTurnOf l world seen turn) looks (subst (IsTurn look world seen) was is))

pub level_behind-level-requires-clause-leads : goal.level_behind-level-requires-clause-leads
level_behind-level-requires-clause-leads g c =
    let at = turn_at c.args.itself (world_of c.args.self.now) c.as_slice.result.now c.as_slice-2.result.now c.upward.result c.turn.result c.in_ok-turn.turn
    c.turn.ensures.is_turn c.in_ok-turn.was c.upward.ensures (c.as_slice.ensures.bytes ∙ sym c.as_slice-2.ensures.bytes) in
    (at.map, turn_level c.args.itself (world_of c.args.self.now) c.as_slice-2.result.now c.in_ok-turn.turn at)

pub pass_own-requires-clause-own : goal.pass_own-requires-clause-own
pass_own-requires-clause-own g c =
    let at = turn_at c.args.itself (world_of c.args.self.now) c.as_slice.result.now c.as_slice-2.result.now c.upward.result c.turn.result c.in_ok-turn.turn
    c.turn.ensures.is_turn c.in_ok-turn.was c.upward.ensures (c.as_slice.ensures.bytes ∙ sym c.as_slice-2.ensures.bytes) in
    let behind = c.level_behind-level.ensures at.map (turn_level c.args.itself (world_of c.args.self.now) c.as_slice-2.result.now c.in_ok-turn.turn at) in
    ap (λ (words : FinMap word_order ℕ). contains_key words c.in_ok-turn.turn.piece) behind.0 ∙ ap (λ (found : Option ℕ). is_some found) at.held

pub cut-requires-clause-within : goal.cut-requires-clause-within
cut-requires-clause-within g c =
    let at = turn_at c.args.itself (world_of c.args.self.now) c.as_slice.result.now (g.K.KeyHolder.bytes c.args.key.now) c.upward.result c.turn.result c.in_ok-turn.turn
    c.turn.ensures.is_turn c.in_ok-turn.was c.upward.ensures c.as_slice.ensures.bytes in
    at.within

pub climb-requires-clause-begun : goal.climb-requires-clause-begun
climb-requires-clause-begun g c =
    let world = world_of c.args.self.now in
    let key = g.K.KeyHolder.bytes c.args.key.now in
    let seen = c.as_slice-2.result.now in
    let turn = c.in_ok-turn.turn in
    let above = c.level_behind-level.new.above.items in
    let last : LastRun = record { run = record { level = c.level_behind-level.result; entries = c.pass_own.new.following }; known = c.level_behind-level.new.known } in
    let at = turn_at c.args.itself world c.as_slice.result.now seen c.upward.result c.turn.result turn
    c.turn.ensures.is_turn c.in_ok-turn.was c.upward.ensures (c.as_slice.ensures.bytes ∙ sym c.as_slice-2.ensures.bytes) in
    let behind = c.level_behind-level.ensures at.map (turn_level c.args.itself world seen turn at) in
    let none = c.pass_own.ensures.above ∙ ap (λ (both : List (ℕ × ℕ) × Option (List (ℕ × ℕ))). both.1) c.restart_from.ensures in
    let given = subst (λ bytes. g.K.KeyWriter.has c.cut.new.self (take turn.depth bytes)) (sym c.as_slice-2.ensures.bytes) c.cut.ensures.has in (
      key,
      subst (IsBegunAbove c.args.itself world (turn.piece, turn.value) above last g.K.KeyWriter.has c.cut.new.self) c.as_slice-2.ensures.bytes
          (turn_begins c.args.itself world seen turn at above last behind c.pass_own.ensures.beyond none g.K.KeyWriter.has c.cut.new.self given),
    )

pub returns : goal.returns
returns g c =
    let world = world_of c.args.self.now in
    let key = g.K.KeyHolder.bytes c.args.key.now in
    let seen = c.as_slice-2.result.now in
    let turn = c.in_ok-turn.turn in
    let above = c.level_behind-level.new.above.items in
    let last : LastRun = record { run = record { level = c.level_behind-level.result; entries = c.pass_own.new.following }; known = c.level_behind-level.new.known } in
    let at = turn_at c.args.itself world c.as_slice.result.now seen c.upward.result c.turn.result turn
    c.turn.ensures.is_turn c.in_ok-turn.was c.upward.ensures (c.as_slice.ensures.bytes ∙ sym c.as_slice-2.ensures.bytes) in
    let behind = c.level_behind-level.ensures at.map (turn_level c.args.itself world seen turn at) in
    let none = c.pass_own.ensures.above ∙ ap (λ (both : List (ℕ × ℕ) × Option (List (ℕ × ℕ))). both.1) c.restart_from.ensures in
    let given = subst (λ bytes. g.K.KeyWriter.has c.cut.new.self (take turn.depth bytes)) (sym c.as_slice-2.ensures.bytes) c.cut.ensures.has in
    let begun = subst (IsBegunAbove c.args.itself world (turn.piece, turn.value) above last g.K.KeyWriter.has c.cut.new.self) c.as_slice-2.ensures.bytes
    (turn_begins c.args.itself world seen turn at above last behind c.pass_own.ensures.beyond none g.K.KeyWriter.has c.cut.new.self given) in
    record { found = c.climb.ensures.climbed key begun; beyond = λ place behind. c.climb.ensures.beyond place behind ∙ c.cut.ensures.beyond place }
