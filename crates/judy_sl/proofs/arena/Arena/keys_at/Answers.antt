use Rattle.std.proofs.Common.{length, sym, ap, ◌∙◌}
use Rattle.judy_sl.specs.Arenas.{world_of}
use Rattle.judy_sl.proofs.lemmas.seats.Linked.{taken_of}
use Rattle.judy_sl.proofs.lemmas.seats.PlaceKinds.{level-taken}
use Rattle.judy_sl.proofs.lemmas.counts.KeysTold.{final_keys, inner_count, lone_told, level_counted}
use Rattle.judy_sl.proofs.arena.Arena.keys_at.Goals as goal
use Rattle.judy_sl.proofs.arena.Arena.keys_at.Goals.{then-piece-eq0-via-then-piece-eq0, then-piece-eq0-via-else-piece-eq0+then-not-is_level}

pub returns-then-piece-eq0 : goal.returns-then-piece-eq0
returns-then-piece-eq0 c = elim c.then-piece-eq0.branch [
  | then-piece-eq0-via-then-piece-eq0 w ↦ sym (ap length (final_keys (world_of c.args.self.now) (c.args.piece, c.args.value) w.if-piece-eq0.true))
  | then-piece-eq0-via-else-piece-eq0+then-not-is_level w ↦
      sym (
      inner_count (world_of c.args.self.now) (c.args.piece, c.args.value) w.if-piece-eq0.false
      ∙ lone_told c.args.self.now c.requires.is_arena c.args.value (sym w.is_level.ensures ∙ w.if-not-is_level.true) (c.requires.leads w.if-piece-eq0.false))
]

pub keys_told-requires : goal.keys_told-requires
keys_told-requires c = level-taken c.args.self.now c.args.value (sym c.is_level.ensures ∙ c.if-not-is_level.false) (taken_of c.args.self.now c.args.value (c.requires.leads c.if-piece-eq0.false))

pub returns : goal.returns
returns c =
    let level = level-taken c.args.self.now c.args.value (sym c.is_level.ensures ∙ c.if-not-is_level.false) (taken_of c.args.self.now c.args.value (c.requires.leads c.if-piece-eq0.false)) in
    c.from.ensures
    ∙ c.keys_told.ensures
    ∙ level_counted c.args.self.now c.requires.counted c.args.value level
    ∙ sym (inner_count (world_of c.args.self.now) (c.args.piece, c.args.value) c.if-piece-eq0.false)
