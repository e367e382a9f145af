use Rattle.std.proofs.Common.{◌≡◌, refl, sym, ap, ◌∙◌}
use Rattle.judy_sl.specs.Pieces.{pieces}
use Rattle.judy_sl.specs.World.{gone, tail, level}
use Rattle.judy_sl.specs.Arenas.{node_of}
use Rattle.judy_sl.specs.Grown.{IsGrafted}
use Rattle.judy_sl.proofs.lemmas.seats.Linked.{taken_of}
use Rattle.judy_sl.proofs.lemmas.pieces.PieceLemmas.{text_of_key}
use Rattle.judy_sl.proofs.lemmas.pieces.Exact.{ends-text}
use Rattle.judy_sl.proofs.lemmas.inserts.Splits.{hung-taken, hung-entry, split-sound, split-graft, split-gap, split-clash, split-added, split-counted}
use Rattle.judy_sl.proofs.lemmas.counts.LedLevels.{stays_same}
use Rattle.judy_sl.proofs.arena.Arena.split_held.Goals.{After-graft-top}
use Rattle.judy_sl.proofs.arena.Arena.split_held.Goals as goal

-- The key is added.
done : (c : After-graft-top) → IsGrafted c.make_room.new.self c.graft-top.new.self c.args.key.now c.args.left c.graft-top.result
done c =
    c.graft-top.ensures c.make_room.new.self c.args.key.now c.args.left c.in_ok-made.made
    (split-graft c.args.self.now c.requires.is_arena c.requires.led c.requires.counted c.args.key.now c.requires.is_key c.args.from c.args.at c.args.left
    c.requires.clash c.args.held.now c.args.held.now c.args.value c.requires.held refl c.in_ok-made.made
    c.in_ok-made.ensures c.make_room.new.self c.make_room.ensures.same)
    c.in_ok-hang_both.ensures.hung

pub hang_both-requires : goal.hang_both-requires
hang_both-requires c =
    split-sound c.args.self.now c.requires.is_arena c.requires.led c.requires.counted c.args.key.now c.requires.is_key c.args.from c.args.at c.args.left
    c.requires.clash c.args.held.now c.args.held.now c.args.value c.requires.held refl c.in_ok-made.made c.in_ok-made.ensures

pub graft-top-requires-clause-taken : goal.graft-top-requires-clause-taken
graft-top-requires-clause-taken c =
    hung-taken c.args.self.now c.args.key.now c.args.from c.args.at c.args.left c.requires.clash c.make_room.new.self c.hang_both.new.self c.make_room.ensures.same
    c.in_ok-made.made c.hang_both.new.branch c.in_ok-hang_both.ensures.hung

pub graft-top-requires-clause-entry : goal.graft-top-requires-clause-entry
graft-top-requires-clause-entry c =
    hung-entry c.args.self.now c.args.key.now c.args.from c.args.at c.args.left c.requires.clash c.make_room.new.self c.hang_both.new.self c.make_room.ensures.same
    c.in_ok-made.made c.hang_both.new.branch c.in_ok-hang_both.ensures.hung

-- The way goes on from the top level, which is there.
pub child-requires : goal.child-requires
child-requires c =
    let grafted = done (goal.at.child-requires c).After-graft-top in
    taken_of c.graft-top.new.self c.graft-top.result (λ none. let g : level grafted.map ≡ gone = sym grafted.on.is_level ∙ none in cc)

pub unreachable-requires : goal.unreachable-requires
unreachable-requires c =
    let grafted = done (goal.at.unreachable-requires c).After-graft-top in
    (let g : level grafted.map ≡ tail (pieces c.in-Tail.field-0.0) c.in-Tail.field-0.1 = sym grafted.on.is_level ∙ ap node_of c.in-Tail.ensures in cc)

pub walk_on-requires-clause-is_arena : goal.walk_on-requires-clause-is_arena
walk_on-requires-clause-is_arena c = (done (goal.at.walk_on-requires-clause-is_arena c).After-graft-top).is_arena

pub walk_on-requires-clause-ends : goal.walk_on-requires-clause-ends
walk_on-requires-clause-ends c = ends-text c.args.key.now (text_of_key c.args.key.now c.requires.is_key)

pub walk_on-requires-clause-within : goal.walk_on-requires-clause-within
walk_on-requires-clause-within c = (done (goal.at.walk_on-requires-clause-within c).After-graft-top).within

pub walk_on-requires-clause-on : goal.walk_on-requires-clause-on
walk_on-requires-clause-on c =
    let on = (done (goal.at.walk_on-requires-clause-on c).After-graft-top).on in
    record { leads = on.leads; is_level = ap node_of c.in-Level.ensures; text = on.text; is_left = on.is_left; within = on.within }

pub unreachable-requires-in-Gap : goal.unreachable-requires-in-Gap
unreachable-requires-in-Gap c =
    split-gap c.args.self.now c.make_room.new.self c.graft-top.new.self c.args.key.now c.make_room.ensures.same
    (done (goal.at.unreachable-requires-in-Gap c).After-graft-top) c.in-Gap.field-0 c.in-Gap.field-1 (c.in-Gap.ensures.way (text_of_key c.args.key.now c.requires.is_key))

pub unreachable-requires-in-Clash : goal.unreachable-requires-in-Clash
unreachable-requires-in-Clash c =
    split-clash c.args.self.now c.make_room.new.self c.graft-top.new.self c.args.key.now c.make_room.ensures.same
    (done (goal.at.unreachable-requires-in-Clash c).After-graft-top) c.in-Clash.field-0 c.in-Clash.field-1 c.in-Clash.field-2 (c.in-Clash.ensures.way (text_of_key c.args.key.now c.requires.is_key))

pub returns-clause-added : goal.returns-clause-added
returns-clause-added c =
    split-added c.args.self.now c.make_room.new.self c.graft-top.new.self c.args.key.now c.make_room.ensures.same (done (goal.at.returns-clause-added c).After-graft-top) c.in-At.place
    (c.in-At.ensures.way (text_of_key c.args.key.now c.requires.is_key))

pub returns-clause-counted : goal.returns-clause-counted
returns-clause-counted c = split-counted c.args.self.now c.make_room.new.self c.graft-top.new.self c.args.key.now c.make_room.ensures.same (done (goal.at.returns-clause-counted c).After-graft-top)

pub returns-clause-stays : goal.returns-clause-stays
returns-clause-stays c =
    stays_same c.args.self.now c.make_room.new.self c.graft-top.new.self c.make_room.ensures.same (done (goal.at.returns-clause-stays c).After-graft-top).stays
