use Rattle.std.proofs.Common.{sym, ap, ◌∙◌}
use Rattle.std.proofs.lemmas.Option.{none-some}
use Rattle.std.specs.FinMap.{get}
use Rattle.judy_sl.specs.Arenas.{world_of}
use Rattle.judy_sl.specs.Pieces.{piece_of}
use Rattle.judy_sl.specs.Stepped.{entry_under}
use Rattle.judy_sl.specs.Ways.{seat_in}
use Rattle.judy_sl.proofs.lemmas.counts.WayLevels.{some_entry, under_stands}
use Rattle.judy_sl.proofs.arena.Arena.level_under.Goals as goal

pub entries_of-requires : goal.entries_of-requires
entries_of-requires c =
    let there = some_entry (entry_under (world_of c.args.self.now (seat_in c.args.child)) (piece_of c.args.rest.now)) c.requires in
    under_stands c.args.self.now c.args.child (piece_of c.args.rest.now) there.0 there.1

pub returns : goal.returns
returns c =
    ap (λ node. entry_under node (piece_of c.args.rest.now)) c.entries_of.ensures
    ∙ ap (get c.entries_of.result.now.map) (sym c.first_piece.ensures)
    ∙ sym c.get.ensures
    ∙ c.in-Some.is

pub unreachable-requires : goal.unreachable-requires
unreachable-requires c =
    let there = some_entry (entry_under (world_of c.args.self.now (seat_in c.args.child)) (piece_of c.args.rest.now)) c.requires in
    none-some there.0 (sym (ap (λ node. entry_under node (piece_of c.args.rest.now)) c.entries_of.ensures ∙ ap (get c.entries_of.result.now.map) (sym c.first_piece.ensures)
    ∙ sym c.get.ensures ∙ c.in-None.is) ∙ there.1)
