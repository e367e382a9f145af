use Rattle.std.proofs.Common.{ℕ, ◌+◌, List, length}
use Rattle.judy_sl.specs.declared.arena.Arena.{Arena}
use Rattle.judy_sl.specs.declared.branches.Branch.{Branch}
use Rattle.judy_sl.specs.Pieces.{pieces}
use Rattle.judy_sl.specs.Ways.{left_of}
use Rattle.judy_sl.specs.Arenas.{HasRoom}
use Rattle.judy_sl.specs.Branches.{AreSingle}
use Rattle.judy_sl.specs.Grown.{AreHung, IsGraft}
use Rattle.judy_sl.proofs.lemmas.inserts.Grafted.{IsGrafting}
use Rattle.judy_sl.proofs.lemmas.inserts.Hangs.{StandsStill}
use Rattle.judy_sl.proofs.arena.Arena.graft.Given as goal

abbrev pub invariant-loop-piece : goal.invariant-loop-piece
invariant-loop-piece l = record {
  room : HasRoom l.self (length l.upper.items + 1);
  stands : StandsStill l.fn.self l.self;
  singles : AreSingle l.upper.items;
  grafting : (before : Arena) (key : List ℕ) (left : ℕ) (made : Branch) (graft : IsGraft before key l.from l.at left made) → AreHung before l.fn.self made l.fn.branch →
      IsGrafting before l.self graft.clash.leads.front graft.clash.held (pieces (left_of key left)) graft.clash.value l.upper.items l.level;
}

abbrev pub decreases-loop-piece : goal.decreases-loop-piece
decreases-loop-piece l = length l.upper.items
