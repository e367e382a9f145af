use Rattle.std.proofs.Common.{◌≡◌, ◌+◌, ◌*◌, ◌^◌, ◌≤◌}
use Rattle.judy_model.specs.WordBytes.{number_of}
use Rattle.judy_bits.specs.ByteSets.{rank}
use Rattle.judy_query.specs.Rooms.{IsRun, branch_words, edge_word}
use Rattle.judy_query.proofs.rooms.room_from.Given as goal

abbrev pub invariant-loop-at : goal.invariant-loop-at
invariant-loop-at g l =
    (l.byte ≤ 256)
    × (rank l.branch.bytes l.byte ≡ l.at)
    × IsRun (branch_words l.first) (edge_word l.first) (l.first.base + (number_of l.branch.skip * 256 + l.byte) * 256 ^ l.branch.width)
