use Rattle.std.proofs.Common.{◌^◌, take}
use Rattle.judy_leaf.specs.KeyLists.{keys_of, low_pairs}
use Rattle.judy_leaf.specs.KeyChanges.{IsKeyChange}
use Rattle.judy_leaf.proofs.keys.append_packed.Given as goal

abbrev pub invariant-loop-at : goal.invariant-loop-at
invariant-loop-at g l = IsKeyChange g.row.W l.start 0 l.at (λ _. take l.at (keys_of (low_pairs (256 ^ g.row.W) l.pairs))) l.initial.block l.block
