use Rattle.std.proofs.Common.{◌≡◌, take, drop}
use Rattle.judy_leaf.specs.KeyLists.{shift}
use Rattle.judy_leaf.specs.Fills.{made_of}
use Rattle.judy_leaf.proofs.imm.ImmOf.fill_from.Given as goal

abbrev pub invariant-loop-place : goal.invariant-loop-place
invariant-loop-place g l = take l.place l.out ≡ take l.place (made_of g.E.FromPair.made (shift l.base (drop l.at l.self.pairs)))
