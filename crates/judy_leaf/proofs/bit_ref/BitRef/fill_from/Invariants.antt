use Rattle.std.proofs.Common.{◌≡◌, ℕ, ◌+◌, take, drop}
use Rattle.judy_bits.specs.ByteSets.{rank}
use Rattle.judy_leaf.specs.KeyLists.{keys_of, shift}
use Rattle.judy_leaf.specs.Fills.{made_of}
use Rattle.judy_leaf.specs.NextBits.{AreLeft}
use Rattle.judy_leaf.proofs.bit_ref.BitRef.fill_from.Given as goal

abbrev pub invariant-loop-place : goal.invariant-loop-place
invariant-loop-place g l = record {
  written : take l.place l.out ≡ take l.place (made_of g.E.FromPair.made (shift l.base (drop l.at l.self.pairs)));
  left : (byte : ℕ) × AreLeft l.words l.word l.left byte × (rank (keys_of l.self.pairs) byte ≡ l.at + l.place);
}
