use Rattle.std.proofs.Common.{◌≡◌, ◌≤◌, ◌+◌, ◌++◌, ℕ, List, length, take}
use Rattle.judy_model.specs.declared.keys.TheConstants.{LONGEST_KEY}
use Rattle.judy_tails.proofs.writer.KeyRoomKeyWriter.put_first.Given as goal

abbrev pub invariant-loop-byte : goal.invariant-loop-byte
invariant-loop-byte l = record {
  len : l.self.len ≡ l.fn.self.len + l.byte-index;
  has : (key : List ℕ) → l.fn.self.len ≡ length key → (length key ≤ LONGEST_KEY → take l.fn.self.len l.fn.self.bytes ≡ key) →
      length key + l.byte-index ≤ LONGEST_KEY → take l.self.len l.self.bytes ≡ key ++ take l.byte-index l.byte-items;
}
