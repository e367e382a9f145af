use Rattle.std.proofs.Common.{◌≡◌, ◌≤◌, ◌+◌, ◌++◌, ℕ, List, length, take, drop}
use Rattle.judy_tails.specs.Writers.{StaysBeyond}
use Rattle.judy_tails.proofs.writer.KeyFrontKeyWriter.put_first.Given as goal

abbrev pub invariant-loop-byte : goal.invariant-loop-byte
invariant-loop-byte l = record {
  len : l.self.len ≡ l.fn.self.len + l.byte-index;
  has : (key : List ℕ) → (l.fn.self.len ≡ length key) × (length key ≤ length l.fn.self.buffer.now → take l.fn.self.len l.fn.self.buffer.now ≡ key) →
      (l.self.len ≡ length (key ++ take l.byte-index l.byte-items))
      × (length (key ++ take l.byte-index l.byte-items) ≤ length l.self.buffer.now → take l.self.len l.self.buffer.now ≡ key ++ take l.byte-index l.byte-items);
  beyond : StaysBeyond (λ key. key.len) (λ key place. (drop place key.buffer.now, length key.buffer.now, key.buffer.ghost_name)) l.fn.self l.self;
}
