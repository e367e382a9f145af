use Rattle.std.proofs.Common.{◌≡◌, ◌+◌, ◌++◌, ℕ, List, length, nat_lt, take, filter}
use Rattle.judy_tails.specs.Writers.{StaysBeyond}
use Rattle.judy_sl.specs.Pieces.{piece_bytes}
use Rattle.judy_sl.proofs.pieces.push_each.Given as goal

abbrev pub invariant-loop-byte : goal.invariant-loop-byte
invariant-loop-byte g l = record {
  bytes : piece_bytes l.piece ≡ filter (λ byte. nat_lt 0 byte) l.byte-items;
  len : g.K.KeyWriter.len l.key ≡ g.K.KeyWriter.len l.fn.key + length (filter (λ byte. nat_lt 0 byte) (take l.byte-index l.byte-items));
  has : (front : List ℕ) → g.K.KeyWriter.has l.fn.key front → g.K.KeyWriter.has l.key (front ++ filter (λ byte. nat_lt 0 byte) (take l.byte-index l.byte-items));
  beyond : StaysBeyond g.K.KeyWriter.len g.K.KeyWriter.beyond l.fn.key l.key;
}
