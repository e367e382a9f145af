use Rattle.std.proofs.Common.{◌≡◌, ◌+◌, ◌++◌, ℕ, List, length, take}
use Rattle.judy_records.specs.Texts.{text_in}
use Rattle.judy_tails.specs.Writers.{StaysBeyond}
use Rattle.judy_tails.proofs.tail.Tail.push_to.Given as goal

abbrev pub invariant-loop-word : goal.invariant-loop-word
invariant-loop-word g l = record {
  len : g.K.KeyWriter.len l.key ≡ g.K.KeyWriter.len l.fn.key + length (text_in (take l.word-index l.word-items));
  has : (front : List ℕ) → g.K.KeyWriter.has l.fn.key front → g.K.KeyWriter.has l.key (front ++ text_in (take l.word-index l.word-items));
  beyond : StaysBeyond g.K.KeyWriter.len g.K.KeyWriter.beyond l.fn.key l.key;
}
