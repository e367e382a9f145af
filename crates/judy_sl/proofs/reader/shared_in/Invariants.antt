use Rattle.std.proofs.Common.{◌≡◌, ◌+◌, ◌≤◌, ℕ, List, length, take, drop}
use Rattle.judy_model.specs.DumpText.{shared_length}
use Rattle.judy_sl.specs.Pieces.{piece_of, IsText}
use Rattle.judy_sl.proofs.reader.shared_in.Given as goal

-- So many bytes are shared, and what more is shared stands behind them.
abbrev pub invariant-bytes : goal.invariant-bytes
invariant-bytes l =
    (l.shared ≡ l.byte-index)
    × ((text : List ℕ) → IsText text → l.fn.piece ≡ piece_of text → (l.byte-index ≤ length text)
    × (shared_length (take 8 text) l.bytes ≡ l.byte-index + shared_length (drop l.byte-index (take 8 text)) (drop l.byte-index l.bytes)))
