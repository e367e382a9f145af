use Rattle.std.proofs.Common.{◌≡◌, ℕ, ◌<◌, List, ◌++◌, Option, length}
use Rattle.judy_model.specs.Stores.{Store}
use Rattle.judy_script.specs.Feeds.{Fed, RanInWholeLines}
use Rattle.judy_shelf.specs.Shelves.{store_of}
use Rattle.judy_script.proofs.FeedLemmas.{Feeding}
use Rattle.judy_script.proofs.engine.feed.Given as goal

abbrev pub invariant-lines : goal.invariant-lines
invariant-lines g l = record {
  feeding : Feeding l.piece l.rest l.fn.buffers.line l.buffers.line (g.W.Sink.taken l.fn.sink) (g.W.Sink.taken l.sink) (store_of l.fn.shelf) (store_of l.shelf);
  last :
      length l.rest < length l.piece → (first : Store) (fed : List ℕ) (before : Option (List ℕ)) →
      Fed first fed before l.fn.buffers.line (g.W.Sink.taken l.fn.sink) (store_of l.fn.shelf) → RanInWholeLines first (fed ++ l.piece) before (g.W.Sink.taken l.sink) (store_of l.shelf);
  kept : length l.rest ≡ length l.piece → g.W.Sink.kept l.sink ≡ g.W.Sink.kept l.fn.sink;
  failures : (g.W.Sink.tally l.sink).failures ≡ (g.W.Sink.tally l.fn.sink).failures;
}

abbrev pub decreases-lines : goal.decreases-lines
decreases-lines g l = length l.rest
