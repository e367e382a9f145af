use Rattle.std.proofs.Common.{◌≡◌, [], length}
use Rattle.judy_shelf.specs.Shelves.{store_of}
use Rattle.judy_script.proofs.ReadLemmas.{Reading}
use Rattle.judy_script.proofs.runs.run.Given as goal

abbrev pub invariant-pieces : goal.invariant-pieces
invariant-pieces g l = record {
  reading :
      Reading (store_of l.fn.shelf) l.max_bytes l.left (g.R.Source.given l.fn.source) (g.R.Source.given l.source) (g.R.Source.ended l.fn.source) (g.R.Source.ended l.source)
      l.buffers.line (g.W.Sink.taken l.fn.sink) (g.W.Sink.taken l.sink) (store_of l.shelf);
  room : length l.room ≡ 65536;
  read_failures : (g.R.Source.tally l.source).failures ≡ (g.R.Source.tally l.fn.source).failures;
  write_failures : (g.W.Sink.tally l.sink).failures ≡ (g.W.Sink.tally l.fn.sink).failures;
  kept : g.W.Sink.kept l.fn.sink ≡ [] → g.W.Sink.kept l.sink ≡ [];
  content : g.R.Source.content l.source ≡ g.R.Source.content l.fn.source;
  unfailing : g.R.Source.is_unfailing l.source ≡ g.R.Source.is_unfailing l.fn.source;
}

abbrev pub decreases-pieces : goal.decreases-pieces
decreases-pieces g l = l.left
