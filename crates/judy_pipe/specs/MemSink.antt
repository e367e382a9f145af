-- What a `MemSink` shows of itself, and what a write to it answers.
use Rattle.std.specs.Prelude.{ℕ, ◌-◌, ◌==◌, min, if◌then◌else◌, List, length, unwrap_or, Result, Ok, Err}
use Rattle.judy_pipe.specs.declared.stop.Stop.{Stop}
use Rattle.judy_pipe.specs.declared.stop.Stop.TheVariants.{Failed}
use Rattle.judy_pipe.specs.declared.mem_sink.SinkTrouble.{SinkTrouble}
use Rattle.judy_pipe.specs.declared.mem_sink.MemSink.{MemSink}
use Rattle.judy_pipe.specs.declared.tally.Tally.{Tally}
use Rattle.judy_pipe.specs.Trouble.{sink_refusal, sink_reach}

module _ {N : ℕ} where
  -- the bytes that it took so far
  abbrev pub taken_bytes : MemSink N → List ℕ
  taken_bytes s = s.held.items

  -- its failures and its interruptions in a row
  abbrev pub sink_tally : MemSink N → Tally
  sink_tally s = s.tally

  -- the most bytes that one write takes
  abbrev pub sink_most : MemSink N → ℕ
  sink_most s = s.most

  -- where it meets trouble, as far as the trouble is not used up
  abbrev pub sink_trouble : MemSink N → SinkTrouble
  sink_trouble s = s.trouble

  -- a write of a piece of this length is refused at the place of trouble and fails where the sink is
  -- full, and else takes as many bytes as the piece has, as one write takes and as there is room for,
  -- but none beyond a place that lies ahead
  abbrev pub sink_answer : MemSink N → ℕ → Result ℕ Stop
  sink_answer s piece =
      let taken = length s.held.items in
      unwrap_or (sink_refusal s.trouble taken)
      (if taken == N then Err Failed else Ok (sink_reach s.trouble taken (min (min piece s.most) (N - taken))))
