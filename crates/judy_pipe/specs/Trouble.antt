-- What a pipe over memory does at the place of its trouble.
use Rattle.std.specs.Prelude.{Bool, true, false, ℕ, ◌-◌, ◌==◌, ◌&&◌, nat_lt, min, if◌then◌else◌, Option, Some, None, Result, Ok, Err}
use Rattle.judy_pipe.specs.declared.stop.Stop.{Stop}
use Rattle.judy_pipe.specs.declared.stop.Stop.TheVariants.{Interrupted, Failed}
use Rattle.judy_pipe.specs.declared.mem_source.SourceTrouble.{SourceTrouble}
use Rattle.judy_pipe.specs.declared.mem_source.SourceTrouble.TheVariants as source
use Rattle.judy_pipe.specs.declared.mem_sink.SinkTrouble.{SinkTrouble}
use Rattle.judy_pipe.specs.declared.mem_sink.SinkTrouble.TheVariants as sink

-- how many of `wanted` bytes move after `moved`, so that none crosses a place that lies ahead
abbrev pub up_to : ℕ → ℕ → ℕ → ℕ
up_to at moved wanted = if nat_lt moved at then min wanted (at - moved) else wanted

-- how many interruptions are left after a call: one fewer where the call stands at their place
abbrev pub times_after : ℕ → ℕ → ℕ → ℕ
times_after at moved times = if at == moved then times - 1 else times

-- why a read stops after `given` bytes, if it does
abbrev pub source_stop : SourceTrouble → ℕ → Option Stop
source_stop source.Never given = None
source_stop (source.Fails at) given = if at == given then Some Failed else None
source_stop (source.Interrupts at times) given = if at == given && nat_lt 0 times then Some Interrupted else None

-- the trouble that is left after a read: an interruption is used up
abbrev pub source_trouble_after : SourceTrouble → ℕ → SourceTrouble
source_trouble_after source.Never given = source.Never
source_trouble_after (source.Fails at) given = source.Fails at
source_trouble_after (source.Interrupts at times) given = source.Interrupts at (times_after at given times)

-- how many of `wanted` bytes a read gives after `given`: it does not cross the place
abbrev pub source_reach : SourceTrouble → ℕ → ℕ → ℕ
source_reach source.Never given wanted = wanted
source_reach (source.Fails at) given wanted = up_to at given wanted
source_reach (source.Interrupts at times) given wanted = up_to at given wanted

-- whether there is no place of trouble
abbrev pub is_never : SourceTrouble → Bool
is_never source.Never = true
is_never (source.Fails at) = false
is_never (source.Interrupts at times) = false

-- what a write answers after `taken` bytes in place of taking any, if it does
abbrev pub sink_refusal : SinkTrouble → ℕ → Option (Result ℕ Stop)
sink_refusal sink.Never taken = None
sink_refusal (sink.Fails at) taken = if at == taken then Some (Err Failed) else None
sink_refusal (sink.Interrupts at times) taken = if at == taken && nat_lt 0 times then Some (Err Interrupted) else None
sink_refusal (sink.TakesNothing at) taken = if at == taken then Some (Ok 0) else None

-- the trouble that is left after a write: an interruption is used up
abbrev pub sink_trouble_after : SinkTrouble → ℕ → SinkTrouble
sink_trouble_after sink.Never taken = sink.Never
sink_trouble_after (sink.Fails at) taken = sink.Fails at
sink_trouble_after (sink.Interrupts at times) taken = sink.Interrupts at (times_after at taken times)
sink_trouble_after (sink.TakesNothing at) taken = sink.TakesNothing at

-- how many of `wanted` bytes a write takes after `taken`: it does not cross the place
abbrev pub sink_reach : SinkTrouble → ℕ → ℕ → ℕ
sink_reach sink.Never taken wanted = wanted
sink_reach (sink.Fails at) taken wanted = up_to at taken wanted
sink_reach (sink.Interrupts at times) taken wanted = up_to at taken wanted
sink_reach (sink.TakesNothing at) taken wanted = up_to at taken wanted
