-- How a call changes the tally, for the loops that try again.
use Rattle.std.proofs.Common.{◌≡◌, ℕ, ◌+◌, ◌-◌, ◌*◌, ◌<◌, ◌≤◌, Bool, true, false, List, length, refl, arith, ◌==◌, nat_lt, if◌then◌else◌, ◌&&◌}
use Rattle.std.specs.Prelude.{Result, Ok, Err, IfOk}
use Rattle.std.specs.Result.{result_unwrap_or}
use Rattle.std.proofs.lemmas.Bool.{ltb-true}
use Rattle.std.proofs.lemmas.Bool.Decides.{nat_tests}
use Rattle.judy_pipe.specs.declared.stop.Stop.{Stop}
use Rattle.judy_pipe.specs.declared.stop.Stop.TheVariants.{Interrupted, Failed}
use Rattle.judy_pipe.specs.declared.tally.Tally.{Tally}
use Rattle.judy_pipe.specs.Tally.{after_failure, after_move, after_stop, after_write}

-- an interruption by the answer of its test
abbrev interruption_by : Bool → Tally → Tally
interruption_by few t = if few then record { failures = t.failures; interruptions = t.interruptions + 1 } else after_failure t

interruption_by-failures : (few : Bool) (t : Tally) → t.failures ≤ (interruption_by few t).failures
interruption_by-failures true t = omega arith
interruption_by-failures false t = omega arith

interruption_by-fewer : (few : Bool) (t : Tally) → nat_lt t.interruptions 999 ≡ few → (interruption_by few t).failures ≡ t.failures →
    1000 - (interruption_by few t).interruptions < 1000 - t.interruptions
interruption_by-fewer true t is same = omega (arith, ltb-true t.interruptions 999 is)
interruption_by-fewer false t is same = absurd (omega arith)

-- a stop never takes a failure back
pub after_stop-failures : (t : Tally) (stop : Stop) → t.failures ≤ (after_stop t stop).failures
after_stop-failures t Interrupted = interruption_by-failures (nat_lt t.interruptions 999) t
after_stop-failures t Failed = omega arith

-- a stop that is no failure leaves fewer interruptions to come
pub after_stop-fewer : (t : Tally) (stop : Stop) → (after_stop t stop).failures ≡ t.failures →
    1000 - (after_stop t stop).interruptions < 1000 - t.interruptions
after_stop-fewer t Interrupted same = interruption_by-fewer (nat_lt t.interruptions 999) t refl same
after_stop-fewer t Failed same = absurd (omega arith)

-- a written count by the answer of its test
abbrev count_by_test : Bool → Tally → Tally
count_by_test nothing t = if nothing then after_failure t else after_move t

count_by_test-failures : (nothing : Bool) (t : Tally) → t.failures ≤ (count_by_test nothing t).failures
count_by_test-failures true t = omega arith
count_by_test-failures false t = omega arith

-- a write never takes a failure back
pub after_write-failures : (t : Tally) (piece : List ℕ) (answer : Result ℕ Stop) → t.failures ≤ (after_write t piece answer).failures
after_write-failures t piece (Ok n) = count_by_test-failures (nat_lt 0 (length piece) && n == 0) t
after_write-failures t piece (Err stop) = after_stop-failures t stop

count_by_test-fewer : (nothing : Bool) (t : Tally) (left n : ℕ) → 0 < left → n ≤ left → (nat_lt 0 left && n == 0) ≡ nothing →
    (count_by_test nothing t).failures ≡ t.failures →
    1001 * (left - n) + (1000 - (count_by_test nothing t).interruptions) < 1001 * left + (1000 - t.interruptions)
count_by_test-fewer true t left n some within is same = absurd (omega arith)
count_by_test-fewer false t left n some within is same = let moved : 0 < n = grind (arith, nat_tests) in omega arith

-- a write that is no failure takes a byte or leaves fewer interruptions to come
pub after_write-fewer : (t : Tally) (piece : List ℕ) (answer : Result ℕ Stop) → 0 < length piece → IfOk answer (λ n. n ≤ length piece) →
    (after_write t piece answer).failures ≡ t.failures →
    1001 * (length piece - result_unwrap_or answer 0) + (1000 - (after_write t piece answer).interruptions) < 1001 * length piece + (1000 - t.interruptions)
after_write-fewer t piece (Ok n) some within same =
    count_by_test-fewer (nat_lt 0 (length piece) && n == 0) t (length piece) n some within refl same
after_write-fewer t piece (Err stop) some within same = let fewer = after_stop-fewer t stop same in omega arith
