use Rattle.std.proofs.Common.{refl, ◌∙◌, arith}
use Rattle.judy_script.proofs.FeedLemmas.{Feeding-nothing, Feeding-line, Feeding-rest, Feeding-cut, Feeding-shorter, Served-in_part, on_err_holds}
use Rattle.judy_script.proofs.engine.feed.Goals as goal

pub lines-init : goal.lines-init
lines-init g c = record { feeding = Feeding-nothing _ _ _ _; last = λ shorter. absurd (omega arith); kept = λ _. refl; failures = refl }

pub lines-preserved : goal.lines-preserved
lines-preserved g c = record {
  feeding =
      Feeding-line _ _ _ _ _ _ _ _ c.lines.invariant.feeding c.cut_at.result.0.now c.in-Some.after.now c.end_line.new.buffers.line _ _
      (rw c.in-Some.is at c.cut_at.ensures) c.end_line.ensures.cleared c.in_ok-end_line.ensures.ok;
  last = λ _.
      Feeding-cut _ _ _ _ _ _ _ _ c.lines.invariant.feeding c.cut_at.result.0.now c.in-Some.after.now _ _ (rw c.in-Some.is at c.cut_at.ensures)
      (λ kept holds. Served-in_part _ _ _ _ _ (c.in_ok-end_line.ensures.ok kept holds));
  kept = λ same.
      absurd (omega (arith, same, Feeding-shorter _ _ _ _ _ _ _ _ c.lines.invariant.feeding c.cut_at.result.0.now c.in-Some.after.now (rw c.in-Some.is at c.cut_at.ensures).0));
  failures = c.in_ok-end_line.ensures.failures ∙ c.lines.invariant.failures;
}

pub returns-in_default-clause-ok : goal.returns-in_default-clause-ok
returns-in_default-clause-ok g c =
    Feeding-rest _ _ _ _ _ _ _ _ c.lines.invariant.feeding c.cut_at.result.0.now c.push.new.self (rw c.in_default.is at c.cut_at.ensures) c.push.ensures

pub returns-in_err-end_line-clause-err : goal.returns-in_err-end_line-clause-err
returns-in_err-end_line-clause-err g c =
    on_err_holds c.from_residual.result
    (Feeding-cut _ _ _ _ _ _ _ _ c.lines.invariant.feeding c.cut_at.result.0.now c.in-Some.after.now _ _ (rw c.in-Some.is at c.cut_at.ensures) c.in_err-end_line.ensures.err)
