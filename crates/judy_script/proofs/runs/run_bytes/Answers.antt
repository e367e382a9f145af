use Rattle.std.proofs.Common.{◌≡◌, List, ℕ, Some, ap, ◌∙◌, []}
use Rattle.std.specs.Prelude.{unwrap_or, take, Option}
use Rattle.judy_pipe.specs.Content.{slice_in_order}
use Rattle.judy_pipe.specs.Pipe.{GivesInOrder, grown}
use Rattle.judy_script.proofs.ReadLemmas.{RanInPart-script}
use Rattle.judy_script.proofs.runs.run_bytes.Goals as goal

pub returns-in-Err-Write-clause-write : goal.returns-in-Err-Write-clause-write
returns-in-Err-Write-clause-write g c =
    let left = rw c.in-Err-Write.field-0-is at c.in-Err-Write.ensures.left in
    let source = c.run.new.source in
    let same : source.bytes.now ≡ c.args.script.now = ap (λ known. unwrap_or known []) (c.in-Err-Write.ensures.content ∙ c.new-source.ensures.content) in
    let given : ◌≡◌ {A = Option (List ℕ)} (Some (take source.given source.bytes.now)) (Some left.0) = left.1 ∙ ap (λ known. grown known left.0) c.new-source.ensures.given in
    let order : GivesInOrder c.args.script.now (Some left.0) (Some source.ended) = rw (← same, ← given) (slice_in_order source.bytes.now source.given source.ended source.ends_last) in
    RanInPart-script _ _ _ _ _ c.args.script.now (Some c.new-source.result.ended) (Some source.ended) left.0 order c.new-source.ensures.ended left.2
