use Rattle.std.proofs.Common.{[], arith}
use Rattle.judy_model.specs.LineLists.{whole_lines}
use Rattle.judy_model.proofs.lemmas.runs.RunLaws.{Run-ample}
use Rattle.judy_laws.specs.LineExamples.{make_and_ins}
use Rattle.judy_laws.proofs.examples.run_ends.the_first_line_was_run_alone.Goals as goal

-- What the first line leaves is what it leaves with memory.
pub returns : goal.returns
returns c =
    let ran = Run-ample [] (whole_lines make_and_ins) in
    record { read = record { fits = omega arith; ran = ran }; too_long = record { exceeds = omega arith; ran = ran }; one_more = record { exceeds = omega arith; ran = ran } }
