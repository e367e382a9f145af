use Rattle.std.proofs.Common.{ap, ◌∙◌}
use Rattle.std.specs.Int.{from_be_bytes, w64}
use Rattle.judy_records.specs.Texts.{first_word}
use Rattle.judy_records.proofs.Spelling.{from_be_bytes-spelled}
use Rattle.judy_records.proofs.words.first_word.Goals as goal

pub returns-in-Some : goal.returns-in-Some
unfolding first_word
returns-in-Some c =
    c.from_be_bytes.ensures ∙ ap (from_be_bytes w64) c.in-Some.ensures.cases.same ∙ from_be_bytes-spelled c.args.bytes.now c.in-Some.ensures.cases.enough
