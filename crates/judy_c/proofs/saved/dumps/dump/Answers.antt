use Rattle.std.proofs.Common.{refl}
use Rattle.judy_shelf.specs.Versions.{format_of}
use Rattle.judy_c.specs.Saved.{bad_format, bad_name}
use Rattle.judy_c.proofs.SavedAnswers.{no_name_spelled}
use Rattle.judy_c.proofs.saved.dumps.dump.Goals as goal

pub returns-in_default-clause-answer : goal.returns-in_default-clause-answer
returns-in_default-clause-answer g c = (bad_format, refl, (c.in_default.ensures, refl))

pub returns-in_default-new-clause-answer : goal.returns-in_default-new-clause-answer
returns-in_default-new-clause-answer g c =
    (bad_name, refl, (format_of c.in-Some.version, c.in-Some.ensures, no_name_spelled c.args.name.now c.in_default-new.ensures, refl))
