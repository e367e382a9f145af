use Rattle.std.proofs.Common.{◌≡◌, ◌++◌, drop}
use Rattle.judy_records.specs.Texts.{words_in}
use Rattle.judy_records.proofs.text.write.Given as goal

abbrev pub invariant-loop-i : goal.invariant-loop-i
invariant-loop-i l = l.text ≡ words_in l.i l.bytes ++ drop l.i l.fn.text
