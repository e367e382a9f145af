use Rattle.std.proofs.Common.{◌≡◌, ◌↔◌, IsTrue, take}
use Rattle.judy_records.specs.Texts.{words_in}
use Rattle.judy_records.proofs.text.is_of.Given as goal

abbrev pub invariant-loop-i : goal.invariant-loop-i
invariant-loop-i l = IsTrue l.same ↔ take l.i l.text ≡ words_in l.i l.bytes
