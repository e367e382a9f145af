use Rattle.std.proofs.Common.{◌≡◌}
use Rattle.judy_records.specs.Texts.{spelled}
use Rattle.judy_records.proofs.words.fresh_word.Given as goal

-- the word is what the bytes so far spell
abbrev pub invariant-loop-place : goal.invariant-loop-place
invariant-loop-place l = l.word ≡ spelled l.place l.bytes
