use Rattle.std.proofs.Common.{◌≡◌, ◌++◌, ◌∷◌, vec_capacity}
use Rattle.judy_records.specs.Texts.{words_in}
use Rattle.judy_records.proofs.text.with_record.Given as goal

abbrev pub invariant-loop-i : goal.invariant-loop-i
invariant-loop-i l = record {
  pushed : l.words.items ≡ l.fn.words.items ++ l.value ∷ words_in l.i l.bytes;
  capacity : vec_capacity l.words ≡ vec_capacity l.fn.words;
}
