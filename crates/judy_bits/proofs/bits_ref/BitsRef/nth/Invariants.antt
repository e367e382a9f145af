use Rattle.std.proofs.Common.{◌≡◌, ◌+◌, ◌*◌, length}
use Rattle.judy_bits.specs.BitWords.{is_set}
use Rattle.judy_bits.proofs.Ranges.{chosen}
use Rattle.judy_bits.proofs.bits_ref.BitsRef.nth.Given as goal

abbrev pub invariant-loop-word : goal.invariant-loop-word
invariant-loop-word l = length (chosen (is_set l.self-inside.words.now) 0 (64 * l.word)) + l.left ≡ l.at
