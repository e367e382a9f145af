use Rattle.std.proofs.Common.{◌*◌}
use Rattle.judy_bits.proofs.MemberLemmas.{NoneSet}
use Rattle.judy_bits.proofs.bits_ref.BitsRef.prev_from.Given as goal

abbrev pub invariant-loop-word : goal.invariant-loop-word
invariant-loop-word l = NoneSet l.self-inside.words.now (64 * l.word) l.byte
