use Rattle.std.proofs.Common.{◌*◌}
use Rattle.judy_bits.proofs.MemberLemmas.{NoneSetBefore}
use Rattle.judy_bits.proofs.bits_ref.BitsRef.next_from.Given as goal

abbrev pub invariant-loop-word : goal.invariant-loop-word
invariant-loop-word l = NoneSetBefore l.self-inside.words.now l.byte (64 * l.word)
