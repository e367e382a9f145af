use Rattle.std.proofs.Common.{◌≡◌, ◌^◌, ◌<◌, take}
use Rattle.judy_model.specs.WordBytes.{number_of}
use Rattle.judy_hs.proofs.part.word_of.Given as goal

abbrev pub invariant-loop-byte : goal.invariant-loop-byte
invariant-loop-byte l = (l.word ≡ number_of (take l.byte-index l.bytes)) × (l.word < 256 ^ l.byte-index)
