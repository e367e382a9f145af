use Rattle.std.proofs.Common.{◌≡◌, ◌/◌, ◌-◌, length}
use Rattle.judy_hs.specs.Eights.{words_from}
use Rattle.judy_hs.proofs.hash.by_eights.Given as goal

-- the hash of the rest from here on is that of all bytes
abbrev pub invariant-chunks : goal.invariant-chunks
invariant-chunks l = words_from ((length l.rest - 1) / 8) l.hash l.rest ≡ words_from ((length l.bytes - 1) / 8) 14695981039346656037 l.bytes

abbrev pub decreases-chunks : goal.decreases-chunks
decreases-chunks l = length l.rest
